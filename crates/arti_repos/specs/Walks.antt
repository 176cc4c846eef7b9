-- Where a repository's items are looked for, and what its patterns let through.
use Rattle.std.specs.Prelude.{ℕ, zero, suc, Bool, false, not, ◌&&◌, if◌then◌else◌, List, [], ◌∷◌, ◌++◌, length, map, codes, filter, Option, Some, None}
use Rattle.std.specs.Option.{option_or, option_map_or}
use Rattle.std.specs.List.{flat_map, list_any}
use Rattle.arti_wild.specs.Ant.{ant_path}
use Rattle.arti_rows.specs.declared.rows.Class.{Class}
use Rattle.arti_rows.specs.declared.rows.Class.TheVariants.{Local, Remote, Virtual}
use Rattle.arti_rows.specs.declared.rows.RepoDef.{RepoDef}
use Rattle.arti_repos.specs.declared.place.PlaceKind.{PlaceKind}
use Rattle.arti_repos.specs.declared.place.PlaceKind.TheVariants.{Local as AsLocal, Cache as AsCache, Remote as AsRemote}
use Rattle.arti_repos.specs.declared.place.Place.{Place}
use Rattle.arti_repos.specs.Definitions.{is_of, has_key, definition, is_defined, is_cache, cached_by, cache_key}

-- ---- the locals and remotes that a key stands for

-- a virtual's members stand in its place, in listed order; a local and a remote are themselves
abbrev pub expanded : (List ℕ → List RepoDef) → Option RepoDef → List RepoDef
expanded inner None = []
expanded inner (Some d) = if is_of Virtual d then flat_map inner d.members else d ∷ []

-- the same so many levels deep
unfoldable pub expand : ℕ → List RepoDef → List ℕ → List RepoDef
expand zero defs key = []
expand (suc n) defs key = expanded (λ member. expand n defs member) (definition defs key)

-- each at its first place: without those that stand earlier
abbrev pub firsts : List RepoDef → List RepoDef → List RepoDef
firsts earlier [] = []
firsts earlier (d ∷ rest) = if list_any (has_key d.key) earlier then firsts earlier rest else d ∷ firsts (earlier ++ d ∷ []) rest

-- No definition leads back to itself, so there are no more levels than definitions.
abbrev pub leaves : List RepoDef → List ℕ → List RepoDef
leaves defs key = firsts [] (expand (length defs) defs key)

-- ---- places

abbrev pub key_as : PlaceKind → List ℕ → List ℕ
key_as AsLocal key = key
key_as AsCache key = cache_key key
key_as AsRemote key = key

abbrev pub place_as : PlaceKind → RepoDef → Place
place_as kind d = record { key = key_as kind d.key; kind = kind }

-- the places of this kind that those of a class have
abbrev pub places_as : Class → PlaceKind → List RepoDef → List Place
places_as class kind found = map (place_as kind) (filter (is_of class) found)

-- locals, then the caches of remotes, then the remotes
abbrev pub arranged : List RepoDef → List Place
arranged found = places_as Local AsLocal found ++ places_as Remote AsCache found ++ places_as Remote AsRemote found

-- the places of a key, none where it is neither a definition's nor a cache's
abbrev pub walk : List RepoDef → List ℕ → Option (List Place)
walk defs key =
    if is_defined defs key then Some (arranged (leaves defs key))
    else (if is_cache defs key then Some (record { key = key; kind = AsCache } ∷ []) else None)

-- ---- patterns

-- no pattern that includes stands for all paths
abbrev pub includes : List ℕ → List ℕ → Bool
includes [] path = ant_path (codes "**/*") path
includes (first ∷ more) path = ant_path (first ∷ more) path

-- one of those that include fits, and none that excludes
abbrev pub lets_through : List ℕ → RepoDef → Bool
lets_through path d = includes d.includes path && not (ant_path d.excludes path)

-- the definition of a key, of a cache its remote's
abbrev pub behind : List RepoDef → List ℕ → Option RepoDef
behind defs key = option_or (definition defs key) (cached_by defs key)

abbrev pub admits : List RepoDef → List ℕ → List ℕ → Bool
admits defs key path = option_map_or (lets_through path) (behind defs key) false

-- ---- deploys

abbrev pub target_of : RepoDef → Class → Option (List ℕ)
target_of d Local = Some d.key
target_of d Remote = None
target_of d Virtual = d.default_to

abbrev pub target_in : Option RepoDef → Option (List ℕ)
target_in None = None
target_in (Some d) = target_of d d.class

-- where a deploy goes: a local's own key, the default of a virtual
abbrev pub deploy_to : List RepoDef → List ℕ → Option (List ℕ)
deploy_to defs key = target_in (definition defs key)
