-- What contracts see of an item's key.
use Rattle.std.specs.Prelude.{◌≡◌, MatchBool, ℕ, Bool, ◌==◌, ◌&&◌, if◌then◌else◌, map, List, [], ◌∷◌, ◌++◌, codes, nat_eq}
use Rattle.std.specs.List.{list_any, before_last, after_last}
use Rattle.std.specs.Cmp.Lexicographic.{pointwise, slice_cmp}
use Rattle.std.specs.Ordering.{nat_cmp, ordering_then}
use Rattle.std.specs.declared.cmp.Ordering.{Ordering}

-- an item's key: its repository, the path of its folder, its name
pub record Key : Type 0 where
  pub repo : List ℕ
  pub path : List ℕ
  pub name : List ℕ

-- the path of the items that lie in no folder
abbrev pub root_path : List ℕ
root_path = codes "."

-- path and name joined; at the root it is the name alone
abbrev pub whole_of : Key → List ℕ
whole_of k = if pointwise nat_eq k.path root_path then k.name else k.path ++ 47 ∷ k.name

-- the name that a path and name joined end in: what stands behind the last slash
abbrev pub name_of : List ℕ → List ℕ
name_of whole = after_last (λ b. b == 47) whole

-- the path before it, or that of the root where there is no slash
abbrev pub path_of : List ℕ → List ℕ
path_of whole = if list_any (λ b. b == 47) whole then before_last (λ b. b == 47) whole else root_path

-- the key of a repository and of a path and name joined
abbrev pub key_of : List ℕ → List ℕ → Key
key_of repo whole = record { repo = repo; path = path_of whole; name = name_of whole }

-- path and name were cut at a slash, or the whole is the name
abbrev pub Rejoins : List ℕ → List ℕ → List ℕ → Type 0
Rejoins whole path name = MatchBool (list_any (λ b. b == 47) whole) (whole ≡ path ++ 47 ∷ name) (whole ≡ name)

-- the fronts of a path before each of its slashes, the shortest first
abbrev pub fronts : List ℕ → List (List ℕ)
fronts [] = []
fronts (b ∷ bytes) = if b == 47 then [] ∷ map (λ front. b ∷ front) (fronts bytes) else map (λ front. b ∷ front) (fronts bytes)

-- the folders above a key, the topmost first
abbrev pub folders_above : Key → List Key
folders_above k = map (λ front. key_of k.repo front) (fronts (whole_of k))

-- the default order of items: by repository, then path, then name, each in byte order
abbrev pub key_cmp : Key → Key → Ordering
key_cmp a b = ordering_then (slice_cmp nat_cmp a.repo b.repo) (ordering_then (slice_cmp nat_cmp a.path b.path) (slice_cmp nat_cmp a.name b.name))

-- two keys are one: all three parts are the same
abbrev pub same_key : Key → Key → Bool
same_key a b = pointwise nat_eq a.repo b.repo && pointwise nat_eq a.path b.path && pointwise nat_eq a.name b.name
