-- Why a definition is refused.
use Rattle.std.specs.Prelude.{ℕ, Bool, true, false, not, ◌&&◌, ◌||◌, nat_le, if◌then◌else◌, List, length, Option, Some, None}
use Rattle.std.specs.Option.{option_map, option_or, option_map_or}
use Rattle.std.specs.List.{find}
use Rattle.std.specs.Str.{bytes_eq}
use Rattle.arti_rows.specs.declared.rows.Class.TheVariants.{Local, Remote}
use Rattle.arti_rows.specs.declared.rows.RepoDef.{RepoDef}
use Rattle.arti_repos.specs.declared.fault.RepoFault.{RepoFault}
use Rattle.arti_repos.specs.declared.fault.RepoFault.TheVariants.{Taken, NoRepo, ClassChange, UnknownMember, Cycle, NotLocal, Full}
use Rattle.arti_repos.specs.Definitions.{same_class, is_of, definition, is_defined, is_cache, cache_key}
use Rattle.arti_repos.specs.Cycles.{cycle}

-- a definition's key, or that of a remote's cache
abbrev pub is_taken : List RepoDef → List ℕ → Bool
is_taken defs key = is_defined defs key || is_cache defs key

-- the key that a remote's cache would have
abbrev pub is_cache_taken : List RepoDef → RepoDef → Bool
is_cache_taken defs d = is_of Remote d && is_taken defs (cache_key d.key)

-- a new key isn't taken, nor is that of its cache; one to be replaced is there
abbrev pub key_fault : List RepoDef → RepoDef → Bool → Option RepoFault
key_fault defs d true = if is_defined defs d.key then None else Some (NoRepo d.key)
key_fault defs d false = if is_taken defs d.key || is_cache_taken defs d then Some (Taken d.key) else None

-- the class stays
abbrev pub class_fault : List RepoDef → RepoDef → Option RepoFault
class_fault defs d = if option_map_or (λ old. same_class old.class d.class) (definition defs d.key) true then None else Some ClassChange

-- a member that is no definition and not the key itself
abbrev pub is_unknown : List RepoDef → RepoDef → List ℕ → Bool
is_unknown defs d member = not (is_defined defs member) && not (bytes_eq member d.key)

-- the first of them
abbrev pub member_fault : List RepoDef → RepoDef → Option RepoFault
member_fault defs d = option_map UnknownMember (find (is_unknown defs d) d.members)

-- no chain of members leads from the key back to it
abbrev pub cycle_fault : List RepoDef → RepoDef → Option RepoFault
cycle_fault defs d = option_map Cycle (cycle defs d)

abbrev pub local_fault : List ℕ → Option RepoDef → Option RepoFault
local_fault key None = Some (UnknownMember key)
local_fault key (Some d) = if is_of Local d then None else Some (NotLocal key)

-- the default is a local
abbrev pub default_fault : List RepoDef → Option (List ℕ) → Option RepoFault
default_fault defs None = None
default_fault defs (Some key) = local_fault key (definition defs key)

-- a new definition is one more
abbrev pub count_fault : List RepoDef → RepoDef → ℕ → Option RepoFault
count_fault defs d limit = if not (is_defined defs d.key) && nat_le limit (length defs) then Some Full else None

-- the first of these
abbrev pub define_fault : List RepoDef → RepoDef → Bool → ℕ → Option RepoFault
define_fault defs d update limit =
    option_or (key_fault defs d update)
    (option_or (class_fault defs d)
    (option_or (member_fault defs d)
    (option_or (cycle_fault defs d)
    (option_or (default_fault defs d.default_to)
    (count_fault defs d limit)))))
