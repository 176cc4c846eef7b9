-- The definitions of repositories, by their keys (of this project, after the classes of JFrog's manuals).
use Rattle.std.specs.Prelude.{◌≡◌, ℕ, Bool, true, false, ◌&&◌, if◌then◌else◌, List, ◌∷◌, ◌++◌, codes, filter, Option, Some, None, is_some}
use Rattle.std.specs.List.{find, AllPairs}
use Rattle.std.specs.Str.{bytes_eq}
use Rattle.std.specs.Ordering.{nat_cmp, is_lt}
use Rattle.std.specs.Cmp.Lexicographic.{slice_cmp}
use Rattle.std.specs.declared.cmp.Ordering.TheVariants.{Less}
use Rattle.arti_rows.specs.declared.rows.Class.{Class}
use Rattle.arti_rows.specs.declared.rows.Class.TheVariants.{Local, Remote, Virtual}
use Rattle.arti_rows.specs.declared.rows.RepoDef.{RepoDef}

abbrev pub same_class : Class → Class → Bool
same_class Local Local = true
same_class Remote Remote = true
same_class Virtual Virtual = true
same_class a b = false

abbrev pub is_of : Class → RepoDef → Bool
is_of class d = same_class d.class class

-- the definition has that key
abbrev pub has_key : List ℕ → RepoDef → Bool
has_key key d = bytes_eq d.key key

-- each definition's key comes before those behind it
abbrev pub InOrder : List RepoDef → Type 0
InOrder defs = AllPairs (λ a b. slice_cmp nat_cmp a.key b.key ≡ Less) defs

-- the definition of a key
abbrev pub definition : List RepoDef → List ℕ → Option RepoDef
definition defs key = find (has_key key) defs

abbrev pub is_defined : List RepoDef → List ℕ → Bool
is_defined defs key = is_some (definition defs key)

-- the definitions with one more at its place, where it takes the place of one of its key
abbrev pub put_definition : RepoDef → List RepoDef → List RepoDef
put_definition new defs = filter (λ d. is_lt (slice_cmp nat_cmp d.key new.key)) defs ++ new ∷ filter (λ d. is_lt (slice_cmp nat_cmp new.key d.key)) defs

-- the key of a remote's cache
abbrev pub cache_key : List ℕ → List ℕ
cache_key key = key ++ codes "-cache"

-- the remote whose cache the key is
abbrev pub cached_by : List RepoDef → List ℕ → Option RepoDef
cached_by defs key = find (λ d. is_of Remote d && bytes_eq (cache_key d.key) key) defs

-- a definition, where it is a remote's
abbrev pub remote_of : Option RepoDef → Option RepoDef
remote_of None = None
remote_of (Some d) = if is_of Remote d then Some d else None

abbrev pub is_cache : List RepoDef → List ℕ → Bool
is_cache defs key = is_some (cached_by defs key)
