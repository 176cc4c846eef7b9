-- The rules of lists of properties, of builds' names and of definitions, by their bytes (of this project).
use Rattle.std.specs.Prelude.{ℕ, Bool, true, not, ◌&&◌, ◌==◌, nat_le, nat_lt, nat_eq, List, [], ◌∷◌, length, codes}
use Rattle.std.specs.List.{list_all, list_any, starts_with}
use Rattle.std.specs.Ordering.{is_lt, nat_cmp}
use Rattle.std.specs.declared.cmp.Ordering.{Ordering}
use Rattle.std.specs.Cmp.Lexicographic.{slice_cmp}
use Rattle.arti_rows.specs.Names.{is_repo_key}
use Rattle.arti_rows.specs.PropTexts.{is_control_byte, is_prop_key, is_prop_value}
use Rattle.arti_rows.specs.declared.rows.Class.{Class}
use Rattle.arti_rows.specs.declared.rows.Class.TheVariants.{Local, Remote, Virtual}
use Rattle.arti_rows.specs.declared.rows.Property.{Property}
use Rattle.arti_rows.specs.declared.rows.RepoDef.{RepoDef}

-- a build's name or number: 1 to 255 bytes without control characters
abbrev pub is_build_name : List ℕ → Bool
is_build_name name = nat_lt 0 (length name) && nat_le (length name) 255 && not (list_any is_control_byte name)

-- a key and a value that keep their rules
abbrev pub is_property : Property → Bool
is_property p = is_prop_key p.key && is_prop_value p.value

abbrev pub text_cmp : List ℕ → List ℕ → Ordering
text_cmp = slice_cmp nat_cmp

-- each stands before the one behind it, so none stands twice
abbrev pub comes_first : {A : Type 0} → (A → A → Ordering) → A → List A → Bool
comes_first cmp x [] = true
comes_first cmp x (y ∷ ys) = is_lt (cmp x y)

abbrev pub ascends : {A : Type 0} → (A → A → Ordering) → List A → Bool
ascends cmp [] = true
ascends cmp (x ∷ xs) = comes_first cmp x xs && ascends cmp xs

-- property keys, ascending and distinct
abbrev pub are_prop_keys : List (List ℕ) → Bool
are_prop_keys keys = list_all is_prop_key keys && ascends text_cmp keys

-- A remote has room for the name of its cache, and a URL; a virtual repository alone has members, which are repositories' keys.
abbrev pub fits_class : Class → List ℕ → List ℕ → List (List ℕ) → Bool
fits_class Local key url members = length url == 0 && length members == 0
fits_class Remote key url members = nat_le (length key) 58 && starts_with nat_eq url (codes "http://") && length members == 0
fits_class Virtual key url members = length url == 0 && list_all is_repo_key members

abbrev pub is_definition : RepoDef → Bool
is_definition d = is_repo_key d.key && fits_class d.class d.key d.url d.members
