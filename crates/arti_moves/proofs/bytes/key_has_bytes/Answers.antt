use Rattle.std.proofs.Common.{◌≡◌, ◌≤◌, ℕ, Bool, true, false, List, ◌∷◌, ◌++◌, length, Option, Some, None, cond, refl, ap, subst, arith, length-append}
use Rattle.std.specs.Prelude.{nat_eq, nat_lt, ◌&&◌, ◌||◌}
use Rattle.std.specs.Option.{option_or}
use Rattle.std.specs.Cmp.Lexicographic.{pointwise, bytes_decides}
use Rattle.std.specs.Prelude.{nat_le, not}
use Rattle.std.specs.List.{list_all}
use Rattle.std.proofs.lemmas.Bool.{and_parts, leb-true, ltb-false}
use Rattle.arti_rows.specs.declared.fault.KeyFault.{KeyFault}
use Rattle.arti_rows.specs.declared.fault.KeyFault.TheVariants.{BadName, TooLong}
use Rattle.arti_rows.specs.Key.{Key, whole_of, root_path}
use Rattle.arti_rows.specs.Names.{IsKey, is_repo_key, is_repo_byte, is_one_of, reserved_keys, path_fault, length_fault, first_fault, segments_of}
use Rattle.arti_codec.specs.ChangeBytes.{text, item_key}
use Rattle.arti_moves.proofs.bytes.key_has_bytes.Goals as goal

if_none : (b : Bool) (o : Option KeyFault) (f : KeyFault) → cond b o (Some f) ≡ None → (b ≡ true) × (o ≡ None)
if_none true o f e = (refl, e)
if_none false o f e = absurd cc

none_if : (b : Bool) (f : KeyFault) → cond b (Some f) None ≡ None → b ≡ false
none_if true f e = absurd cc
none_if false f e = refl

or_none : (o p : Option KeyFault) → option_or o p ≡ None → p ≡ None
or_none None p e = e
or_none (Some f) p e = absurd cc

or_false : (a b : Bool) → (a || b) ≡ false → a ≡ false
or_false true b e = absurd cc
or_false false b e = refl

record IsShort (k : Key) : Type 0 where
  repo : length k.repo ≤ 4096
  path : length k.path ≤ 4096
  name : length k.name ≤ 4096

parts_short : (b : Bool) (path name : List ℕ) → (b ≡ true → path ≡ root_path) → length (cond b name (path ++ 47 ∷ name)) ≤ 1024 → (length path ≤ 4096) × (length name ≤ 4096)
parts_short true path name root le = (omega (arith, ap length (root refl)), omega (arith, le))
parts_short false path name root le = (omega (arith, le, length-append path (47 ∷ name)), omega (arith, le, length-append path (47 ∷ name)))

short : (k : Key) → IsKey k → IsShort k
short k is =
    let parts = if_none (is_repo_key k.repo) (path_fault (whole_of k)) BadName is.good in
    let whole : length_fault (whole_of k) ≡ None = or_none (first_fault (segments_of (whole_of k))) (length_fault (whole_of k)) parts.1 in
    let long : (nat_lt 1024 (length (whole_of k)) || nat_lt 64 (length (segments_of (whole_of k)))) ≡ false = none_if _ TooLong whole in
    let le : length (whole_of k) ≤ 1024 = ltb-false 1024 (length (whole_of k)) (or_false _ _ long) in
    let both = parts_short (pointwise nat_eq k.path root_path) k.path k.name (λ e. (bytes_decides k.path root_path).0 e) le in
    let a = and_parts (nat_lt 0 (length k.repo) && nat_le (length k.repo) 64 && list_all is_repo_byte k.repo) (not (is_one_of reserved_keys k.repo)) parts.0 in
    let b = and_parts (nat_lt 0 (length k.repo) && nat_le (length k.repo) 64) (list_all is_repo_byte k.repo) a.0 in
    let d = and_parts (nat_lt 0 (length k.repo)) (nat_le (length k.repo) 64) b.0 in
    record { repo = omega (arith, leb-true (length k.repo) 64 d.1); path = both.0; name = both.1 }

pub returns : goal.returns
unfolding item_key
returns c =
    let is = c.value.view_is in
    let is_short = short _ c.value.invariant in
    let parts : (text.keeps c.value.inside.repo × (text.keeps c.value.inside.path × text.keeps c.value.inside.name)) =
    (c.text_has_bytes.ensures is_short.repo, (c.text_has_bytes-2.ensures is_short.path, c.text_has_bytes-3.ensures is_short.name)) in
    (subst (λ (k : Key). text.keeps k.repo × (text.keeps k.path × text.keeps k.name)) is parts, c.rules.ensures)
