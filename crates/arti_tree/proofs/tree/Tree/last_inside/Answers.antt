use Rattle.std.proofs.Common.{◌≡◌, ℕ, ◌-◌, ◌<◌, true, false, List, length, get_or, Option, Some, None, option_map, refl, sym, ap, ◌∙◌, subst, arith, rules}
use Rattle.std.specs.Prelude.{IfSome}
use Rattle.std.specs.List.{filter, find}
use Rattle.std.specs.Option.{option_map_or, is_none}
use Rattle.std.proofs.lemmas.Bool.{eq-eqb}
use Rattle.std.proofs.lemmas.List.{length-map}
use Rattle.arti_rows.specs.Key.{Key}
use Rattle.arti_tree.specs.Rows.{Row, row_of, lies_in}
use Rattle.arti_tree.proofs.Folders.{empty_list}
use Rattle.arti_tree.proofs.Finding.{member}
use Rattle.arti_tree.proofs.tree.Tree.last_inside.Goals as goal

none_is : (o : Option Row) → is_none o ≡ true → o ≡ None
none_is None e = refl
none_is (Some r) e = cc

of_row : (o : Option Row) (k : Key) (P : Key → Type 0) → Some k ≡ option_map (λ (r : Row). r.key) o → P k → IfSome o (λ r. P r.key)
of_row None k P e p = tt
of_row (Some r) k P e p = let same : k ≡ r.key = cc in subst P same p

pub returns-then-is_empty-clause-none : goal.returns-then-is_empty-clause-none
returns-then-is_empty-clause-none c = λ _.
    let rows = c.args.self.now in
    let k : Key = c.in_ok-key.key.now in
    let none : length c.inside-inside.result.now ≡ 0 = search rules in
    let long : length (filter (lies_in k) rows) ≡ 0 = sym (length-map (filter (lies_in k) rows) (λ (r : Row). r.id)) ∙ sym (ap (λ (l : List ℕ). length l) c.inside-inside.ensures.rows) ∙ none in
    of_row (row_of rows c.args.id) k (λ (x : Key). find (lies_in x) rows ≡ None) c.in_ok-key.ensures
    (none_is (find (lies_in k) rows) (sym (empty_list (lies_in k) rows) ∙ eq-eqb (length (filter (lies_in k) rows)) 0 long))

pub returns-clause-some : goal.returns-clause-some
returns-clause-some c =
    let rows = c.args.self.now in
    let k : Key = c.in_ok-key.key.now in
    let list : List ℕ = c.inside-inside.result.now in
    let last : ℕ = length list - 1 in
    let some : 0 < length list = search rules in
    let m = member rows (lies_in k) list last c.rules.ensures.ascend c.inside-inside.ensures.rows (omega (arith, some)) in
    of_row (row_of rows c.args.id) k (λ (x : Key). option_map_or (lies_in x) (row_of rows (get_or list last 0)) false ≡ true) c.in_ok-key.ensures
    (ap (λ (o : Option Row). option_map_or (lies_in k) o false) m.of ∙ m.passes)
