use Rattle.std.proofs.Common.{◌≡◌, ℕ, Bool, true, false, cond, List, Option, Some, None, option_map, sym, ap, ◌∙◌}
use Rattle.std.specs.Prelude.{not}
use Rattle.std.specs.Option.{option_map_or}
use Rattle.std.proofs.lemmas.Bool.{not_from_false, true_from_ne_false}
use Rattle.arti_rows.specs.Key.{Key}
use Rattle.arti_tree.specs.Rows.{Row, row_of, row_at, has_folder, folder_of, folder_id}
use Rattle.arti_tree.proofs.Folders.{at_id}
use Rattle.arti_tree.proofs.tree.Tree.has_folder.Goals as goal

not_true : (b : Bool) → not b ≡ true → b ≡ false
not_true true e = cc
not_true false e = cc

found : (rows : List Row) (k : Key) (id : ℕ) → has_folder k ≡ true → Some id ≡ folder_id rows k → Some id ≡ option_map (λ r. r.id) (row_at rows (folder_of k))
found rows k id has e = e ∙ ap (λ b. cond b (option_map (λ (r : Row). r.id) (row_at rows (folder_of k))) None) has

one_row : (o : Option Row) (x y : Row) → o ≡ Some x → o ≡ Some y → x ≡ y
one_row o x y e f = let same : Some x ≡ Some y = sym e ∙ f in cc

pub returns-in-Some-clause-there : goal.returns-in-Some-clause-there
returns-in-Some-clause-there c = λ e has.
    let rows = c.args.self.now in
    let k : Key = c.args.key.now in
    let a = at_id rows (folder_of k) c.in-Some.id c.rules.ensures.ascend (found rows k c.in-Some.id has c.in-Some.ensures) in
    record {
      row = a.row;
      there = a.at;
      folder = sym (c.is_file.ensures ∙ ap (λ (o : Option Row). option_map_or (λ r. r.is_file) o false) (ap (row_of rows) (sym a.is) ∙ a.live)) ∙ not_true c.is_file.result e;
    }

-- an item at the root has no folder's id
not_at_root : (rows : List Row) (k : Key) (id : ℕ) → has_folder k ≡ false → Some id ≡ folder_id rows k → ⊥
not_at_root rows k id root e = let never : Some id ≡ None = e ∙ ap (λ b. cond b (option_map (λ (r : Row). r.id) (row_at rows (folder_of k))) None) root in cc

pub returns-in-Some-clause-exact : goal.returns-in-Some-clause-exact
returns-in-Some-clause-exact c = λ h.
    let rows = c.args.self.now in
    let k : Key = c.args.key.now in
    let has : has_folder k ≡ true = true_from_ne_false (has_folder k) (λ root. not_at_root rows k c.in-Some.id root c.in-Some.ensures) in
    let a = at_id rows (folder_of k) c.in-Some.id c.rules.ensures.ascend (found rows k c.in-Some.id has c.in-Some.ensures) in
    let f = h has in
    let same : a.row ≡ f.row = one_row (row_at rows (folder_of k)) a.row f.row a.at f.there in
    not_from_false c.is_file.result (c.is_file.ensures ∙ ap (λ (o : Option Row). option_map_or (λ r. r.is_file) o false) (ap (row_of rows) (sym a.is) ∙ a.live) ∙ ap (λ (r : Row). r.is_file) same ∙ f.folder)
