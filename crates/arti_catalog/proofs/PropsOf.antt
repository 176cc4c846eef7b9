-- Properties of items that change.
use Rattle.std.proofs.Common.{◌≡◌, ℕ, ◌+◌, ◌<◌, Bool, true, false, cond, eqb, List, length, get_or, take, Option, refl, sym, ap, ◌∙◌}
use Rattle.std.specs.Prelude.{ℤ, ◌||◌, filter, option_map}
use Rattle.std.specs.Option.{option_map_or}
use Rattle.std.proofs.lemmas.Bool.{eqb-true, eq-eqb, eqb-false, ne_eqb}
use Rattle.arti_rows.specs.Key.{Key}
use Rattle.arti_rows.specs.declared.rows.ItemRow.{ItemRow}
use Rattle.arti_tree.specs.Ids.{AscendFrom}
use Rattle.arti_tree.specs.Rows.{Row, ids, IsLive}
use Rattle.arti_tree.specs.Renames.{has}
use Rattle.arti_model.specs.Edits.{acts_on, with_props, with_changed_props}
use Rattle.arti_catalog.specs.declared.props_edits.PropsEdit.{PropsEdit}
use Rattle.arti_catalog.specs.Held.{Fits, at, items_of}
use Rattle.arti_catalog.specs.PropsEdits.{AllChanged, changed_by, changed_row}
use Rattle.arti_catalog.proofs.Each.{each_fits, each_items}
use Rattle.arti_catalog.proofs.Within.{ascend_apart, has_more, has_row}

-- one row more is changed
module _ (f : ItemRow → ItemRow) (xs : List ℕ) (k : ℕ) (rows mid next : List (Option ItemRow)) (up : AscendFrom 0 xs) (lt : k < length xs) (done : AllChanged (take k xs) f rows mid)
    (one : (i : ℕ) → at next i ≡ cond (eqb i (get_or xs k 0)) (option_map f (at mid i)) (at mid i)) where
  step_by : (i : ℕ) (b : Bool) → eqb i (get_or xs k 0) ≡ b → cond b (option_map f (at mid i)) (at mid i) ≡ cond (has (take k xs) i || eqb (get_or xs k 0) i) (option_map f (at rows i)) (at rows i)
  step_by i true e =
      let same : i ≡ get_or xs k 0 = eqb-true i (get_or xs k 0) e in
      let not_yet : has (take k xs) i ≡ false = ap (has (take k xs)) same ∙ ascend_apart 0 k xs up lt in
      let here : eqb (get_or xs k 0) i ≡ true = eq-eqb (get_or xs k 0) i (sym same) in
      ap (λ (o : Option ItemRow). option_map f o) (done.each i ∙ ap (λ b. cond b (option_map f (at rows i)) (at rows i)) not_yet)
      ∙ sym (ap (λ b. cond (b || eqb (get_or xs k 0) i) (option_map f (at rows i)) (at rows i)) not_yet ∙ ap (λ b. cond b (option_map f (at rows i)) (at rows i)) here)
  step_by i false e =
      let there : eqb (get_or xs k 0) i ≡ false = ne_eqb (get_or xs k 0) i (λ same. eqb-false i (get_or xs k 0) e (sym same)) in
      done.each i ∙ or_false (has (take k xs) i) (eqb (get_or xs k 0) i) there
    where
      or_false : (a b : Bool) → b ≡ false → cond a (option_map f (at rows i)) (at rows i) ≡ cond (a || b) (option_map f (at rows i)) (at rows i)
      or_false true b is = refl
      or_false false b is = ap (λ c. cond c (option_map f (at rows i)) (at rows i)) (sym is)

  pub changed_more : AllChanged (take (k + 1) xs) f rows next
  changed_more = record {
    each = λ i. one i ∙ step_by i (eqb i (get_or xs k 0)) refl ∙ ap (λ b. cond b (option_map f (at rows i)) (at rows i)) (sym (has_more k i xs lt));
  }

module _ (tree : List Row) (rows next : List (Option ItemRow)) (fits : Fits tree rows) (moment : ℤ) (edit : PropsEdit) (deep : Bool) (key : Key) (found : List ℕ)
    (found_is : found ≡ ids (filter (λ r. acts_on deep key r.key) tree)) (changed : AllChanged found (changed_row moment edit) rows next) where
  each : (r : Row) → IsLive tree r → at next r.id ≡ cond (acts_on deep key r.key) (option_map (changed_row moment edit) (at rows r.id)) (at rows r.id)
  each r live =
      let p : Row → Bool = λ r. acts_on deep key r.key in
      changed.each r.id
      ∙ ap (λ b. cond b (option_map (changed_row moment edit) (at rows r.id)) (at rows r.id))
      (ap (λ (l : List ℕ). has l r.id) found_is ∙ has_row p 0 tree r.id fits.rules.ascend ∙ ap (λ (o : Option Row). option_map_or p o false) live)

  pub props_fits : Fits tree next
  props_fits = each_fits tree rows next fits (acts_on deep key) (changed_row moment edit) (λ row. refl) (λ row. refl) each

  pub props_done : items_of tree next ≡ with_changed_props (items_of tree rows) moment deep key (changed_by edit)
  props_done = each_items tree rows next fits (acts_on deep key) (changed_row moment edit) (λ row. refl) (λ row. refl) each (with_props moment (changed_by edit)) (λ row. refl)
