-- A key that goes with all beneath it.
use Rattle.std.proofs.Common.{◌≡◌, ℕ, Bool, true, false, List, get_or, Option, Some, refl, sym, ap, subst, ◌∙◌, arith}
use Rattle.std.specs.Prelude.{All, not, map, filter, option_map}
use Rattle.std.specs.Option.{option_map_or}
use Rattle.std.proofs.lemmas.List.Elements.{All-filter, filter_passes}
use Rattle.std.proofs.lemmas.List.Filters.{length-filter_both}
use Rattle.arti_rows.specs.Key.{Key, same_key}
use Rattle.arti_rows.specs.KeyLaws.{same_key-true}
use Rattle.arti_rows.specs.declared.limits.Limits.{Limits}
use Rattle.arti_rows.specs.declared.rows.ItemRow.{ItemRow}
use Rattle.arti_tree.specs.Rows.{Row, ids, row_at, IsLive, IsTree}
use Rattle.arti_tree.specs.ByKey.{by_key, KeysOnce}
use Rattle.arti_tree.specs.ByKeyLaws.{by_key-filter}
use Rattle.arti_tree.specs.Renames.{is_within, has, without_within}
use Rattle.arti_model.specs.Apply.{is_local}
use Rattle.arti_model.specs.Edits.{items_without}
use Rattle.arti_model.specs.Laws.{filter-map}
use Rattle.arti_catalog.specs.Held.{Fits, Keeps, HasRow, at, item_with, items_of}
use Rattle.arti_catalog.specs.LiveLaws.{all_live, All-by_key}
use Rattle.arti_catalog.proofs.Found.{looked_up}
use Rattle.arti_catalog.proofs.Setting.{found_passes}
use Rattle.arti_catalog.proofs.Within.{has_row}
use Rattle.arti_catalog.proofs.Adding.{same_items, still_has}

not_true : (b : Bool) → not b ≡ true → b ≡ false
not_true true e = sym e
not_true false e = refl

module _ (tree : List Row) (rows next : List (Option ItemRow)) (key : Key) (fits : Fits tree rows) (same : (r : Row) → IsLive tree r → is_within key r.key ≡ false → at next r.id ≡ at rows r.id) where
  -- what stands at the ids that are left
  stay : (l : List Row) → All (IsLive tree) l → All (λ r. at next r.id ≡ at rows r.id) (filter (λ r. not (is_within key r.key)) l)
  stay l live = λ k d lt.
      let p : Row → Bool = λ r. not (is_within key r.key) in
      let r : Row = get_or (filter p l) k d in
      same r (All-filter p (IsLive tree) l live k d lt) (not_true (is_within key r.key) (filter_passes p l k d lt))

  pub removed_fits : IsTree (filter (λ r. not (is_within key r.key)) tree) → KeysOnce (filter (λ r. not (is_within key r.key)) tree) → Fits (filter (λ r. not (is_within key r.key)) tree) next
  removed_fits rules once =
      let p : Row → Bool = λ r. not (is_within key r.key) in
      record {
        rules = rules;
        once = once;
        each = still_has (filter p tree) rows next (stay tree (all_live 0 tree fits.rules.ascend)) (All-filter p (HasRow rows) tree fits.each);
      }

  pub removed_items : items_of (filter (λ r. not (is_within key r.key)) tree) next ≡ items_without key (items_of tree rows)
  removed_items =
      let p : Row → Bool = λ r. not (is_within key r.key) in
      ap (λ (l : List Row). map (item_with next) l) (by_key-filter p tree fits.once)
      ∙ same_items (filter p (by_key tree)) rows next (stay (by_key tree) (All-by_key (IsLive tree) tree (all_live 0 tree fits.rules.ascend)))
      ∙ sym (filter-map (item_with rows) p (λ item. not (is_within key item.key)) (λ r. refl) (by_key tree))

pub removed_keeps : (limits : Limits) (tree : List Row) (p : Row → Bool) → Keeps limits tree → Keeps limits (filter p tree)
removed_keeps limits tree p keeps = record {
  most = omega (arith, keeps.most, length-filter_both p (λ r. not (p r)) (λ r. refl) tree);
  local = All-filter p (λ r. is_local r.key ≡ true) tree keeps.local;
}

module _ (tree new_tree : List Row) (rows next : List (Option ItemRow)) (key : Key) (fits : Fits tree rows) (id : ℕ) (is : Some id ≡ option_map (λ r. r.id) (row_at tree key)) (goes : new_tree ≡ without_within tree id) where
  tree_is : new_tree ≡ filter (λ r. not (is_within key r.key)) tree
  tree_is =
      let it = looked_up tree rows key fits id is in
      let here : it.0.key ≡ key = same_key-true it.0.key key (found_passes (λ x. same_key x.key key) tree it.0 it.1) in
      goes ∙ ap (λ (o : Option Row). option_map_or (λ top. filter (λ r. not (is_within top.key r.key)) tree) o tree) it.3
      ∙ ap (λ (k : Key). filter (λ r. not (is_within k r.key)) tree) here

  pub remove_keeps : (limits : Limits) → Keeps limits tree → Keeps limits new_tree
  remove_keeps limits keeps = let P : List Row → Type 0 = λ t. Keeps limits t in subst P (sym tree_is) (removed_keeps limits tree (λ r. not (is_within key r.key)) keeps)

  module _ (found : List ℕ) (found_is : found ≡ ids (filter (λ r. is_within key r.key) tree)) (cleared : (i : ℕ) → has found i ≡ false → at next i ≡ at rows i) where
    same : (r : Row) → IsLive tree r → is_within key r.key ≡ false → at next r.id ≡ at rows r.id
    same r live other =
        let p : Row → Bool = λ r. is_within key r.key in
        cleared r.id (ap (λ (l : List ℕ). has l r.id) found_is ∙ has_row p 0 tree r.id fits.rules.ascend ∙ ap (λ (o : Option Row). option_map_or p o false) live ∙ other)

    pub remove_fits : IsTree new_tree → KeysOnce new_tree → Fits new_tree next
    remove_fits rules once =
        let P : List Row → Type 0 = λ t. Fits t next in
        let Q : List Row → Type 0 = λ t. IsTree t in
        let R : List Row → Type 0 = λ t. KeysOnce t in
        subst P (sym tree_is) (removed_fits tree rows next key fits same (subst Q tree_is rules) (subst R tree_is once))

    pub remove_done : items_of new_tree next ≡ items_without key (items_of tree rows)
    remove_done = ap (λ (t : List Row). items_of t next) tree_is ∙ removed_items tree rows next key fits same
