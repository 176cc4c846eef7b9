-- The rows of some keys change.
use Rattle.std.proofs.Common.{◌≡◌, Bool, true, false, cond, List, [], ◌∷◌, get_or, Option, Some, refl, sym, ap, ◌∙◌}
use Rattle.std.specs.Prelude.{All, map, is_some, unwrap_or, option_map}
use Rattle.std.proofs.lemmas.List.Elements.{All-head, All-tail}
use Rattle.arti_rows.specs.Key.{Key}
use Rattle.arti_rows.specs.declared.rows.FileRef.{FileRef}
use Rattle.arti_rows.specs.declared.rows.ItemRow.{ItemRow}
use Rattle.arti_tree.specs.Rows.{Row, IsLive}
use Rattle.arti_tree.specs.ByKey.{by_key}
use Rattle.arti_model.specs.Store.{Item, item_of_row}
use Rattle.arti_catalog.specs.Held.{Fits, HasRow, at, item_with, items_of, no_row}
use Rattle.arti_catalog.specs.LiveLaws.{all_live, All-by_key}
use Rattle.arti_catalog.proofs.Found.{item_is}

module _ (tree : List Row) (rows next : List (Option ItemRow)) (fits : Fits tree rows) (p : Key → Bool) (f : ItemRow → ItemRow) (keeps_key : (row : ItemRow) → (f row).key ≡ row.key)
    (keeps_kind : (row : ItemRow) → is_some (f row).file ≡ is_some row.file) (each : (r : Row) → IsLive tree r → at next r.id ≡ cond (p r.key) (option_map f (at rows r.id)) (at rows r.id)) where
  changed_at : (r : Row) → IsLive tree r → (old : HasRow rows r) → p r.key ≡ true → at next r.id ≡ Some (f old.row)
  changed_at r live old e = each r live ∙ ap (λ b. cond b (option_map f (at rows r.id)) (at rows r.id)) e ∙ ap (λ (o : Option ItemRow). option_map f o) old.there

  left_at : (r : Row) → IsLive tree r → p r.key ≡ false → at next r.id ≡ at rows r.id
  left_at r live e = each r live ∙ ap (λ b. cond b (option_map f (at rows r.id)) (at rows r.id)) e

  has_each : (r : Row) → IsLive tree r → HasRow rows r → HasRow next r
  has_each r live old = by (p r.key) refl
    where
      by : (b : Bool) → p r.key ≡ b → HasRow next r
      by true e = record { row = f old.row; there = changed_at r live old e; key = keeps_key old.row ∙ old.key; kind = keeps_kind old.row ∙ old.kind }
      by false e = record { row = old.row; there = left_at r live e ∙ old.there; key = old.key; kind = old.kind }

  live : All (IsLive tree) tree
  live = all_live 0 tree fits.rules.ascend

  pub each_fits : Fits tree next
  each_fits = record { rules = fits.rules; once = fits.once; each = λ k d lt. has_each (get_or tree k d) (live k d lt) (fits.each k d lt) }

  module _ (g : Item FileRef → Item FileRef) (means : (row : ItemRow) → item_of_row (f row) ≡ g (item_of_row row)) where
    one : (r : Row) → IsLive tree r → HasRow rows r → item_with next r ≡ cond (p r.key) (g (item_with rows r)) (item_with rows r)
    one r lives old = by (p r.key) refl
      where
        by : (b : Bool) → p r.key ≡ b → item_with next r ≡ cond b (g (item_with rows r)) (item_with rows r)
        by true e =
            item_is tree next r.key r (has_each r lives old) (f old.row) (changed_at r lives old e) ∙ means old.row
            ∙ ap g (sym (item_is tree rows r.key r old old.row old.there))
        by false e = ap (λ (o : Option ItemRow). record (item_of_row (unwrap_or o no_row)) { key = r.key }) (left_at r lives e)

    all_of : (l : List Row) → All (IsLive tree) l → All (HasRow rows) l → map (item_with next) l ≡ map (λ item. cond (p item.key) (g item) item) (map (item_with rows) l)
    all_of [] lives old = refl
    all_of (r ∷ l) lives old =
        ap (λ (i : Item FileRef). i ∷ map (item_with next) l) (one r (All-head (IsLive tree) r l lives) (All-head (HasRow rows) r l old))
        ∙ ap (λ (m : List (Item FileRef)). cond (p r.key) (g (item_with rows r)) (item_with rows r) ∷ m) (all_of l (All-tail (IsLive tree) r l lives) (All-tail (HasRow rows) r l old))

    pub each_items : items_of tree next ≡ map (λ item. cond (p item.key) (g item) item) (items_of tree rows)
    each_items = all_of (by_key tree) (All-by_key (IsLive tree) tree live) (All-by_key (HasRow rows) tree fits.each)
