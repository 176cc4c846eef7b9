-- How many items lie within a key, and whether one of those that an edit acts on passes a test.
use Rattle.std.proofs.Common.{◌≡◌, ℕ, ◌+◌, Bool, true, false, cond, List, [], ◌∷◌, length, Option, refl, sym, ap, ◌∙◌, arith}
use Rattle.std.specs.Prelude.{All, ◌&&◌, ◌||◌, filter, count_by, nat_lt, unwrap_or}
use Rattle.std.specs.List.{list_any}
use Rattle.std.specs.Option.{option_map_or}
use Rattle.std.proofs.lemmas.Bool.Decides.{nat_tests}
use Rattle.std.proofs.lemmas.List.{length-map}
use Rattle.std.proofs.lemmas.List.Sums.{sum_by-cons, length-filter}
use Rattle.std.proofs.lemmas.List.Elements.{All-head, All-tail, All-filter}
use Rattle.arti_rows.specs.Key.{Key}
use Rattle.arti_rows.specs.declared.rows.FileRef.{FileRef}
use Rattle.arti_rows.specs.declared.rows.ItemRow.{ItemRow}
use Rattle.arti_rows.specs.declared.rows.Property.{Property}
use Rattle.arti_tree.specs.Rows.{Row, ids}
use Rattle.arti_tree.specs.ByKey.{by_key, KeysOnce}
use Rattle.arti_tree.specs.ByKeyLaws.{by_key_counts}
use Rattle.arti_model.specs.Store.{Item}
use Rattle.arti_model.specs.Edits.{is_within, items_within, acts_on, has_no_room, most_props, props_set}
use Rattle.arti_model.specs.Laws.{filter-map, list_any-map}
use Rattle.arti_catalog.specs.Held.{Fits, HasRow, item_with, items_of, no_row}
use Rattle.arti_catalog.specs.Judged.{gets_too_many}

-- some pass exactly where more than none is counted
any_counted : (t : Row → Bool) (rows : List Row) → list_any t rows ≡ nat_lt 0 (count_by t rows)
any_counted t [] = refl
any_counted t (r ∷ rows) = by (t r) (any_counted t rows) ∙ ap (nat_lt 0) (sym (sum_by-cons (λ x. cond (t x) 1 0) r rows))
  where
    by : (b : Bool) → list_any t rows ≡ nat_lt 0 (count_by t rows) → (b || list_any t rows) ≡ nat_lt 0 (cond b 1 0 + count_by t rows)
    by true e = grind (arith, nat_tests)
    by false e = e ∙ ap (nat_lt 0) (zero_plus (count_by t rows))
      where
        zero_plus : (n : ℕ) → n ≡ 0 + n
        zero_plus n = omega arith

any_by_key : (t : Row → Bool) (rows : List Row) → KeysOnce rows → list_any t (by_key rows) ≡ list_any t rows
any_by_key t rows once = any_counted t (by_key rows) ∙ ap (nat_lt 0) (by_key_counts rows once t) ∙ sym (any_counted t rows)

any_filter : (p q : Row → Bool) (rows : List Row) → list_any (λ r. p r && q r) rows ≡ list_any q (filter p rows)
any_filter p q [] = refl
any_filter p q (r ∷ rows) = by (p r) (any_filter p q rows)
  where
    by : (b : Bool) → list_any (λ r. p r && q r) rows ≡ list_any q (filter p rows) → (b && q r || list_any (λ r. p r && q r) rows) ≡ list_any q (cond b (r ∷ filter p rows) (filter p rows))
    by true e = ap (λ b. q r || b) e
    by false e = e

module _ (tree : List Row) (rows : List (Option ItemRow)) (fits : Fits tree rows) (key : Key) where
  pub many_is : length (ids (filter (λ r. is_within key r.key) tree)) ≡ length (items_within key (items_of tree rows))
  many_is =
      let p : Row → Bool = λ r. is_within key r.key in
      length-map (filter p tree) (λ (r : Row). r.id) ∙ length-filter p tree ∙ sym (by_key_counts tree fits.once p) ∙ sym (length-filter p (by_key tree))
      ∙ sym (length-map (filter p (by_key tree)) (item_with rows))
      ∙ ap (λ (l : List (Item FileRef)). length l) (sym (filter-map (item_with rows) p (λ item. is_within key item.key) (λ r. refl) (by_key tree)))

  module _ (deep : Bool) (named : List Property) where
    abbrev full : Row → Bool
    full r = nat_lt most_props (length (props_set named (item_with rows r).props))

    each : (l : List Row) → All (HasRow rows) l → list_any full l ≡ list_any (gets_too_many named rows) (ids l)
    each [] all = refl
    each (r ∷ l) all =
        let has = All-head (HasRow rows) r l all in
        let one : full r ≡ gets_too_many named rows r.id =
        ap (λ (o : Option ItemRow). nat_lt most_props (length (props_set named (unwrap_or o no_row).props))) has.there
        ∙ sym (ap (λ (o : Option ItemRow). option_map_or (λ row. nat_lt most_props (length (props_set named row.props))) o false) has.there) in
        ap (λ b. b || list_any full l) one ∙ ap (λ b. gets_too_many named rows r.id || b) (each l (All-tail (HasRow rows) r l all))

    pub room_is : list_any (gets_too_many named rows) (ids (filter (λ r. acts_on deep key r.key) tree)) ≡ has_no_room (items_of tree rows) deep key named
    room_is =
        let p : Row → Bool = λ r. acts_on deep key r.key in
        sym (
        list_any-map (item_with rows) (λ r. p r && full r) (λ item. acts_on deep key item.key && nat_lt most_props (length (props_set named item.props))) (λ r. refl) (by_key tree)
        ∙ any_by_key (λ r. p r && full r) tree fits.once ∙ any_filter p full tree ∙ each (filter p tree) (All-filter p (HasRow rows) tree fits.each)
        )
