use Rattle.std.proofs.Common.{◌≡◌, Bool, true, false, cond, refl, sym, subst, ◌∙◌, rules}
use Rattle.arti_rows.specs.declared.rows.ItemRow.{ItemRow}
use Rattle.arti_model.specs.Store.{same_key}
use Rattle.arti_store.specs.Items.{InOrder, no_row, counted_row, rows_with_download}
use Rattle.arti_store.specs.Places.{IsPlace, IsGap}
use Rattle.arti_store.proofs.Places.{change_at_place, change_at_gap, change_in_order}
use Rattle.arti_store.proofs.rows.count.Goals as goal

pub returns-in-Ok-clause-counted : goal.returns-in-Ok-clause-counted
returns-in-Ok-clause-counted c =
    let place : IsPlace c.args.rows.now.items c.args.key.now c.in-Ok.at = search rules in
    c.count_at.ensures ∙ sym (change_at_place (λ (row : ItemRow). counted_row c.args.moment c.args.user row) c.args.key.now c.args.rows.now.items c.in-Ok.at no_row place)

pub returns-in-Ok-clause-order : goal.returns-in-Ok-clause-order
returns-in-Ok-clause-order c =
    let place : IsPlace c.args.rows.now.items c.args.key.now c.in-Ok.at = search rules in
    let counted : c.count_at.new.rows.items ≡ rows_with_download c.args.rows.now.items c.args.moment c.args.user c.args.key.now =
    c.count_at.ensures ∙ sym (change_at_place (λ (row : ItemRow). counted_row c.args.moment c.args.user row) c.args.key.now c.args.rows.now.items c.in-Ok.at no_row place) in
    subst InOrder (sym counted) (change_in_order (λ (row : ItemRow). cond (same_key row.key c.args.key.now) (counted_row c.args.moment c.args.user row) row) (λ row. by (same_key row.key c.args.key.now) row) c.args.rows.now.items c.requires.order)
  where
    by : (b : Bool) (row : ItemRow) → (cond b (counted_row c.args.moment c.args.user row) row).key ≡ row.key
    by true row = refl
    by false row = refl

pub returns-in-Err-clause-counted : goal.returns-in-Err-clause-counted
returns-in-Err-clause-counted c =
    let gap : IsGap c.args.rows.now.items c.args.key.now c.in-Err.field-0 = search rules in
    sym (change_at_gap (λ (row : ItemRow). counted_row c.args.moment c.args.user row) c.args.key.now c.args.rows.now.items c.in-Err.field-0 gap)
