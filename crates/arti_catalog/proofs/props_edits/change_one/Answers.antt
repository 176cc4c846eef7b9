use Rattle.std.proofs.Common.{◌≡◌, ℕ, List, Bool, true, false, cond, eqb, Option, None, refl, sym, ap, ◌∙◌}
use Rattle.std.specs.Prelude.{◌≢◌, option_map}
use Rattle.std.proofs.lemmas.Bool.{eqb-true, eqb-false}
use Rattle.arti_rows.specs.declared.rows.ItemRow.{ItemRow}
use Rattle.arti_catalog.specs.Held.{at}
use Rattle.arti_catalog.specs.PropsEdits.{changed_row}
use Rattle.arti_catalog.proofs.props_edits.change_one.Goals as goal

-- where nothing stands nothing is changed
none : (f : ItemRow → ItemRow) (rows next : List (Option ItemRow)) (id : ℕ) → None ≡ at rows id → at next id ≡ None → ((i : ℕ) → i ≢ id → at next i ≡ at rows i) → (i : ℕ) (b : Bool) → eqb i id ≡ b
    → at next i ≡ cond b (option_map f (at rows i)) (at rows i)
none f rows next id was gone others i true e =
    let same = eqb-true i id e in
    ap (at next) same ∙ gone ∙ ap (λ (o : Option ItemRow). option_map f o) (was ∙ ap (at rows) (sym same))
none f rows next id was gone others i false e = others i (eqb-false i id e)

pub returns-in_default : goal.returns-in_default
returns-in_default c = λ i.
    none (changed_row c.args.moment c.args.edit.now) c.args.rows.now c.take.new.self c.args.id c.in_default.ensures.row c.take.ensures.gone c.take.ensures.others i (eqb i c.args.id) refl
