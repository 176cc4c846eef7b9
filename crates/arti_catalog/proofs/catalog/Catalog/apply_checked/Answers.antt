use Rattle.std.proofs.Common.{List, sym, ap, ◌∙◌}
use Rattle.arti_rows.specs.declared.edits.Edit.{Edit}
use Rattle.arti_catalog.specs.Built.{edits_refusal}
use Rattle.arti_catalog.specs.declared.parts.Parts.{Parts}
use Rattle.arti_catalog.specs.Held.{Held, items_in, items_of, itself}
use Rattle.arti_catalog.proofs.Changing.{told_by}
use Rattle.arti_catalog.proofs.catalog.Catalog.apply_checked.Goals as goal

pub returns-in_err-judge_and_do-clause-judged : goal.returns-in_err-judge_and_do-clause-judged
returns-in_err-judge_and_do-clause-judged c =
    let limits = c.self.inside.limits in
    let moment = c.args.change.now.moment in
    let user = c.args.change.now.user in
    let edits = c.args.change.now.edits in
    let now = c.args.self.now in
    let parts = c.self.inside.parts in
    told_by c.from_residual-in_err-judge_and_do.result c.in_err-judge_and_do.field-0.0 (edits_refusal now.limits itself moment user edits (items_in now))
    c.from_residual-in_err-judge_and_do.ensures
    (λ other.
    ap (λ (h : Held). edits_refusal h.limits itself moment user edits (items_in h)) (sym c.self.view_is)
    ∙ ap (λ (l : List Edit). edits_refusal limits itself moment user l (items_of parts.tree parts.rows)) (sym c.as_slice.ensures)
    ∙ ap (λ (p : Parts). edits_refusal limits itself moment user c.as_slice.result.now (items_of p.tree p.rows)) (sym c.replace-parts.ensures.value)
    ∙ c.in_err-judge_and_do.ensures.judged other)
