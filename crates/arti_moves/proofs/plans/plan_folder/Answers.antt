use Rattle.std.proofs.Common.{◌≡◌, Bool, false, cond, sym, subst, ◌∙◌}
use Rattle.std.specs.Prelude.{◌&&◌}
use Rattle.arti_rows.specs.declared.edits.Edit.TheVariants as edits
use Rattle.arti_model.specs.Apply.{is_local, has_folder}
use Rattle.arti_model.specs.Decide.{Tells, json}
use Rattle.arti_model.specs.DecideItems.{making, folder_body}
use Rattle.arti_catalog.specs.Held.{items_in}
use Rattle.arti_moves.specs.Moves.{change_in, Plans}
use Rattle.arti_moves.proofs.Outcomes.{makes}
use Rattle.arti_moves.proofs.plans.plan_folder.Goals as goal

pub returns-clause-plan : goal.returns-clause-plan
returns-clause-plan c =
    let limits = c.args.catalog.now.limits in
    let items = items_in c.args.catalog.now in
    let key = c.args.key.now in
    let user = c.args.user.now in
    let missing : (is_local key && has_folder items key) ≡ false = sym c.has_folder.ensures ∙ c.if-has_folder.false in
    subst (λ (b : Bool). Plans c.settle.result (change_in (cond b (Tells (json 201 (folder_body key))) (making limits items c.args.moment user (λ ref. ref) (edits.Folder key) (json 201 (folder_body key))))))
    (sym missing)
    (rw c.settle.ensures
    (makes limits items c.args.moment user (edits.Folder key) (json 201 (folder_body key)) c.check-checked.result c.in_ok-change.change
    (rw c.in_ok-edit.ensures at c.in_ok-change.ensures.change) (rw (c.in_ok-change.ensures.change, c.in_ok-edit.ensures) at c.check-checked.ensures)))
