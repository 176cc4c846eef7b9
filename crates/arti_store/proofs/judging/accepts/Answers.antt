use Rattle.std.proofs.Common.{◌∙◌, Bool, ap, sym}
use Rattle.std.specs.Prelude.{is_none}
use Rattle.std.proofs.lemmas.Result.{IfOk-weaker}
use Rattle.arti_rows.specs.declared.edits.Edit.{Edit}
use Rattle.arti_rows.specs.declared.refusal.Refusal.TheVariants.{FileHere, FolderHere}
use Rattle.arti_model.specs.Apply.{put_refusal, edit_refusal}
use Rattle.arti_store.specs.Items.{items_of}
use Rattle.arti_store.proofs.Meanings.{put_judged}
use Rattle.arti_store.proofs.judging.accepts.Goals as goal

pub returns-in-Folder : goal.returns-in-Folder
returns-in-Folder c =
    let limits = c.args.limits.now in
    let rows = c.args.rows.now in
    let key = c.in-Folder.key in
    let judged =
    sym (put_judged limits rows key c.has_file.result (FileHere key)) ∙ ap (λ (t : Bool). is_none (put_refusal limits (items_of rows) key t (FileHere key))) c.has_file.ensures
    ∙ sym (ap (λ (e : Edit). is_none (edit_refusal limits e (items_of rows))) c.in-Folder.is) in
    IfOk-weaker c.may_put.result _ _ (λ b h. h ∙ judged) c.may_put.ensures

pub returns-in-File : goal.returns-in-File
returns-in-File c =
    let limits = c.args.limits.now in
    let rows = c.args.rows.now in
    let key = c.in-File.key in
    let judged =
    sym (put_judged limits rows key c.has_folder.result (FolderHere key)) ∙ ap (λ (t : Bool). is_none (put_refusal limits (items_of rows) key t (FolderHere key))) c.has_folder.ensures
    ∙ sym (ap (λ (e : Edit). is_none (edit_refusal limits e (items_of rows))) c.in-File.is) in
    IfOk-weaker c.may_put-in-File.result _ _ (λ b h. h ∙ judged) c.may_put-in-File.ensures
