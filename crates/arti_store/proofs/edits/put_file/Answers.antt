use Rattle.std.proofs.Common.{◌≡◌, ◌∷◌, ◌++◌, [], rules}
use Rattle.std.specs.Prelude.{map}
use Rattle.std.proofs.lemmas.Result.{IfOk-weaker}
use Rattle.arti_model.specs.Store.{missing_folders}
use Rattle.arti_store.specs.Items.{items_of, find_row, folder_row, file_row}
use Rattle.arti_store.proofs.Meanings.{file_put}
use Rattle.arti_store.proofs.edits.put_file.Goals as goal

pub returns-clause-done : goal.returns-clause-done
returns-clause-done c =
    let m = c.args.moment in
    let u = c.args.user.now in
    let key = c.args.key.now in
    let rows = c.args.rows.now in
    let made : c.push.new.self.items ≡ map (folder_row m u) (missing_folders (items_of rows) key) ++ file_row m u key c.args.given c.args.file c.args.props.now (find_row rows key) ∷ [] = search rules in
    IfOk-weaker c.put_all.result _ _ (λ done put. file_put m u rows (items_of c.put_all.new.self) key c.args.given c.args.file c.args.props.now c.push.new.self.items made put) c.put_all.ensures.put
