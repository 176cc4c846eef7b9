use Rattle.std.proofs.Common.{◌≡◌, ◌∷◌, ◌++◌, [], rules}
use Rattle.std.specs.Prelude.{map}
use Rattle.std.proofs.lemmas.Result.{IfOk-weaker}
use Rattle.arti_model.specs.Store.{missing_folders}
use Rattle.arti_store.specs.Items.{items_of, folder_row}
use Rattle.arti_store.proofs.Meanings.{folder_put}
use Rattle.arti_store.proofs.edits.put_folder.Goals as goal

pub returns-clause-done : goal.returns-clause-done
returns-clause-done c =
    let m = c.args.moment in
    let u = c.args.user.now in
    let key = c.args.key.now in
    let items = items_of c.args.rows.now in
    let made : c.push.new.self.items ≡ map (folder_row m u) (missing_folders items key) ++ folder_row m u key ∷ [] = search rules in
    IfOk-weaker c.put_all.result _ _ (λ done put. folder_put m u items (items_of c.put_all.new.self) key c.push.new.self.items (search rules) made put) c.put_all.ensures.put
