use Rattle.std.proofs.Common.{◌≡◌, ℕ, ℤ, List, [], length, Option, Some, None, sym, ap, ◌∙◌}
use Rattle.std.proofs.lemmas.Result.{IfOk-weaker}
use Rattle.arti_rows.specs.Key.{Key}
use Rattle.arti_rows.specs.declared.rows.FileRef.{FileRef}
use Rattle.arti_rows.specs.declared.rows.Given.{Given}
use Rattle.arti_rows.specs.declared.rows.ItemRow.{ItemRow}
use Rattle.arti_model.specs.Store.{Item, File, find_item}
use Rattle.arti_model.specs.Apply.{deployed}
use Rattle.arti_model.specs.Bodies.{deploy_body, deployed_body}
use Rattle.arti_model.specs.Deploys.{given_of}
use Rattle.arti_model.specs.Decide.{anonymous}
use Rattle.arti_store.specs.Items.{file_in, item_in, items_in}
use Rattle.arti_service.proofs.deploy.deploy_body.Goals as goal

-- what is told of the item, by the one that was there
abbrev body_with : List ℕ → ℤ → Key → Given → FileRef → Option (Item File) → List ℕ
body_with bytes moment key given file old = deploy_body (deployed moment anonymous key given (file_in bytes file) [] old) (file_in bytes file)

told_new : (bytes : List ℕ) (moment : ℤ) (key : Key) (given : Given) (file : FileRef) (old : Option (Item File)) → None ≡ old → length (file_in bytes file).content ≡ file.len
    → deployed_body key moment anonymous file.len file.digests ≡ body_with bytes moment key given file old
told_new bytes moment key given file old is whole = ap (λ n. deployed_body key moment anonymous n file.digests) (sym whole) ∙ ap (body_with bytes moment key given file) is

told_again : (bytes : List ℕ) (moment : ℤ) (key : Key) (given : Given) (file : FileRef) (row : ItemRow) (user : List ℕ) (old : Option (Item File)) → Some (item_in bytes row) ≡ old → user ≡ row.created_by → length (file_in bytes file).content ≡ file.len
    → deployed_body key row.created user file.len file.digests ≡ body_with bytes moment key given file old
told_again bytes moment key given file row user old is same whole =
    ap (λ n. deployed_body key row.created user n file.digests) (sym whole)
    ∙ ap (λ t. deployed_body key row.created t (length (file_in bytes file).content) file.digests) same
    ∙ ap (body_with bytes moment key given file) is

pub returns-in-None : goal.returns-in-None
returns-in-None c =
    IfOk-weaker c.deployed.result _ _ (λ v is bytes whole.
    is ∙ told_new bytes c.args.moment c.args.key.now (given_of c.args.wanted.now) c.args.file.now (find_item (items_in bytes c.args.store.now.rows) c.args.key.now) (c.in-None.ensures.item bytes) whole) c.deployed.ensures

pub returns-in-Some : goal.returns-in-Some
returns-in-Some c =
    IfOk-weaker c.deployed-in-Some.result _ _ (λ v is bytes whole.
    is ∙ told_again bytes c.args.moment c.args.key.now (given_of c.args.wanted.now) c.args.file.now c.in-Some.row.now c.as_str.result.now (find_item (items_in bytes c.args.store.now.rows) c.args.key.now) (c.in-Some.ensures.item bytes) c.as_str.ensures whole) c.deployed-in-Some.ensures
