use Rattle.std.proofs.Common.{◌≡◌, false, [], length, refl, sym, ap, ◌∙◌, subst}
use Rattle.std.specs.Prelude.{All}
use Rattle.std.proofs.lemmas.List.Elements.{All-cons, All-nil}
use Rattle.arti_rows.specs.declared.edits.Change.{Change}
use Rattle.arti_blobs.specs.Contents.{content}
use Rattle.arti_model.specs.Apply.{added_with, passes_limit}
use Rattle.arti_model.specs.Deploys.{given_of}
use Rattle.arti_model.specs.Decide.{anonymous}
use Rattle.arti_model.specs.Decide as model
use Rattle.arti_store.specs.Items.{file_in, items_of}
use Rattle.arti_store.specs.Changes.{references_of}
use Rattle.arti_store.specs.Replays.{itself}
use Rattle.arti_store.specs.Store.{judged}
use Rattle.arti_store.specs.Commit.{MayName}
use Rattle.arti_service.specs.Decisions.{SameDone}
use Rattle.arti_service.specs.Judged.{file_over}
use Rattle.arti_service.proofs.Changes.{deploy_accepted, room_seen}
use Rattle.arti_service.proofs.Deploying.{deploys, deploy_full}
use Rattle.arti_service.proofs.deploy.decide_file.Goals as goal

pub returns-then-passes_limit : goal.returns-then-passes_limit
returns-then-passes_limit c = λ staged kept.
    let v = c.args.store.now in
    let key = c.args.key in
    record {
      means = λ bytes whole.
          deploy_full v bytes c.args.moment key c.args.wanted.now c.args.file
          (room_seen bytes v.rows key v.limits ∙ sym c.passes_limit.ensures ∙ c.if-passes_limit.true);
      may = tt;
    }

pub returns : goal.returns
returns c = λ staged kept.
    let v = c.args.store.now in
    let key = c.args.key in
    let file = c.args.file in
    let wanted = c.args.wanted.now in
    let is = c.in_ok-change.ensures.change in
    let room : passes_limit v.limits (items_of v.rows) (added_with (items_of v.rows) key) ≡ false = sym c.passes_limit.ensures ∙ c.if-passes_limit.false in
    record {
      means = λ bytes whole.
          let long : length (content bytes file) ≡ file.len = whole file kept in
          subst (λ (change : Change). SameDone (model.Makes change (file_in bytes) (model.json 201 c.in_ok-body.body.items)) (file_over bytes v c.args.moment key wanted (file_in bytes file))) (sym is)
          (deploys v bytes c.args.moment key wanted file c.in_ok-body.body.items long (room_seen bytes v.rows key v.limits ∙ room) (c.in_ok-body.ensures bytes long));
      may = (
        record {
          accepted = ap (judged v) is ∙ deploy_accepted v.limits itself c.args.moment anonymous key (given_of wanted) file (items_of v.rows) c.requires.local c.requires.free room;
          has_bytes = c.in_ok-change.ensures.bytes;
          references = subst (λ (change : Change). All (MayName v.contents.kept staged) (references_of change.edits)) (sym is) (All-cons (MayName v.contents.kept staged) file [] kept (All-nil (MayName v.contents.kept staged)));
        },
        record { status = refl; kept = tt },
      );
    }
