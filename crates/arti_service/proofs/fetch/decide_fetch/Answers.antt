use Rattle.std.proofs.Common.{◌≡◌, [], refl, sym, ap, ◌∙◌, subst}
use Rattle.std.specs.Prelude.{All, None, option_map}
use Rattle.std.proofs.lemmas.List.Elements.{All-nil}
use Rattle.arti_rows.specs.declared.edits.Change.{Change}
use Rattle.arti_rows.specs.declared.refusal.Refusal.TheVariants as refusals
use Rattle.arti_model.specs.Decide.{anonymous, file_at}
use Rattle.arti_model.specs.Decide as model
use Rattle.arti_store.specs.Items.{file_in, items_in}
use Rattle.arti_store.specs.Changes.{references_of}
use Rattle.arti_store.specs.Replays.{itself}
use Rattle.arti_store.specs.Store.{judged}
use Rattle.arti_store.specs.Commit.{MayName}
use Rattle.arti_service.specs.Decisions.{SameDone, decided_in}
use Rattle.arti_service.proofs.Changes.{fetch_accepted}
use Rattle.arti_service.proofs.Deploying.{fetches, same_as}
use Rattle.arti_service.proofs.fetch.decide_fetch.Goals as goal

pub returns : goal.returns
returns c = λ body sent.
    let v = c.args.store.now in
    let file = c.in-Some.file in
    let key = c.args.key in
    let is = c.in_ok-change.ensures.change in
    record {
      means = λ bytes whole.
          subst (λ (change : Change). SameDone (model.Makes change (file_in bytes) (model.content_of (file_in bytes file))) (model.decide_content c.args.moment key (file_at (items_in bytes v.rows) key))) (sym is)
          (fetches bytes c.args.moment key file (file_at (items_in bytes v.rows) key) (c.in-Some.ensures.file bytes));
      may = (
        record {
          accepted = ap (judged v) is ∙ fetch_accepted v.limits itself c.args.moment anonymous key v.rows (file_in [] file) c.requires (sym (c.in-Some.ensures.file []));
          has_bytes = c.in_ok-change.ensures.bytes;
          references = subst (λ (change : Change). All (MayName v.contents.kept None) (references_of change.edits)) (sym is) (All-nil (MayName v.contents.kept None));
        },
        record { status = refl; kept = c.in-Some.ensures.kept },
      );
    }

pub returns-in_default : goal.returns-in_default
returns-in_default c = λ body sent. record {
  means = λ bytes whole.
      let v = c.args.store.now in
      let none : None ≡ file_at (items_in bytes v.rows) c.args.key = ap (option_map (file_in bytes)) (sym c.in_default.is) ∙ c.file_at.ensures.file bytes in
      same_as (model.Refused (refusals.NotFound c.args.key)) (decided_in bytes v (model.Fetch c.args.key) body sent c.args.moment) (ap (model.decide_content c.args.moment c.args.key) none);
  may = tt;
}
