use Rattle.std.proofs.Common.{true, false, Some, None, sym, ap, ◌∙◌}
use Rattle.std.specs.Prelude.{option_map}
use Rattle.std.proofs.lemmas.Result.{IfOk-weaker}
use Rattle.arti_rows.specs.declared.refusal.Refusal.TheVariants as refusals
use Rattle.arti_model.specs.Deploys.{file_with}
use Rattle.arti_model.specs.Store.{File}
use Rattle.arti_model.specs.Decide as model
use Rattle.arti_store.specs.Items.{file_in, items_in}
use Rattle.arti_service.specs.Decisions.{decided_in}
use Rattle.arti_service.specs.Judged.{file_over}
use Rattle.arti_service.proofs.Changes.{barred_seen}
use Rattle.arti_service.proofs.Deploying.{same_as, found_is}
use Rattle.arti_service.proofs.Preparing.{decides_as}
use Rattle.arti_service.proofs.deploy.decide_deploy_found.Goals as goal

pub returns-then-is_barred : goal.returns-then-is_barred
returns-then-is_barred c = λ body sent. record {
  means = λ bytes whole.
      let found = file_with (λ (f : File). f.digests) c.args.wanted.now (items_in bytes c.args.store.now.rows) in
      same_as (model.Refused (refusals.NotYet None)) (decided_in bytes c.args.store.now (model.DeployFound c.args.key c.args.wanted.now) body sent c.args.moment)
      (found_is c.args.store.now bytes c.args.moment c.args.key c.args.wanted.now body sent true found (barred_seen bytes c.args.store.now.rows c.args.key ∙ sym c.is_barred.ensures ∙ c.if-is_barred.true) (λ i. found));
  may = tt;
}

pub returns-in_default : goal.returns-in_default
returns-in_default c = λ body sent. record {
  means = λ bytes whole.
      same_as (model.Refused refusals.NoContent) (decided_in bytes c.args.store.now (model.DeployFound c.args.key c.args.wanted.now) body sent c.args.moment)
      (found_is c.args.store.now bytes c.args.moment c.args.key c.args.wanted.now body sent false None (barred_seen bytes c.args.store.now.rows c.args.key ∙ sym c.is_barred.ensures ∙ c.if-is_barred.false)
      (sym (c.file_with.ensures.file bytes) ∙ ap (option_map (file_in bytes)) c.in_default.is));
  may = tt;
}

pub decide_file-requires-clause-free : goal.decide_file-requires-clause-free
decide_file-requires-clause-free c = sym c.is_barred.ensures ∙ c.if-is_barred.false

pub returns : goal.returns
returns c = λ body sent.
    let v = c.args.store.now in
    let file = c.in-Some.file in
    IfOk-weaker c.decide_file.result _ _ (λ d is.
    decides_as v None (λ bytes. file_over bytes v c.args.moment c.args.key c.args.wanted.now (file_in bytes file)) (λ bytes. decided_in bytes v (model.DeployFound c.args.key c.args.wanted.now) body sent c.args.moment)
    (λ bytes. found_is v bytes c.args.moment c.args.key c.args.wanted.now body sent false (Some (file_in bytes file)) (barred_seen bytes c.args.store.now.rows c.args.key ∙ sym c.is_barred.ensures ∙ c.if-is_barred.false)
    (sym (c.file_with.ensures.file bytes) ∙ ap (option_map (file_in bytes)) c.in-Some.is)) d is)
    (c.decide_file.ensures None c.in-Some.ensures.kept)
