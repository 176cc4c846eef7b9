use Rattle.std.proofs.Common.{◌≡◌, inr, refl, ℕ, true, false, List, Some, None, sym, ap, ◌∙◌}
use Rattle.std.specs.Option.{option_copied}
use Rattle.std.proofs.lemmas.Result.{IfOk-weaker}
use Rattle.arti_rows.specs.declared.refusal.Refusal.TheVariants as refusals
use Rattle.arti_model.specs.Deploys.{mismatch}
use Rattle.arti_model.specs.Decide as model
use Rattle.arti_store.specs.Items.{file_in}
use Rattle.arti_service.specs.Decisions.{decided_in}
use Rattle.arti_service.specs.Judged.{file_over}
use Rattle.arti_service.proofs.Changes.{barred_seen}
use Rattle.arti_service.proofs.Deploying.{same_as, sent_is}
use Rattle.arti_service.proofs.Preparing.{decides_as}
use Rattle.arti_service.proofs.deploy.decide_deploy.Goals as goal

pub returns-then-is_barred : goal.returns-then-is_barred
returns-then-is_barred c = λ body. record {
  means = λ bytes whole.
      let sent = file_in bytes c.args.sent.now.file in
      same_as (model.Refused (refusals.NotYet None)) (decided_in bytes c.args.store.now (model.Deploy c.args.key c.args.wanted.now) body sent c.args.moment)
      (sent_is c.args.store.now bytes c.args.moment c.args.key c.args.wanted.now c.args.sent.now.file body true (mismatch c.args.wanted.now sent.digests) (barred_seen bytes c.args.store.now.rows c.args.key ∙ sym c.is_barred.ensures ∙ c.if-is_barred.true) (λ i. mismatch c.args.wanted.now sent.digests));
  may = tt;
}

pub returns-in-Some : goal.returns-in-Some
returns-in-Some c = λ body. record {
  means = λ bytes whole.
      let sent = file_in bytes c.args.sent.now.file in
      let differs : mismatch c.args.wanted.now sent.digests ≡ Some c.in_ok-name.name = sym c.mismatch.ensures ∙ ap option_copied c.in-Some.is ∙ ap (λ (t : List ℕ). Some t) (sym c.in_ok-name.ensures) in
      same_as (model.Refused (refusals.ChecksumMismatch c.in_ok-name.name)) (decided_in bytes c.args.store.now (model.Deploy c.args.key c.args.wanted.now) body sent c.args.moment)
      (sent_is c.args.store.now bytes c.args.moment c.args.key c.args.wanted.now c.args.sent.now.file body false (Some c.in_ok-name.name) (barred_seen bytes c.args.store.now.rows c.args.key ∙ sym c.is_barred.ensures ∙ c.if-is_barred.false) differs);
  may = tt;
}

pub decide_file-requires-clause-free : goal.decide_file-requires-clause-free
decide_file-requires-clause-free c = sym c.is_barred.ensures ∙ c.if-is_barred.false

pub returns : goal.returns
returns c = λ body.
    let v = c.args.store.now in
    let sent = c.args.sent.now in
    let differs : mismatch c.args.wanted.now sent.file.digests ≡ None = sym c.mismatch.ensures ∙ ap option_copied c.in_default.is in
    IfOk-weaker c.decide_file.result _ _ (λ d is.
    decides_as v (Some sent) (λ bytes. file_over bytes v c.args.moment c.args.key c.args.wanted.now (file_in bytes sent.file)) (λ bytes. decided_in bytes v (model.Deploy c.args.key c.args.wanted.now) body (file_in bytes sent.file) c.args.moment)
    (λ bytes. sent_is v bytes c.args.moment c.args.key c.args.wanted.now sent.file body false None (barred_seen bytes c.args.store.now.rows c.args.key ∙ sym c.is_barred.ensures ∙ c.if-is_barred.false) differs) d is)
    (c.decide_file.ensures (Some sent) (inr refl))
