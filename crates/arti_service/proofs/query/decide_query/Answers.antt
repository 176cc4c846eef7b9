use Rattle.std.proofs.Common.{◌≡◌, ℕ, Bool, false, List, cond, length, sym, ap, subst, ◌∙◌, rules}
use Rattle.std.specs.Prelude.{Option, Some, None, nat_lt}
use Rattle.std.proofs.lemmas.Bool.{le-ltb}
use Rattle.std.proofs.lemmas.Result.{IfOk-weaker}
use Rattle.arti_rows.specs.declared.refusal.Refusal.TheVariants as refusals
use Rattle.arti_model.specs.Query.{thin_key}
use Rattle.arti_model.specs.Store.{Repository, File}
use Rattle.arti_model.specs.Decide as model
use Rattle.arti_store.specs.Store.{View, holding_of}
use Rattle.arti_aql_parse.specs.Thin.{LeavesForm, ThinFaultIs}
use Rattle.arti_service.specs.declared.decision.Decision.TheVariants.{Refused}
use Rattle.arti_service.specs.Decisions.{Decides, decided_in}
use Rattle.arti_service.specs.Queries.{key_over}
use Rattle.arti_service.proofs.Deploying.{same_as}
use Rattle.arti_service.proofs.Preparing.{decides_as}
use Rattle.arti_service.proofs.Thin.{key_read, no_key, end_is}
use Rattle.arti_service.proofs.query.decide_query.Goals as goal

-- a query whose body isn't too large, by what its key is
module _ (v : View) (body : List ℕ) (small : nat_lt v.limits.document (length body) ≡ false) (bytes : List ℕ) where
  abbrev r : Repository File
  r = (holding_of bytes v).repository

  by_key : (key : Option (List ℕ)) → thin_key body ≡ key → model.decide_by_key r body key ≡ model.decide_query v.limits r body
  by_key key is =
      ap (model.decide_by_key r body) (sym is) ∙ ap (λ (b : Bool). cond b (model.Refused refusals.DocumentTooLarge) (model.decide_by_key r body (thin_key body))) (sym small)

pub returns-in-Ok-clause-decides : goal.returns-in-Ok-clause-decides
returns-in-Ok-clause-decides c = λ sent moment.
    let v = c.args.store.now in
    let body = c.args.body.now in
    let small : nat_lt v.limits.document (length body) ≡ false = le-ltb _ _ (search rules) in
    let text : c.as_str.result.now ≡ c.in-Ok.key = search rules in
    IfOk-weaker c.decide_found.result _ _ (λ d is.
    decides_as v None (λ bytes. key_over bytes v c.as_str.result.now) (λ bytes. decided_in bytes v model.Query body sent moment)
    (λ bytes. ap (key_over bytes v) text ∙ by_key v body small bytes (Some c.in-Ok.key) (key_read body c.in-Ok.key c.in-Ok.ensures.found)) d is) c.decide_found.ensures.decides

pub returns-in-Err-NotYet-clause-decides : goal.returns-in-Err-NotYet-clause-decides
returns-in-Err-NotYet-clause-decides c = λ sent moment.
    let v = c.args.store.now in
    let body = c.args.body.now in
    let at = c.in-Err-NotYet.at in
    let small : nat_lt v.limits.document (length body) ≡ false = le-ltb _ _ (search rules) in
    let leaves : LeavesForm body at = subst (ThinFaultIs body) c.in-Err-NotYet.field-0-is c.in-Err-NotYet.ensures.not_yet in
    subst (λ n. Decides v None (λ bytes. decided_in bytes v model.Query body sent moment) (Refused (refusals.NotYet (Some n)))) (sym c.in-Err-NotYet.at-is)
    (record {
      means = λ bytes whole.
          same_as (model.Refused (refusals.NotYet (Some at))) (decided_in bytes v model.Query body sent moment)
          (ap (λ (n : ℕ). model.Refused (refusals.NotYet (Some n))) (sym (end_is body at leaves)) ∙ by_key v body small bytes None (no_key body leaves.none));
      may = tt;
    })
