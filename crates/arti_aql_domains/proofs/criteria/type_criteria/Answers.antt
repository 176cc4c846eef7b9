use Rattle.std.proofs.lemmas.Result.{err_from_is_err_and}
use Rattle.arti_aql_domains.proofs.Groups.{criteria_given, criteria_refused}
use Rattle.arti_aql_domains.proofs.criteria.type_criteria.Goals as goal

pub returns-in_err-parts-clause-refused : goal.returns-in_err-parts-clause-refused
returns-in_err-parts-clause-refused c =
    let p = err_from_is_err_and c.from_residual.result c.from_residual.ensures.1 in
    rw (p.1, p.2) (λ other. criteria_refused _ c.args.find.now _ (c.in_err-parts.ensures.refused other))

pub returns-clause-typed : goal.returns-clause-typed
returns-clause-typed c = criteria_given _ c.args.find.now c.in_ok-parts.parts c.in_ok-parts.ensures.typed
