use Rattle.std.proofs.lemmas.Result.{err_from_is_err_and}
use Rattle.arti_aql_domains.specs.Paths.{target_view}
use Rattle.arti_aql_domains.proofs.Fields.{no_target, no_key, no_tests, field_tests}
use Rattle.arti_aql_domains.proofs.same.same_field.Goals as goal

pub returns-in_err-target-clause-refused : goal.returns-in_err-target-clause-refused
returns-in_err-target-clause-refused c =
    let p = err_from_is_err_and c.from_residual.result c.from_residual.ensures.1 in
    rw (p.1, p.2) (λ other. no_target _ _ c.args.path.now c.args.tests.now _ (c.in_err-target.ensures.refused other))

pub returns-in_err-key-clause-refused : goal.returns-in_err-key-clause-refused
returns-in_err-key-clause-refused c =
    let p = err_from_is_err_and c.from_residual-in_err-key.result c.from_residual-in_err-key.ensures.1 in
    rw (p.1, p.2) (λ other. no_key _ _ c.args.path.now c.args.tests.now (target_view c.in_ok-target.target) _ c.in_ok-target.ensures.found (c.in_err-key.ensures.refused other))

pub returns-in_err-found-clause-refused : goal.returns-in_err-found-clause-refused
returns-in_err-found-clause-refused c =
    let p = err_from_is_err_and c.from_residual-in_err-found.result c.from_residual-in_err-found.ensures.1 in
    rw (p.1, p.2) (λ other. no_tests _ _ c.args.path.now c.args.tests.now (target_view c.in_ok-target.target) c.in_ok-key.key.now _
    c.in_ok-target.ensures.found c.in_ok-key.ensures.key (c.in_err-found.ensures.refused other))

pub returns-clause-typed : goal.returns-clause-typed
returns-clause-typed c =
    rw c.from_vec.ensures (field_tests _ _ c.args.path.now c.args.tests.now (target_view c.in_ok-target.target) c.in_ok-key.key.now c.in_ok-found.found.items
    c.in_ok-target.ensures.found c.in_ok-key.ensures.key c.in_ok-found.ensures.typed)
