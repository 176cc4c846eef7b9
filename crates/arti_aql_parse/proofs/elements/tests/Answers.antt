use Rattle.std.proofs.Common.{◌∷◌, [], sym, subst}
use Rattle.std.proofs.lemmas.Result.{err_from_is_err_and}
use Rattle.arti_aql_parse.specs.Ahead.{to_come}
use Rattle.arti_aql_parse.specs.Grammar.{ReadsTests, last_test, more_tests}
use Rattle.arti_aql_parse.specs.Refusal.{RefusesTests, no_test, after_test, later_test}
use Rattle.arti_aql_parse.proofs.RowSteps.{Goes, goes_on}
use Rattle.arti_aql_parse.proofs.elements.tests.Goals as goal

pub returns-in_err-x-clause-refused : goal.returns-in_err-x-clause-refused
returns-in_err-x-clause-refused c =
    let p = err_from_is_err_and c.from_residual.result c.from_residual.ensures.1 in
    rw (p.1, p.2) (λ other. c.row.invariant.refuses _ (no_test (c.in_err-x.ensures.refused other)))

pub returns-in_err-more-clause-refused : goal.returns-in_err-more-clause-refused
returns-in_err-more-clause-refused c =
    let p = err_from_is_err_and c.from_residual-in_err-more.result c.from_residual-in_err-more.ensures.1 in
    rw (p.1, p.2) (λ other. c.row.invariant.refuses _ (after_test c.in_ok-x.ensures.read c.in_err-more.ensures.err))

pub returns-then-not-branch-clause-read : goal.returns-then-not-branch-clause-read
returns-then-not-branch-clause-read c =
    let mark = rw c.if-not-branch.true at c.in_ok-more.ensures.more in
    subst (λ l. ReadsTests (to_come c.args.parser.now) l (to_come c.more.new.self)) (sym c.in_ok-push.ensures.items) (c.row.invariant.reads (c.in_ok-x.x ∷ []) _ (last_test c.in_ok-x.ensures.read mark))

pub row-preserved : goal.row-preserved
row-preserved c =
    let mark = rw c.if-not-branch.false at c.in_ok-more.ensures.more in
    subst (λ l. Goes ReadsTests RefusesTests (to_come c.args.parser.now) (to_come c.more.new.self) l) (sym c.in_ok-push.ensures.items)
    (goes_on ReadsTests RefusesTests _ _ _ _ _ (λ xs b r. more_tests c.in_ok-x.ensures.read mark r) (λ f r. later_test c.in_ok-x.ensures.read mark r) c.row.invariant)
