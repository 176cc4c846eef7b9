use Rattle.std.proofs.Common.{◌∷◌, [], sym, subst}
use Rattle.std.proofs.lemmas.Result.{err_from_is_err_and}
use Rattle.arti_aql_parse.specs.Ahead.{to_come}
use Rattle.arti_aql_parse.specs.Grammar.{ReadsTexts, last_text, more_texts}
use Rattle.arti_aql_parse.specs.Refusal.{RefusesTexts, no_text, after_text, later_text}
use Rattle.arti_aql_parse.proofs.RowSteps.{Goes, goes_on}
use Rattle.arti_aql_parse.proofs.elements.texts.Goals as goal

pub returns-in_err-text-clause-refused : goal.returns-in_err-text-clause-refused
returns-in_err-text-clause-refused c =
    let p = err_from_is_err_and c.from_residual.result c.from_residual.ensures.1 in
    rw (p.1, p.2) (λ other. let h = c.in_err-text.ensures.err other in c.row.invariant.refuses _ (no_text h.1 h.0))

pub returns-in_err-more-clause-refused : goal.returns-in_err-more-clause-refused
returns-in_err-more-clause-refused c =
    let p = err_from_is_err_and c.from_residual-in_err-more.result c.from_residual-in_err-more.ensures.1 in
    rw (p.1, p.2) (λ other. c.row.invariant.refuses _ (after_text c.in_ok-text.ensures.ok c.in_err-more.ensures.err))

pub returns-then-not-branch-clause-read : goal.returns-then-not-branch-clause-read
returns-then-not-branch-clause-read c =
    let mark = rw c.if-not-branch.true at c.in_ok-more.ensures.more in
    subst (λ l. ReadsTexts c.args.close (to_come c.args.parser.now) l (to_come c.more.new.self)) (sym c.in_ok-push.ensures.items) (c.row.invariant.reads (c.in_ok-text.text ∷ []) _ (last_text c.in_ok-text.ensures.ok mark))

pub row-preserved : goal.row-preserved
row-preserved c =
    let mark = rw c.if-not-branch.false at c.in_ok-more.ensures.more in
    subst (λ l. Goes (ReadsTexts c.args.close) (RefusesTexts c.args.close) (to_come c.args.parser.now) (to_come c.more.new.self) l) (sym c.in_ok-push.ensures.items)
    (goes_on (ReadsTexts c.args.close) (RefusesTexts c.args.close) _ _ _ _ _ (λ xs b r. more_texts c.in_ok-text.ensures.ok mark r) (λ f r. later_text c.in_ok-text.ensures.ok mark r) c.row.invariant)
