use Rattle.std.proofs.Common.{◌≡◌, ◌≢◌, [], Some, true, false, sym, ap, ◌∙◌, subst, append-nil, rules}
use Rattle.std.proofs.lemmas.Result.{err_from_is_err_and}
use Rattle.arti_aql_lex.specs.declared.token.TokenKind.TheVariants.{Name, Dot, Open}
use Rattle.arti_aql_parse.specs.Ahead.{to_come}
use Rattle.arti_aql_parse.specs.Front.{kind_at, first_value, tail, wrong}
use Rattle.arti_aql_parse.specs.Words.{is_find}
use Rattle.arti_aql_parse.specs.Grammar.{Mark, ReadsHead, find, part}
use Rattle.arti_aql_parse.specs.Refusal.{RefusesHead, no_name, no_name_dot, no_find_open, later_name}
use Rattle.arti_aql_parse.proofs.RowSteps.{Goes, goes_on}
use Rattle.arti_aql_parse.proofs.reading.head.Goals as goal

pub returns-then-not-is_at-clause-refused : goal.returns-then-not-is_at-clause-refused
returns-then-not-is_at-clause-refused c = λ other. c.row.invariant.refuses _ (no_name (search rules) c.refusal.ensures)

pub returns-then-not-is_find-clause-refused : goal.returns-then-not-is_find-clause-refused
returns-then-not-is_find-clause-refused c =
    let here : kind_at (to_come c.row.parser) ≡ Some Name = search rules in
    let other_name : is_find (first_value (to_come c.row.parser)) ≡ false = ap is_find (sym (c.as_str.ensures ∙ c.in_ok-name.ensures.value)) ∙ sym c.is_find.ensures ∙ c.if-not-is_find.true in
    let dot : kind_at (tail (to_come c.row.parser)) ≢ Some Dot = search rules in
    λ other. c.row.invariant.refuses _ (no_name_dot here other_name dot (c.refusal-then-not-is_find.ensures ∙ ap (wrong _) c.pass.ensures))

pub returns-in_err-take-clause-refused : goal.returns-in_err-take-clause-refused
returns-in_err-take-clause-refused c =
    let p = err_from_is_err_and c.from_residual-in_err-take.result c.from_residual-in_err-take.ensures.1 in
    let here : kind_at (to_come c.row.parser) ≡ Some Name = search rules in
    let name : is_find (first_value (to_come c.row.parser)) ≡ true = ap is_find (sym (c.as_str.ensures ∙ c.in_ok-name.ensures.value)) ∙ sym c.is_find.ensures ∙ c.if-not-is_find.false in
    let dot : kind_at (tail (to_come c.row.parser)) ≢ Some Dot = search rules in
    let e = c.in_err-take.ensures.err in
    let open_mark : kind_at (tail (to_come c.row.parser)) ≢ Some Open = λ h. e.1 (ap kind_at c.pass.ensures ∙ h) in
    rw (p.1, p.2) (λ other. c.row.invariant.refuses _ (no_find_open here name dot open_mark (e.0 ∙ ap (wrong _) c.pass.ensures)))

pub returns-then-not-is_at-2-clause-read : goal.returns-then-not-is_at-2-clause-read
returns-then-not-is_at-2-clause-read c =
    let here : kind_at (to_come c.row.parser) ≡ Some Name = search rules in
    let name : is_find (first_value (to_come c.row.parser)) ≡ true = ap is_find (sym (c.as_str.ensures ∙ c.in_ok-name.ensures.value)) ∙ sym c.is_find.ensures ∙ c.if-not-is_find.false in
    let mark : Mark Open (tail (to_come c.row.parser)) (to_come c.take.new.self) = subst (λ x. Mark Open x (to_come c.take.new.self)) c.pass.ensures c.in_ok-take.ensures.ok in
    subst (λ l. ReadsHead (to_come c.args.parser.now) l (to_come c.take.new.self)) (append-nil c.row.names.items) (c.row.invariant.reads [] _ (find here name mark))

pub row-preserved : goal.row-preserved
row-preserved c =
    let here : kind_at (to_come c.row.parser) ≡ Some Name = search rules in
    let dot : kind_at (tail (to_come c.row.parser)) ≡ Some Dot = search rules in
    let mark : Mark Dot (tail (to_come c.row.parser)) (to_come c.pass-in-row.new.self) = record { here = dot; rest = c.pass-in-row.ensures ∙ ap tail c.pass.ensures } in
    subst (λ l. Goes ReadsHead RefusesHead (to_come c.args.parser.now) (to_come c.pass-in-row.new.self) l) (sym c.in_ok-push.ensures.items)
    (goes_on ReadsHead RefusesHead _ _ _ _ _ (λ xs b r. part here c.in_ok-name.ensures.value mark r) (λ f r. later_name here mark r) c.row.invariant)
