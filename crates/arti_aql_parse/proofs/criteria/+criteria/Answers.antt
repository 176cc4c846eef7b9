use Rattle.std.proofs.Common.{◌≡◌, ◌+◌, ◌-◌, ◌∷◌, [], Some, None, map, sym, ap, ◌∙◌, subst, arith, rules, refl, List, ℕ, Bool, true, false, not, ◌||◌, Option, is_some}
use Rattle.std.proofs.lemmas.Bool.{false≢true}
use Rattle.arti_aql_parse.specs.Words as word
use Rattle.arti_aql_parse.specs.declared.words.Group.{Group}
use Rattle.std.proofs.lemmas.Result.{err_from_is_err_and}
use Rattle.std.proofs.lemmas.List.{map_push}
use Rattle.arti_aql_lex.specs.declared.token.TokenKind.TheVariants.{ObjectOpen, ObjectClose, ListOpen}
use Rattle.arti_aql_parse.specs.Ahead.{to_come}
use Rattle.arti_aql_parse.specs.Grammar as grammar
use Rattle.arti_aql_parse.specs.Refusal as refusal
use Rattle.arti_aql_parse.specs.View.{member_view, object_view, members_of}
use Rattle.arti_aql_parse.proofs.RowSteps.{Goes, goes_on}
use Rattle.arti_aql_parse.proofs.CriteriaRows.{ReadsMemberRow, ReadsObjectRow, member_smaller, object_smaller, mark_le}
use Rattle.arti_aql_parse.proofs.TreeViews.{view-Tests, view-Object}
use Rattle.arti_aql_parse.proofs.criteria.+criteria.Goals as goal

pub member-returns-in_err-key-clause-refused : goal.member-returns-in_err-key-clause-refused
member-returns-in_err-key-clause-refused t c =
    let p = err_from_is_err_and c.from_residual.result c.from_residual.ensures.1 in
    rw (p.1, p.2) (λ other. refusal.not_a_key (c.in_err-key.ensures.refused other))

-- no group has this key, so it is a field's
field_of : (key : List ℕ) → word.group_of key ≡ None → word.is_key key ≡ true → grammar.IsField key
field_of key none fits = record { plain = none; other = plain_key (word.group_of key) (word.begins_with_dollar key) none fits }
  where
    plain_key : (g : Option Group) (d : Bool) → g ≡ None → (is_some g || not d) ≡ true → d ≡ false
    plain_key None false e h = refl
    plain_key None true e h = absurd (false≢true h)
    plain_key (Some x) d e h = let never : Some x ≡ None = e in cc

pub member-returns-in_err-tests-clause-refused : goal.member-returns-in_err-tests-clause-refused
member-returns-in_err-tests-clause-refused t c =
    let p = err_from_is_err_and c.from_residual-in_err-tests.result c.from_residual-in_err-tests.ensures.1 in
    let none : word.group_of c.in_ok-key.key ≡ None = ap word.group_of (sym c.as_str.ensures) ∙ sym c.in_default.ensures in
    rw (p.1, p.2) (λ other. refusal.in_operand c.in_ok-key.ensures.read (field_of c.in_ok-key.key none c.in_ok-key.ensures.fits) (c.in_err-tests.ensures.refused other))

pub member-returns-in_default-clause-read : goal.member-returns-in_default-clause-read
member-returns-in_default-clause-read t c =
    let none : word.group_of c.in_ok-key.key ≡ None = ap word.group_of (sym c.as_str.ensures) ∙ sym c.in_default.ensures in
    subst (λ m. grammar.ReadsMember c.args.left (to_come c.args.parser.now) m (to_come c.operand.new.parser)) (sym (view-Tests c.in_ok-key.key c.in_ok-tests.tests))
    (grammar.field c.in_ok-key.ensures.read (field_of c.in_ok-key.key none c.in_ok-key.ensures.fits) c.in_ok-tests.ensures.read)

pub member-returns-then-not-is_at-clause-refused : goal.member-returns-then-not-is_at-clause-refused
member-returns-then-not-is_at-clause-refused t c =
    let join : word.group_of c.in_ok-key.key ≡ Some c.in-Some.join = ap word.group_of (sym c.as_str.ensures) ∙ sym c.in-Some.ensures in
    λ other. refusal.no_list c.in_ok-key.ensures.read join (search rules) c.refusal.ensures

pub member-returns-then-left-eq0-clause-refused : goal.member-returns-then-left-eq0-clause-refused
member-returns-then-left-eq0-clause-refused t c =
    let join : word.group_of c.in_ok-key.key ≡ Some c.in-Some.join = ap word.group_of (sym c.as_str.ensures) ∙ sym c.in-Some.ensures in
    λ other. refusal.deep_list c.in_ok-key.ensures.read join c.if-left-eq0.true (search rules) refl

pub member-returns-in_err-objects-clause-refused : goal.member-returns-in_err-objects-clause-refused
member-returns-in_err-objects-clause-refused t c =
    let join : word.group_of c.in_ok-key.key ≡ Some c.in-Some.join = ap word.group_of (sym c.as_str.ensures) ∙ sym c.in-Some.ensures in
    let less : c.args.left ≡ c.args.left - 1 + 1 = omega arith in
    let mark : grammar.Mark ListOpen (to_come c.key.new.parser) (to_come c.pass.new.self) = record { here = search rules; rest = c.pass.ensures } in
    let p = err_from_is_err_and c.from_residual-in_err-objects.result c.from_residual-in_err-objects.ensures.1 in
    rw (p.1, p.2) (λ other. refusal.in_list c.in_ok-key.ensures.read join less mark (c.in_err-objects.ensures.refused other))

pub member-returns-clause-read : goal.member-returns-clause-read
member-returns-clause-read t c =
    let join : word.group_of c.in_ok-key.key ≡ Some c.in-Some.join = ap word.group_of (sym c.as_str.ensures) ∙ sym c.in-Some.ensures in
    let less : c.args.left ≡ c.args.left - 1 + 1 = omega arith in
    let mark : grammar.Mark ListOpen (to_come c.key.new.parser) (to_come c.pass.new.self) = record { here = search rules; rest = c.pass.ensures } in
    subst (λ m. grammar.ReadsMember c.args.left (to_come c.args.parser.now) m (to_come c.objects.new.parser)) (sym c.joined.ensures)
    (grammar.list c.in_ok-key.ensures.read join less mark c.in_ok-objects.ensures.read)

pub members-returns-in_err-x-clause-refused : goal.members-returns-in_err-x-clause-refused
members-returns-in_err-x-clause-refused t c =
    let p = err_from_is_err_and c.from_residual.result c.from_residual.ensures.1 in
    rw (p.1, p.2) (λ other. c.row.invariant.refuses _ (refusal.no_member (c.in_err-x.ensures.refused other)))

pub members-returns-in_err-more-clause-refused : goal.members-returns-in_err-more-clause-refused
members-returns-in_err-more-clause-refused t c =
    let p = err_from_is_err_and c.from_residual-in_err-more.result c.from_residual-in_err-more.ensures.1 in
    rw (p.1, p.2) (λ other. c.row.invariant.refuses _ (refusal.after_member c.in_ok-x.ensures.read c.in_err-more.ensures.err))

pub members-returns-then-not-branch-clause-read : goal.members-returns-then-not-branch-clause-read
members-returns-then-not-branch-clause-read t c =
    let mark = rw c.if-not-branch.true at c.in_ok-more.ensures.more in
    let items = ap (map member_view) c.in_ok-push.ensures.items ∙ map_push member_view c.row.members.items c.in_ok-x.x in
    subst (λ l. ReadsMemberRow c.args.left (to_come c.args.parser.now) l (to_come c.more.new.self)) (sym items) (c.row.invariant.reads (member_view c.in_ok-x.x ∷ []) _ (grammar.last_member c.in_ok-x.ensures.read mark))

pub members-row-smaller : goal.members-row-smaller
members-row-smaller t c =
    let mark = rw c.if-not-branch.false at c.in_ok-more.ensures.more in
    omega (arith, member_smaller c.in_ok-x.ensures.read, mark_le mark)

pub members-row-preserved : goal.members-row-preserved
members-row-preserved t c =
    let mark = rw c.if-not-branch.false at c.in_ok-more.ensures.more in
    let items = ap (map member_view) c.in_ok-push.ensures.items ∙ map_push member_view c.row.members.items c.in_ok-x.x in
    subst (λ l. Goes (ReadsMemberRow c.args.left) (refusal.RefusesMembers c.args.left) (to_come c.args.parser.now) (to_come c.more.new.self) l) (sym items)
    (goes_on (ReadsMemberRow c.args.left) (refusal.RefusesMembers c.args.left) _ _ _ _ _ (λ xs b r. grammar.more_members c.in_ok-x.ensures.read mark r) (λ f r. refusal.later_member c.in_ok-x.ensures.read mark r) c.row.invariant)

pub object-returns-then-not-is_at-clause-refused : goal.object-returns-then-not-is_at-clause-refused
object-returns-then-not-is_at-clause-refused t c = λ other. refusal.no_object (search rules) c.refusal.ensures

pub object-returns-then-left-eq0-clause-refused : goal.object-returns-then-left-eq0-clause-refused
object-returns-then-left-eq0-clause-refused t c =
    λ other. refusal.deep_object c.if-left-eq0.true (search rules) refl

pub object-returns-then-is_at-clause-read : goal.object-returns-then-is_at-clause-read
object-returns-then-is_at-clause-read t c =
    let mark : grammar.Mark ObjectOpen (to_come c.args.parser.now) (to_come c.pass.new.self) = record { here = search rules; rest = c.pass.ensures } in
    let end : grammar.Mark ObjectClose (to_come c.pass.new.self) (to_come c.pass-then-is_at.new.self) = record { here = search rules; rest = c.pass-then-is_at.ensures } in
    let view = view-Object c.new.result ∙ ap (λ l. members_of (map member_view l)) c.new.ensures.items in
    subst (λ m. grammar.ReadsObject c.args.left (to_come c.args.parser.now) m (to_come c.pass-then-is_at.new.self)) (sym view) (grammar.no_member (omega arith) mark end)

pub object-returns-in_err-members-clause-refused : goal.object-returns-in_err-members-clause-refused
object-returns-in_err-members-clause-refused t c =
    let mark : grammar.Mark ObjectOpen (to_come c.args.parser.now) (to_come c.pass.new.self) = record { here = search rules; rest = c.pass.ensures } in
    let less : c.args.left ≡ c.args.left - 1 + 1 = omega arith in
    let p = err_from_is_err_and c.from_residual.result c.from_residual.ensures.1 in
    rw (p.1, p.2) (λ other. refusal.in_object less mark (search rules) (c.in_err-members.ensures.refused other))

pub object-returns-clause-read : goal.object-returns-clause-read
object-returns-clause-read t c =
    let mark : grammar.Mark ObjectOpen (to_come c.args.parser.now) (to_come c.pass.new.self) = record { here = search rules; rest = c.pass.ensures } in
    let less : c.args.left ≡ c.args.left - 1 + 1 = omega arith in
    subst (λ m. grammar.ReadsObject c.args.left (to_come c.args.parser.now) m (to_come c.members.new.parser)) (sym (view-Object c.in_ok-members.members)) (grammar.some_members less mark c.in_ok-members.ensures.read)

pub objects-returns-in_err-x-clause-refused : goal.objects-returns-in_err-x-clause-refused
objects-returns-in_err-x-clause-refused t c =
    let p = err_from_is_err_and c.from_residual.result c.from_residual.ensures.1 in
    rw (p.1, p.2) (λ other. c.row.invariant.refuses _ (refusal.not_an_object (c.in_err-x.ensures.refused other)))

pub objects-returns-in_err-more-clause-refused : goal.objects-returns-in_err-more-clause-refused
objects-returns-in_err-more-clause-refused t c =
    let p = err_from_is_err_and c.from_residual-in_err-more.result c.from_residual-in_err-more.ensures.1 in
    rw (p.1, p.2) (λ other. c.row.invariant.refuses _ (refusal.after_object c.in_ok-x.ensures.read c.in_err-more.ensures.err))

pub objects-returns-then-not-branch-clause-read : goal.objects-returns-then-not-branch-clause-read
objects-returns-then-not-branch-clause-read t c =
    let mark = rw c.if-not-branch.true at c.in_ok-more.ensures.more in
    let items = ap (map object_view) c.in_ok-push.ensures.items ∙ map_push object_view c.row.objects.items c.in_ok-x.x in
    subst (λ l. ReadsObjectRow c.args.left c.args.close (to_come c.args.parser.now) l (to_come c.more.new.self)) (sym items) (c.row.invariant.reads (object_view c.in_ok-x.x ∷ []) _ (grammar.last_object c.in_ok-x.ensures.read mark))

pub objects-row-smaller : goal.objects-row-smaller
objects-row-smaller t c =
    let mark = rw c.if-not-branch.false at c.in_ok-more.ensures.more in
    omega (arith, object_smaller c.in_ok-x.ensures.read, mark_le mark)

pub objects-row-preserved : goal.objects-row-preserved
objects-row-preserved t c =
    let mark = rw c.if-not-branch.false at c.in_ok-more.ensures.more in
    let items = ap (map object_view) c.in_ok-push.ensures.items ∙ map_push object_view c.row.objects.items c.in_ok-x.x in
    subst (λ l. Goes (ReadsObjectRow c.args.left c.args.close) (refusal.RefusesObjects c.args.left c.args.close) (to_come c.args.parser.now) (to_come c.more.new.self) l) (sym items)
    (goes_on (ReadsObjectRow c.args.left c.args.close) (refusal.RefusesObjects c.args.left c.args.close) _ _ _ _ _ (λ xs b r. grammar.more_objects c.in_ok-x.ensures.read mark r) (λ f r. refusal.later_object c.in_ok-x.ensures.read mark r) c.row.invariant)
