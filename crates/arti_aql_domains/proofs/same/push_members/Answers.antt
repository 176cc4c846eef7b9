use Rattle.std.proofs.lemmas.Result.{err_from_is_err_and}
use Rattle.arti_aql_domains.proofs.Pushed.{member_pushed, member_refused}
use Rattle.arti_aql_domains.proofs.same.push_members.Goals as goal

pub returns-in_err-next-clause-refused : goal.returns-in_err-next-clause-refused
returns-in_err-next-clause-refused c =
    let p = err_from_is_err_and c.from_residual.result c.from_residual.ensures.1 in
    rw (p.1, p.2) (λ other. member_refused _ c.args.members.now c.loop-member.member-index c.member-item.result c.args.found.now c.loop-member.found _
    c.loop-member-test.true c.member-item.is (c.in_err-next.ensures.refused other) c.loop-member.invariant)

pub loop-member-preserved : goal.loop-member-preserved
loop-member-preserved c =
    member_pushed _ c.args.members.now c.loop-member.member-index c.member-item.result c.args.found.now c.loop-member.found c.in_ok-next.next c.append.new.self
    c.loop-member-test.true c.member-item.is c.in_ok-next.ensures.typed c.in_ok-append.ensures.items c.loop-member.invariant
