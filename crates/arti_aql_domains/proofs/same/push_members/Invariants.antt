use Rattle.std.proofs.Common.{◌≡◌, List, drop}
use Rattle.arti_aql_parse.specs.Tree.{PlainMember}
use Rattle.arti_aql_parse.specs.View.{members_view}
use Rattle.arti_query_model.specs.Typing.{Begin, members_with}
use Rattle.arti_aql_domains.specs.Behind.{told}
use Rattle.arti_aql_domains.proofs.same.push_members.Given as goal

abbrev pub invariant-loop-member : goal.invariant-loop-member
invariant-loop-member l =
    let begin : Begin = record { root = l.root; now = l.now } in
    (rest : List PlainMember) → told begin l.initial.found (members_with (members_view l.members) rest)
    ≡ told begin l.found (members_with (members_view (drop l.member-index l.members)) rest)
