use Rattle.std.proofs.Common.{◌≡◌, None, drop}
use Rattle.arti_aql_parse.specs.View.{objects_view}
use Rattle.arti_query_model.specs.Typing.{Begin, members_in, same_tests}
use Rattle.arti_aql_domains.specs.Behind.{told}
use Rattle.arti_aql_domains.proofs.same.type_same.Given as goal

abbrev pub invariant-loop-object : goal.invariant-loop-object
invariant-loop-object l =
    let begin : Begin = record { root = l.root; now = l.now } in
    same_tests begin None (members_in (objects_view l.objects)) ≡ told begin l.found (members_in (objects_view (drop l.object-index l.objects)))
