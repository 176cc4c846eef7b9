use Rattle.std.proofs.Common.{◌≡◌, map, drop}
use Rattle.arti_query_model.specs.Outcome.{each}
use Rattle.arti_aql_domains.specs.Conditions.{cond_view}
use Rattle.arti_aql_domains.specs.Behind.{put_before}
use Rattle.arti_aql_domains.specs.Listed.{of_member, of_object}
use Rattle.arti_aql_domains.proofs.criteria.+criteria.Given as goal

abbrev pub invariant-type_members-loop-member : goal.invariant-type_members-loop-member
invariant-type_members-loop-member l =
    let typed = of_member (record { root = l.root; now = l.now }) in
    each typed l.members ≡ put_before (map cond_view l.parts.items) (each typed (drop l.member-index l.members))

abbrev pub invariant-type_objects-loop-object : goal.invariant-type_objects-loop-object
invariant-type_objects-loop-object l =
    let typed = of_object (record { root = l.root; now = l.now }) in
    each typed l.objects ≡ put_before (map cond_view l.parts.items) (each typed (drop l.object-index l.objects))
