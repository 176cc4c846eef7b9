use Rattle.std.proofs.Common.{◌≡◌, map, drop}
use Rattle.arti_query_model.specs.Outcome.{each}
use Rattle.arti_query_model.specs.Typing as typing
use Rattle.arti_aql_domains.specs.Paths.{what_view}
use Rattle.arti_aql_domains.specs.Conditions.{cond_view}
use Rattle.arti_aql_domains.specs.Behind.{put_before}
use Rattle.arti_aql_domains.proofs.leaves.leaves.Given as goal

abbrev pub invariant-loop-test : goal.invariant-loop-test
invariant-loop-test l =
    let typed = typing.leaf_of l.now l.path l.target.path.items (what_view l.target.what) in
    each typed l.tests ≡ put_before (map cond_view l.found.items) (each typed (drop l.test-index l.tests))
