use Rattle.std.proofs.Common.{◌≡◌, drop}
use Rattle.arti_query_model.specs.Outcome.{each}
use Rattle.arti_query_model.specs.Typing as typing
use Rattle.arti_aql_domains.specs.Behind.{put_before}
use Rattle.arti_aql_domains.proofs.same.same_tests.Given as goal

abbrev pub invariant-loop-test : goal.invariant-loop-test
invariant-loop-test l =
    let typed = typing.same_test l.now l.path l.key in
    each typed l.tests ≡ put_before l.found.items (each typed (drop l.test-index l.tests))
