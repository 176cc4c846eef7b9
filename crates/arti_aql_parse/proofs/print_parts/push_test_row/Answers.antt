use Rattle.std.proofs.Common.{string_bytes}
use Rattle.arti_aql_parse.specs.Print.{test_text}
use Rattle.arti_aql_parse.proofs.PrintRows.{row_step}
use Rattle.arti_aql_parse.proofs.print_parts.push_test_row.Goals as goal

pub loop-i-preserved : goal.loop-i-preserved
loop-i-preserved c =
    row_step test_text c.args.tests.now c.loop-i.i c.index-tests-i.result (string_bytes c.args.out.now) (string_bytes c.loop-i.out) (string_bytes c.push_comma.new.out) (string_bytes c.push_test.new.out)
    c.loop-i-test.true c.index-tests-i.is c.loop-i.invariant c.in_ok-push_comma.ensures c.in_ok-push_test.ensures
