use Rattle.std.proofs.Common.{◌≡◌, ◌++◌, take, map, string_bytes}
use Rattle.arti_aql_parse.specs.Print.{row, test_text}
use Rattle.arti_aql_parse.proofs.print_parts.push_test_row.Given as goal

abbrev pub invariant-loop-i : goal.invariant-loop-i
invariant-loop-i l = string_bytes l.out ≡ string_bytes l.initial.out ++ row (map test_text (take l.i l.tests))
