use Rattle.std.proofs.Common.{◌≡◌, ◌++◌, take, map, string_bytes}
use Rattle.json.specs.Print.{quoted}
use Rattle.arti_aql_parse.specs.Print.{row}
use Rattle.arti_aql_parse.proofs.print_parts.push_texts.Given as goal

abbrev pub invariant-loop-i : goal.invariant-loop-i
invariant-loop-i l = string_bytes l.out ≡ string_bytes l.initial.out ++ row (map quoted (take l.i l.texts))
