use Rattle.std.proofs.Common.{◌≡◌, take, string_bytes}
use Rattle.arti_aql_parse.specs.Grammar.{joined}
use Rattle.arti_aql_parse.proofs.reading.domain.Given as goal

abbrev pub invariant-loop-i : goal.invariant-loop-i
invariant-loop-i l = string_bytes l.domain ≡ joined (take l.i l.names)
