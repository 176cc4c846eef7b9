use Rattle.std.proofs.Common.{◌-◌, length}
use Rattle.arti_aql_lex.proofs.Values.{Copied}
use Rattle.arti_aql_lex.proofs.value.append_literal.Given as goal

abbrev pub invariant-pieces : goal.invariant-pieces
invariant-pieces l = Copied l.text l.start l.at l.initial.out.items l.out.items

abbrev pub decreases-pieces : goal.decreases-pieces
decreases-pieces l = length l.text - l.at
