use Rattle.std.proofs.Common.{sym}
use Rattle.std.specs.Str.{chars}
use Rattle.arti_wild.proofs.PartLemmas.{escape, no_part, some_part}
use Rattle.arti_wild.proofs.pattern.next_part.Goals as goal

pub returns-in-Some-clause-part : goal.returns-in-Some-clause-part
returns-in-Some-clause-part c = escape c.args.inside c.args.c c.in-Some.d (chars c.args.rest.now) (chars c.in-Some.more.now) c.in-Some.ensures.0 c.in-Some.ensures.1

pub returns-in-None-part-clause-part : goal.returns-in-None-part-clause-part
returns-in-None-part-clause-part c = no_part c.args.inside c.args.c (chars c.args.rest.now) c.in-None.ensures (sym c.in-None-part.ensures)

pub returns-in-Some-part-clause-part : goal.returns-in-Some-part-clause-part
returns-in-Some-part-clause-part c = some_part c.args.inside c.in-Some-part.within c.args.c c.in-Some-part.part (chars c.args.rest.now) c.in-None.ensures (sym c.in-Some-part.ensures)
