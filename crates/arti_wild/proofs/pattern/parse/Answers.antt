use Rattle.std.specs.Str.{chars}
use Rattle.std.specs.Prelude.{false}
use Rattle.arti_wild.specs.Parts.{parts_of}
use Rattle.arti_wild.proofs.PartLemmas.{whole_open, whole_read}
use Rattle.arti_wild.proofs.pattern.parse.Goals as goal

pub returns-then-inside-clause-bad : goal.returns-then-inside-clause-bad
returns-then-inside-clause-bad c = λ bad. whole_open (parts_of false (chars c.args.text.now)) c.parts.parts.items c.parts.inside (chars c.parts.text.now) c.parts.invariant.0 c.in-None.ensures c.if-inside.true

pub returns-in-None-clause-ok : goal.returns-in-None-clause-ok
returns-in-None-clause-ok c = whole_read (parts_of false (chars c.args.text.now)) c.parts.parts.items c.parts.inside (chars c.parts.text.now) c.parts.invariant.0 c.in-None.ensures c.if-inside.false
