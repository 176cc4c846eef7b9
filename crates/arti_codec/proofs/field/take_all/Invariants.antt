use Rattle.std.proofs.Common.{◌≡◌, ◌-◌}
use Rattle.arti_codec.specs.Reading.{times_at}
use Rattle.arti_codec.proofs.Loops.{with_front}
use Rattle.arti_codec.proofs.field.take_all.Given as goal

abbrev pub invariant-loop : goal.invariant-loop
invariant-loop g l = with_front l.items (times_at g.T.Field.read (l.count - l.counter) l.reader) ≡ times_at g.T.Field.read l.count l.fn.reader
