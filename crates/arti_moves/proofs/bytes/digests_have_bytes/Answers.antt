use Rattle.std.proofs.Common.{arith}
use Rattle.arti_codec.specs.ChangeBytes.{digests}
use Rattle.arti_moves.proofs.bytes.digests_have_bytes.Goals as goal

pub returns : goal.returns
unfolding digests
returns c = ((omega arith, c.are_bytes.ensures), ((omega arith, c.are_bytes-2.ensures), (omega arith, c.are_bytes-3.ensures)))
