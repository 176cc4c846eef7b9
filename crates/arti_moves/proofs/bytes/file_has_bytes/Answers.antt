use Rattle.std.proofs.Common.{arith}
use Rattle.arti_codec.specs.ChangeBytes.{file_ref}
use Rattle.arti_codec.specs.Format.{number}
use Rattle.arti_moves.proofs.bytes.file_has_bytes.Goals as goal

pub returns : goal.returns
unfolding file_ref number
returns c = λ short. (omega arith, ((omega arith, short), c.digests_have_bytes.ensures))
