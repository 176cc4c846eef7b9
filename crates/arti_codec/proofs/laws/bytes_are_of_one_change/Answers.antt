use Rattle.arti_codec.proofs.EditLaws.{one_change}
use Rattle.arti_codec.proofs.laws.bytes_are_of_one_change.Goals as goal

pub returns : goal.returns
returns c = one_change
