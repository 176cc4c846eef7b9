use Rattle.arti_model.proofs.OneReading.{reads_once}
use Rattle.arti_model.proofs.bytes_are_read_in_one_way.Goals as goal

pub returns : goal.returns
returns c = reads_once
