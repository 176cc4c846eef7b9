use Rattle.arti_model.proofs.OneReading.{begins_once}
use Rattle.arti_model.proofs.bytes_begin_with_one_thing.Goals as goal

pub returns : goal.returns
returns c = begins_once
