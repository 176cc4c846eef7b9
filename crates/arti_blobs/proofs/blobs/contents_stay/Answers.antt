use Rattle.arti_blobs.proofs.Fronts.{contents_stay}
use Rattle.arti_blobs.proofs.blobs.contents_stay.Goals as goal

pub returns : goal.returns
returns c = contents_stay
