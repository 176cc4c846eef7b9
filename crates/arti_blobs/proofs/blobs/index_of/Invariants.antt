use Rattle.arti_blobs.proofs.Kept.{IsIndexed}
use Rattle.arti_blobs.proofs.blobs.index_of.Given as goal

abbrev pub invariant-files : goal.invariant-files
invariant-files l = IsIndexed l.kept l.file-index l.index l.end
