use Rattle.arti_blobs.proofs.Checked.{IsChecked}
use Rattle.arti_blobs.proofs.blobs.checked_index.Given as goal

abbrev pub invariant-files : goal.invariant-files
invariant-files l = IsChecked l.files l.file-index l.index l.end
