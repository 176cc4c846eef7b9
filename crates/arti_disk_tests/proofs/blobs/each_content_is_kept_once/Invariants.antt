use Rattle.arti_ground.specs.Record.{state_of}
use Rattle.arti_blobs.specs.Contents.{HoldsContents}
use Rattle.arti_disk_tests.proofs.blobs.each_content_is_kept_once.Given as goal

abbrev pub invariant-loop-content : goal.invariant-loop-content
invariant-loop-content g l = HoldsContents (state_of l.ground) l.blobs
