use Rattle.std.proofs.Common.{◌≡◌, ◌≢◌, length, take}
use Rattle.arti_ground.specs.Calls.{contents_of, events_of, shown}
use Rattle.arti_ground.specs.Record.{as_files, SameSizes, IsLastSynced}
use Rattle.arti_ground.proofs.crash.image_of.Given as goal

abbrev pub invariant-loop-call : goal.invariant-loop-call
invariant-loop-call l =
    let now = shown (contents_of l.start) l.bytes (take l.call-index l.calls) in
    record {
      len_files : length l.files.items ≡ 6;
      len_image : length l.image.items ≡ 6;
      sizes : l.choice ≢ 0 → SameSizes (as_files (contents_of l.files.items)) (as_files (contents_of l.image.items));
      lost : l.choice ≡ 0 → IsLastSynced (contents_of l.start) (events_of l.bytes (take l.call-index l.calls)) (as_files (contents_of l.image.items));
      whole : l.choice ≡ 1 → contents_of l.image.items ≡ contents_of l.files.items;
      files : as_files (contents_of l.files.items) ≡ now.files;
      image : now.may_leave (as_files (contents_of l.image.items));
    }
