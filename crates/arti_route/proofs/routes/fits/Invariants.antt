use Rattle.std.proofs.Common.{◌≡◌, length}
use Rattle.std.specs.Str.{IsUtf8}
use Rattle.std.specs.List.{slice_split}
use Rattle.arti_model.specs.Targets.{is_slash}
use Rattle.arti_model.specs.Asks.{fits}
use Rattle.arti_route.proofs.routes.fits.Given as goal

abbrev pub invariant-pieces : goal.invariant-pieces
invariant-pieces l = record {
  text : IsUtf8 l.path;
  same : fits (slice_split is_slash l.path) l.left ≡ fits (slice_split is_slash l.fn.path) l.segments;
}

abbrev pub decreases-pieces : goal.decreases-pieces
decreases-pieces l = length l.left
