use Rattle.std.proofs.Common.{◌≡◌, ◌<◌, ℕ, length}
use Rattle.std.specs.Prelude.{slice_index}
use Rattle.arti_wild.specs.Splits.{byte_place}
use Rattle.arti_wild.proofs.capturing.offsets.Given as goal

abbrev pub invariant-chars : goal.invariant-chars
invariant-chars l = record {
  at_is : l.at ≡ byte_place l.text l.c-index;
  size : length l.offsets.items ≡ l.c-index;
  each : (k : ℕ) → k < l.c-index → slice_index l.offsets.items k ≡ byte_place l.text k;
}
