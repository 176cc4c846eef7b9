use Rattle.std.proofs.Common.{◌≡◌, take}
use Rattle.std.specs.Prelude.{map}
use Rattle.arti_rows.specs.Key.{key_of, fronts}
use Rattle.arti_rows.proofs.key.folders_of.Given as goal

abbrev pub invariant-loop-i : goal.invariant-loop-i
invariant-loop-i l = l.folders.items ≡ map (λ front. key_of l.repo front) (fronts (take l.i l.whole))
