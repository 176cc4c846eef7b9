use Rattle.std.proofs.Common.{◌≡◌, ◌≤◌, length, drop, None}
use Rattle.arti_wild.specs.Parts.{with_last_slash}
use Rattle.arti_wild.proofs.pattern.mark_last_slash.Given as goal

abbrev pub invariant-back : goal.invariant-back
invariant-back l = (with_last_slash (drop l.i l.parts) ≡ None) × (l.i ≤ length l.parts) × (l.parts ≡ l.initial.parts)

abbrev pub decreases-back : goal.decreases-back
decreases-back l = l.i
