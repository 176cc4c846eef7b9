use Rattle.std.proofs.Common.{◌≡◌, ◌+◌, ◌-◌, ◌≤◌, ◌<◌, length, get_or, ◌⊎◌}
use Rattle.arti_tree.proofs.ids.run_of.Given as goal

abbrev pub invariant-run : goal.invariant-run
invariant-run l = record {
  range : l.low ≤ l.high;
  within : l.high < length l.ids;
  run : get_or l.ids (length l.ids - 1) 0 + l.high ≤ get_or l.ids l.high 0 + (length l.ids - 1);
  before : (l.low ≡ 0) ⊎ (get_or l.ids (l.low - 1) 0 + (length l.ids - 1) < get_or l.ids (length l.ids - 1) 0 + (l.low - 1));
}

abbrev pub decreases-run : goal.decreases-run
decreases-run l = l.high - l.low
