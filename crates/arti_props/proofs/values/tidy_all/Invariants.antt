use Rattle.std.proofs.Common.{◌≡◌, ℕ, List}
use Rattle.arti_ids.specs.Lists.{ids_of}
use Rattle.arti_props.specs.Lists.{list_at}
use Rattle.arti_props.proofs.values.tidy_all.Given as goal

abbrev pub invariant-loop-pair : goal.invariant-loop-pair
invariant-loop-pair l = (k v : List ℕ) → ids_of (list_at l.values k v) ≡ ids_of (list_at l.initial.values k v)
