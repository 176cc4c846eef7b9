use Rattle.std.proofs.Common.{◌≡◌, ℕ, List, true, take}
use Rattle.std.specs.List.{list_any}
use Rattle.arti_ids.specs.Lists.{ids_of, IsReady}
use Rattle.arti_props.specs.Lists.{list_at}
use Rattle.arti_props.specs.Rows.{is_pair}
use Rattle.arti_props.proofs.values.make_rooms.Given as goal

abbrev pub invariant-loop-pair : goal.invariant-loop-pair
invariant-loop-pair l = record {
  ids : (k v : List ℕ) → ids_of (list_at l.values k v) ≡ ids_of (list_at l.initial.values k v);
  ready : (k v : List ℕ) → list_any (is_pair k v) (take l.pair-index l.pairs) ≡ true → IsReady l.id (list_at l.values k v);
}
