use Rattle.std.proofs.Common.{◌≡◌, ℕ, List, false, take}
use Rattle.std.specs.Prelude.{if◌then◌else◌}
use Rattle.std.specs.List.{list_any}
use Rattle.arti_ids.specs.Ids.{with_id, without_id}
use Rattle.arti_ids.specs.Lists.{ids_of, IsReady}
use Rattle.arti_props.specs.Lists.{list_at}
use Rattle.arti_props.specs.Rows.{is_pair}
use Rattle.arti_props.proofs.values.remove_all.Given as goal

abbrev pub invariant-loop-pair : goal.invariant-loop-pair
invariant-loop-pair l = record {
  gone : (k v : List ℕ) → list_any (is_pair k v) l.stay ≡ false → ids_of (list_at l.values k v) ≡ (if list_any (is_pair k v) (take l.pair-index l.pairs) then without_id l.id (ids_of (list_at l.initial.values k v)) else ids_of (list_at l.initial.values k v));
  others : (k v : List ℕ) → with_id l.id (ids_of (list_at l.values k v)) ≡ with_id l.id (ids_of (list_at l.initial.values k v));
  ready : (k v : List ℕ) → IsReady l.id (list_at l.initial.values k v) → IsReady l.id (list_at l.values k v);
}
