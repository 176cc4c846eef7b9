use Rattle.std.proofs.Common.{◌≡◌, ℕ, List, true, take}
use Rattle.std.specs.Prelude.{if◌then◌else◌}
use Rattle.std.specs.List.{list_any}
use Rattle.arti_ids.specs.Ids.{with_id}
use Rattle.arti_ids.specs.Lists.{ids_of, IsReady}
use Rattle.arti_props.specs.Lists.{list_at}
use Rattle.arti_props.specs.Rows.{is_pair}
use Rattle.arti_props.proofs.values.add_all.Given as goal

abbrev pub invariant-loop-pair : goal.invariant-loop-pair
invariant-loop-pair l = record {
  ids : (k v : List ℕ) → ids_of (list_at l.values k v) ≡ (if list_any (is_pair k v) (take l.pair-index l.pairs) then with_id l.id (ids_of (list_at l.initial.values k v)) else ids_of (list_at l.initial.values k v));
  ready : (k v : List ℕ) → list_any (is_pair k v) l.pairs ≡ true → IsReady l.id (list_at l.values k v);
}
