use Rattle.std.proofs.Common.{◌≡◌, drop}
use Rattle.serde_json.specs.View.{items_view}
use Rattle.arti_definitions.specs.Keys.{behind, keys_from}
use Rattle.arti_definitions.proofs.keys.keys_from.Given as goal

abbrev pub invariant-loop-value : goal.invariant-loop-value
invariant-loop-value l = behind l.keys.items (keys_from l.name (items_view (drop l.value-index l.values))) ≡ keys_from l.name (items_view l.values)
