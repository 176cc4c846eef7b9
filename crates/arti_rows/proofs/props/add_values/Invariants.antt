use Rattle.std.proofs.Common.{◌≡◌, length}
use Rattle.std.specs.List.{list_all, fold}
use Rattle.std.specs.BTreeSet.{insert_key}
use Rattle.arti_rows.specs.PropTexts.{property_cmp, is_prop_value, values_at, pairs_at}
use Rattle.arti_rows.proofs.props.add_values.Given as goal

abbrev pub invariant-values : goal.invariant-values
invariant-values l = record {
  good : list_all is_prop_value (values_at l.rest) ≡ list_all is_prop_value (values_at l.values);
  more : fold (insert_key property_cmp) l.pairs.keys (pairs_at l.key l.rest) ≡ fold (insert_key property_cmp) l.initial.pairs.keys (pairs_at l.key l.values);
}

abbrev pub decreases-values : goal.decreases-values
decreases-values l = length l.rest
