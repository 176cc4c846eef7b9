use Rattle.std.proofs.Common.{◌≡◌, ◌≤◌, length}
use Rattle.std.specs.List.{list_all, fold, flat_map}
use Rattle.std.specs.BTreeSet.{insert_key}
use Rattle.arti_rows.specs.PropTexts.{property_cmp, pieces_of, pairs_in, is_good_piece}
use Rattle.arti_rows.proofs.props.add_pieces.Given as goal

abbrev pub invariant-pieces : goal.invariant-pieces
invariant-pieces l = record {
  good : list_all is_good_piece (pieces_of l.rest) ≡ list_all is_good_piece (pieces_of l.marks);
  more : fold (insert_key property_cmp) l.pairs.keys (flat_map pairs_in (pieces_of l.rest)) ≡ fold (insert_key property_cmp) l.initial.pairs.keys (flat_map pairs_in (pieces_of l.marks));
  few : length l.initial.pairs.keys ≤ 1024 → length l.pairs.keys ≤ 1024;
}

abbrev pub decreases-pieces : goal.decreases-pieces
decreases-pieces l = length l.rest
