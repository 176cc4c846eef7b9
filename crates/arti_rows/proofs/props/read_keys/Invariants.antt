use Rattle.std.proofs.Common.{◌≡◌, ◌==◌, length, []}
use Rattle.std.specs.Str.{IsUtf8}
use Rattle.std.specs.List.{list_all, fold, slice_split}
use Rattle.std.specs.BTreeSet.{insert_key}
use Rattle.std.specs.Ordering.{nat_cmp}
use Rattle.std.specs.Cmp.Lexicographic.{slice_cmp}
use Rattle.arti_rows.specs.PropTexts.{is_prop_key}
use Rattle.arti_rows.proofs.props.read_keys.Given as goal

abbrev pub invariant-keys : goal.invariant-keys
invariant-keys l = record {
  text : IsUtf8 l.rest;
  good : list_all is_prop_key (slice_split (λ b. b == 44) l.rest) ≡ list_all is_prop_key (slice_split (λ b. b == 44) l.text);
  more : fold (insert_key (slice_cmp nat_cmp)) l.keys.keys (slice_split (λ b. b == 44) l.rest) ≡ fold (insert_key (slice_cmp nat_cmp)) [] (slice_split (λ b. b == 44) l.text);
}

abbrev pub decreases-keys : goal.decreases-keys
decreases-keys l = length l.rest
