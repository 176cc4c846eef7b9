use Rattle.std.proofs.Common.{◌≡◌, drop}
use Rattle.std.specs.Prelude.{not, filter}
use Rattle.std.specs.List.{fold}
use Rattle.std.specs.BTreeSet.{insert_key}
use Rattle.arti_rows.specs.PropTexts.{property_cmp}
use Rattle.arti_model.specs.Edits.{names_key}
use Rattle.arti_catalog.proofs.pairs.add_others.Given as goal

abbrev pub invariant-loop-pair : goal.invariant-loop-pair
invariant-loop-pair l =
    fold (insert_key property_cmp) l.pairs.keys (filter (λ pair. not (names_key l.named pair.key)) (drop l.pair-index l.props))
    ≡ fold (insert_key property_cmp) l.fn.pairs.keys (filter (λ pair. not (names_key l.named pair.key)) l.props)
