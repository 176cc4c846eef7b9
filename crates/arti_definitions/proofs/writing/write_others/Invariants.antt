use Rattle.std.proofs.Common.{◌≡◌, ◌∷◌, ◌++◌, drop, map}
use Rattle.std.specs.Prelude.{flat_map}
use Rattle.json.specs.Print.{quoted}
use Rattle.arti_definitions.proofs.writing.write_others.Given as goal

abbrev pub invariant-loop-text : goal.invariant-loop-text
invariant-loop-text l =
    l.out.items ++ flat_map (λ t. 44 ∷ t) (map quoted (drop l.text-index l.texts)) ≡ l.fn.out.items ++ flat_map (λ t. 44 ∷ t) (map quoted l.texts)
