use Rattle.std.proofs.Common.{◌≡◌, ◌∷◌, ◌++◌, drop, map}
use Rattle.std.specs.Prelude.{flat_map}
use Rattle.arti_definitions.specs.Written.{entry_text}
use Rattle.arti_definitions.proofs.writing.write_other_entries.Given as goal

abbrev pub invariant-loop-def : goal.invariant-loop-def
invariant-loop-def l =
    l.out.items ++ flat_map (λ t. 44 ∷ t) (map entry_text (drop l.def-index l.defs)) ≡ l.fn.out.items ++ flat_map (λ t. 44 ∷ t) (map entry_text l.defs)
