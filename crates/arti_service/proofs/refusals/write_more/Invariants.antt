use Rattle.std.proofs.Common.{◌≡◌, ◌++◌, ℕ, List, take}
use Rattle.std.specs.Prelude.{string_bytes, codes, flat_map}
use Rattle.arti_service.proofs.refusals.write_more.Given as goal

abbrev pub invariant-loop-text : goal.invariant-loop-text
invariant-loop-text l = string_bytes l.out ≡ string_bytes l.fn.out ++ flat_map (λ (t : List ℕ). codes ", " ++ t) (take l.text-index l.texts)
