-- What is known of a row that goes.
use Rattle.std.proofs.Common.{◌≡◌, ℕ, List, Option, Some, None, option_map, ap, ◌∙◌, subst}
use Rattle.std.specs.Prelude.{IfSome, IsSome}
use Rattle.arti_tree.specs.declared.slot.Slot.{Slot}
use Rattle.arti_tree.specs.Rows.{Row, row_of}
use Rattle.arti_tree.specs.Slots.{at, live, row_with}
use Rattle.arti_tree.proofs.Lives.{row_of_live}

pub no_slot : (slots : List (Option Slot)) (id : ℕ) → at slots id ≡ None → IsSome (row_of (live 0 slots) id) → ⊥
no_slot slots id none some = let gone : IsSome {T = Row} None = subst (λ (o : Option Row). IsSome o) (row_of_live id slots ∙ ap (option_map (row_with id)) none) some in cc

pub if_some_at : (o : Option Row) (r : Row) (P : Row → Type 0) → o ≡ Some r → IfSome o P → P r
if_some_at o r P is h = subst (λ (x : Option Row). IfSome x P) is h

pub some_rows : (x y : Row) → Some x ≡ Some y → x ≡ y
some_rows x y e = cc
