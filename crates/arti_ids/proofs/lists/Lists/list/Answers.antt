use Rattle.std.proofs.Common.{ℕ, ◌<◌, List, [], ◌∷◌, sym, subst}
use Rattle.std.specs.Ordering.{nat_cmp}
use Rattle.std.specs.List.Sorted.{IsStrictlySortedBy}
use Rattle.std.proofs.lemmas.List.Elements.{All-nil}
use Rattle.arti_ids.specs.IdLaws.{sorted_ids}
use Rattle.arti_ids.proofs.lists.Lists.list.Goals as goal

pub returns-in_default-clause-ascending : goal.returns-in_default-clause-ascending
returns-in_default-clause-ascending g c = sorted_ids [] tt

pub returns-in-Some-Some-clause-ascending : goal.returns-in-Some-Some-clause-ascending
returns-in-Some-Some-clause-ascending g c =
    let id : ℕ = c.in-Some-Some.id in
    subst (λ (l : List ℕ). IsStrictlySortedBy nat_cmp l) (sym c.from_ref.ensures.value) (sorted_ids (id ∷ []) (All-nil (λ (x : ℕ). id < x), tt))
