use Rattle.std.proofs.Common.{◌≡◌, ℕ, List, [], sym, subst, rules}
use Rattle.std.specs.Ordering.{nat_cmp}
use Rattle.std.specs.List.Sorted.{IsStrictlySortedBy}
use Rattle.arti_ids.specs.Ids.{IdList, Ascends}
use Rattle.arti_ids.specs.IdLaws.{sorted_ids}
use Rattle.arti_ids.proofs.ids.Ids.as_slice.Goals as goal

pub returns-in-Empty-clause-ascending : goal.returns-in-Empty-clause-ascending
returns-in-Empty-clause-ascending c = sorted_ids [] tt

pub returns-in-One-clause-ascending : goal.returns-in-One-clause-ascending
returns-in-One-clause-ascending c =
    let up : Ascends (λ x. x) c.args.self.now.ids = subst (λ (l : IdList). Ascends (λ x. x) l.ids) c.self.view_is c.self.invariant in
    let e : c.from_ref.result.now ≡ c.args.self.now.ids = search rules in
    subst (λ (l : List ℕ). IsStrictlySortedBy nat_cmp l) (sym e) (sorted_ids c.args.self.now.ids up)

pub returns-in-Many-clause-ascending : goal.returns-in-Many-clause-ascending
returns-in-Many-clause-ascending c =
    let up : Ascends (λ x. x) c.args.self.now.ids = subst (λ (l : IdList). Ascends (λ x. x) l.ids) c.self.view_is c.self.invariant in
    let e : c.as_slice.result.now ≡ c.args.self.now.ids = search rules in
    subst (λ (l : List ℕ). IsStrictlySortedBy nat_cmp l) (sym e) (sorted_ids c.args.self.now.ids up)
