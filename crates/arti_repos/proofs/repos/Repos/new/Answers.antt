use Rattle.std.proofs.Common.{[], sym, subst, arith}
use Rattle.arti_repos.specs.Definitions.{InOrder}
use Rattle.arti_repos.specs.Ranks.{IsAcyclic}
use Rattle.arti_repos.proofs.repos.Repos.new.Goals as goal

none_in_order : InOrder []
none_in_order i j d lt within = absurd (omega (arith, within))

none_acyclic : IsAcyclic []
none_acyclic = (λ k. 0, λ key k d lt. absurd (omega (arith, lt)))

pub invariant_of-result : goal.invariant_of-result
invariant_of-result c = record {
  order = subst InOrder (sym c.new.ensures.items) none_in_order;
  acyclic = subst IsAcyclic (sym c.new.ensures.items) none_acyclic;
}
