use Rattle.std.proofs.Common.{ℕ, List, sym, subst}
use Rattle.arti_tree.specs.Ids.{AscendFrom}
use Rattle.arti_tree.specs.Children.{list_at}
use Rattle.arti_tree.specs.Repos.{list_of}
use Rattle.arti_tree.proofs.Adding.{repo_ascends}
use Rattle.arti_tree.proofs.tree.Tree.in_repo.Goals as goal

pub returns-clause-ascend : goal.returns-clause-ascend
returns-clause-ascend c =
    let t = c.self.inside in
    subst (λ (l : List ℕ). AscendFrom 0 l) (sym c.ids_of.ensures) (repo_ascends t.slots.items t.all.items t.order.items (list_at t.children) (list_of t.repos) c.self.invariant c.args.repo.now)
