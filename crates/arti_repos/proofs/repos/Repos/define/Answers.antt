use Rattle.std.proofs.Common.{◌≡◌, None, List, sym, subst}
use Rattle.arti_rows.specs.declared.rows.RepoDef.{RepoDef}
use Rattle.arti_repos.specs.Ranks.{IsAcyclic}
use Rattle.arti_repos.specs.Refused.{define_fault}
use Rattle.arti_repos.proofs.Growing.{stays_acyclic}
use Rattle.arti_repos.proofs.Faults.{no_cycle}
use Rattle.arti_repos.proofs.repos.Repos.define.Goals as goal

pub invariant_of-self-2 : goal.invariant_of-self-2
invariant_of-self-2 c =
    let defs = c.self.inside.definitions.items in
    let fine : define_fault defs c.args.def c.args.update c.args.limit ≡ None =
    subst (λ (l : List RepoDef). define_fault l c.args.def c.args.update c.args.limit ≡ None) c.deref.ensures.value c.in_ok-judge.ensures.ok in
    record {
      order = c.put.ensures.order;
      acyclic = subst IsAcyclic (sym c.in_ok-put.ensures.put) (stays_acyclic defs c.args.def c.self.invariant.acyclic.0 c.self.invariant.acyclic.1 (no_cycle defs c.args.def c.args.update c.args.limit fine));
    }
