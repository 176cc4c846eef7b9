use Rattle.std.proofs.Common.{subst}
use Rattle.arti_repos.specs.Ranks.{IsAcyclic}
use Rattle.arti_repos.proofs.Expanding.{expand_is}
use Rattle.arti_repos.proofs.Ways.{way_is}
use Rattle.arti_repos.proofs.repos.Repos.rules.Goals as goal

pub returns-clause-expands : goal.returns-clause-expands
returns-clause-expands c = λ key.
    let acyclic : IsAcyclic c.args.self.now = subst IsAcyclic c.self.view_is c.self.invariant.acyclic in
    expand_is c.args.self.now acyclic.0 acyclic.1 key

pub returns-clause-leads : goal.returns-clause-leads
returns-clause-leads c = λ target key.
    let acyclic : IsAcyclic c.args.self.now = subst IsAcyclic c.self.view_is c.self.invariant.acyclic in
    way_is c.args.self.now acyclic.0 target acyclic.1 key
