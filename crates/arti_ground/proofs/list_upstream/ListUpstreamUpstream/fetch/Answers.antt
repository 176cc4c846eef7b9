use Rattle.std.proofs.Common.{rules, ◌≡◌, drop}
use Rattle.arti_ground.specs.Remotes.{lists_of}
use Rattle.arti_ground.proofs.Fetches.{next_taken}
use Rattle.arti_ground.proofs.list_upstream.ListUpstreamUpstream.fetch.Goals.{in-Err-Failed, in-Ok}
use Rattle.arti_ground.proofs.list_upstream.ListUpstreamUpstream.fetch.Goals as goal

pub returns-then-self-len-clause-taken : goal.returns-then-self-len-clause-taken
returns-then-self-len-clause-taken c = λ tells here.
    let same : drop c.match-outcome.self-inside.next (lists_of c.match-outcome.self-inside.answers.items) ≡ c.args.self.now.answers =
    elim c.match-outcome.branch [ in-Err-Failed w ↦ search rules | in-Ok w ↦ search rules ] in
    next_taken c.match-outcome.self-inside.answers.items c.match-outcome.self-inside.next c.args.self.now.answers same
