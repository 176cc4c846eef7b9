use Rattle.std.proofs.Common.{ap, ◌∙◌, rules, codes}
use Rattle.arti_repos.specs.Definitions.{remote_of}
use Rattle.arti_repos.proofs.Caches.{cached, uncached, front_by, none_by}
use Rattle.arti_repos.proofs.definitions.cached_by.Goals as goal

pub returns-in-Some : goal.returns-in-Some
returns-in-Some c =
    c.only_remote.ensures ∙ ap remote_of (search rules)
    ∙ cached c.args.definitions.now c.in-Some.front.now c.args.key.now c.requires.order (front_by c.strip_suffix.result (codes "-cache") c.args.key.now c.in-Some.front c.strip_suffix.ensures.cases (search rules))

pub returns-in-None : goal.returns-in-None
returns-in-None c = uncached c.args.definitions.now c.args.key.now (none_by c.strip_suffix.result (codes "-cache") c.args.key.now c.strip_suffix.ensures.cases (search rules))
