use Rattle.std.proofs.Common.{rules, sym, ◌∙◌, ap}
use Rattle.arti_ground.specs.Sources.{AnswerMap}
use Rattle.arti_ground.specs.Remotes.{content_of}
use Rattle.arti_ground.proofs.Fetches.{next_answers}
use Rattle.arti_ground.proofs.list_upstream.asked.Goals as goal

pub returns-then-next-len : goal.returns-then-next-len
returns-then-next-len c =
    let found = ap content_of c.entry_of.ensures in
    let next = next_answers c.args.answers.now.items c.args.next c.index.result.now c.deref.result.now (search rules) (search rules) (search rules) in
    found ∙ sym (ap (λ (a : AnswerMap). a c.args.url.now c.args.path.now) next)
