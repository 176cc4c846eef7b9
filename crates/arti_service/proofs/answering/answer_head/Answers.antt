use Rattle.std.proofs.Common.{[]}
use Rattle.std.specs.Prelude.{Contains}
use Rattle.std.proofs.lemmas.List.Elements.{All-nil}
use Rattle.arti_store.specs.Store.{shows}
use Rattle.arti_model.specs.Decide.{file_of_body}
use Rattle.arti_store.specs.ImageLaws.{supplies_kept}
use Rattle.arti_model.specs.Perform.{perform}
use Rattle.arti_service.specs.Asks.{asked_is}
use Rattle.arti_service.specs.Decisions.{decision_in, asked_over}
use Rattle.arti_service.proofs.Deploying.{acts_same}
use Rattle.arti_service.proofs.Wholes.{kept_whole}
use Rattle.arti_service.proofs.answering.answer_head.Goals as goal

pub perform-requires-clause-may : goal.perform-requires-clause-may
perform-requires-clause-may g c = (c.in_ok-decision.ensures [] (file_of_body [])).may

pub returns-clause-acts : goal.returns-clause-acts
returns-clause-acts g c = λ gt body sent.
    let x = g.G.Ground.state c.args.ground.now in
    let v = c.args.store.now in
    acts_same v.limits c.args.line (perform v.limits (shows x v) c.args.alone (decision_in (x.files 3) c.in_ok-decision.decision)) (perform v.limits (shows x v) c.args.alone (asked_over (x.files 3) v (asked_is c.args.asked) body sent c.args.moment)) c.perform.result x (g.G.Ground.state c.perform.new.ground) v c.perform.new.store
    ((c.in_ok-decision.ensures body sent).means (x.files 3) (kept_whole x v (c.requires.holds gt c.requires.ready.still_open)) v.limits (shows x v) c.args.alone)
    (c.perform.ensures.acts gt)

pub perform-requires-clause-supplies : goal.perform-requires-clause-supplies
perform-requires-clause-supplies g c =
    let kept = c.args.store.now.contents.kept in
    supplies_kept (g.G.Ground.state c.args.ground.now) c.args.store.now.contents [] c.requires.ready.unstaged (All-nil (Contains kept))
