use Rattle.std.proofs.Common.{◌≡◌, ◌⊎◌, inl, inr, [], refl, sym, subst}
use Rattle.arti_model.specs.Decide as model
use Rattle.arti_model.specs.Perform.{perform}
use Rattle.arti_model.specs.Run.{memory_reply}
use Rattle.arti_model.specs.Stock.{Stock}
use Rattle.arti_store.specs.ImageLaws.{supplies_kept}
use Rattle.std.specs.Prelude.{Contains}
use Rattle.std.proofs.lemmas.List.Elements.{All-nil}
use Rattle.arti_store.specs.Store.{holding_of, shows}
use Rattle.arti_service.specs.Acts.{Acts, done_by}
use Rattle.arti_service.specs.Decisions.{decided_in}
use Rattle.arti_service.proofs.Acting.{acts_more, telling_acts}
use Rattle.arti_service.proofs.Deploying.{acts_same}
use Rattle.arti_service.proofs.Doing.{query_stays}
use Rattle.arti_service.proofs.Wholes.{kept_whole}
use Rattle.arti_service.proofs.answering.answer_query.Goals as goal

pub carry_out-requires-clause-supplies : goal.carry_out-requires-clause-supplies
carry_out-requires-clause-supplies g c =
    let kept = c.args.store.now.contents.kept in
    supplies_kept (g.G.Ground.state c.args.ground.now) c.args.store.now.contents [] c.requires.ready.unstaged (All-nil (Contains kept))

pub returns-in-Ok-clause-acts : goal.returns-in-Ok-clause-acts
returns-in-Ok-clause-acts g c = λ gt sent moment.
    let x = g.G.Ground.state c.args.ground.now in
    let end = g.G.Ground.state c.carry_out.new.ground in
    let v = c.args.store.now in
    let answer = perform v.limits (shows x v) c.args.alone (decided_in (x.files 3) v model.Query c.args.body.now sent moment) in
    acts_more v.limits c.args.line (λ r. r ≡ answer.reply) (λ r. (r ≡ answer.reply) ⊎ (r ≡ memory_reply)) answer.stock answer.stock c.carry_out.result x end v c.carry_out.new.store (λ r is. inl is) refl
    (acts_same v.limits c.args.line (done_by (x.files 3) v.limits (shows x v) c.in-Ok.act) answer c.carry_out.result x end v c.carry_out.new.store
    (c.in-Ok.ensures.done (x.files 3) v.limits (shows x v) sent moment (kept_whole x v (c.requires.holds gt c.requires.ready.still_open))) (c.carry_out.ensures.acts gt))

pub returns-in-Err-clause-acts : goal.returns-in-Err-clause-acts
returns-in-Err-clause-acts g c = λ gt sent moment.
    let x = g.G.Ground.state c.args.ground.now in
    let end = g.G.Ground.state c.tell_memory.new.ground in
    let v = c.args.store.now in
    let answer = perform v.limits (shows x v) c.args.alone (decided_in (x.files 3) v model.Query c.args.body.now sent moment) in
    subst (λ (s : Stock). Acts v.limits c.args.line (λ r. (r ≡ answer.reply) ⊎ (r ≡ memory_reply)) s c.tell_memory.result x end v v)
    (sym (query_stays v.limits (shows x v) c.args.alone (holding_of (x.files 3) v).repository c.args.body.now))
    (telling_acts v.limits c.args.line (λ r. (r ≡ answer.reply) ⊎ (r ≡ memory_reply)) memory_reply c.tell_memory.result x end v c.requires.ready (c.requires.holds gt) (inr refl)
    (c.tell_memory.ensures.leaves gt) (c.tell_memory.ensures.told gt) (c.tell_memory.ensures.stops gt) (c.tell_memory.ensures.time gt))
