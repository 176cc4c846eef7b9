use Rattle.std.proofs.Common.{subst}
use Rattle.arti_store.specs.Store.{shows}
use Rattle.arti_model.specs.Stock.{Answer}
use Rattle.arti_service.specs.Acts.{ActsFor}
use Rattle.arti_service.proofs.Doing.{has_status, whole_in}
use Rattle.arti_service.proofs.Wholes.{kept_whole}
use Rattle.arti_service.proofs.carrying.perform.Goals as goal

pub prepare-requires : goal.prepare-requires
prepare-requires g c = has_status c.args.store.now c.args.staged c.args.decision c.requires.may

pub carry_out-requires-clause-may : goal.carry_out-requires-clause-may
carry_out-requires-clause-may g c = c.in_ok-act.ensures.may c.args.store.now c.args.staged c.requires.may

pub returns-clause-acts : goal.returns-clause-acts
returns-clause-acts g c = λ gt.
    let x = g.G.Ground.state c.args.ground.now in
    let v = c.args.store.now in
    let whole = whole_in (x.files 3) v (kept_whole x v (c.requires.holds gt c.requires.ready.still_open)) c.args.staged c.args.decision c.requires.may in
    subst (λ (a : Answer). ActsFor v.limits c.args.line a c.carry_out.result x (g.G.Ground.state c.carry_out.new.ground) v c.carry_out.new.store) (c.in_ok-act.ensures.done (x.files 3) v.limits (shows x v) whole) (c.carry_out.ensures.acts gt)
