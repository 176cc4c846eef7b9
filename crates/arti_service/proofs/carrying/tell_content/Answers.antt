use Rattle.std.proofs.Common.{◌≡◌, ℕ, refl, sym, ap, ◌∙◌, subst, rules}
use Rattle.std.specs.Prelude.{Some, None, Err, Result, IsErrOf}
use Rattle.arti_ground.specs.State.{Bytes}
use Rattle.arti_blobs.specs.Contents.{content}
use Rattle.arti_service.proofs.Blocks.{block_told, block_time, block_stops, piece_is, leaves_three}
use Rattle.arti_store.specs.Store.{View}
use Rattle.arti_store.specs.declared.fault.ContentFault.{ContentFault}
use Rattle.arti_service.specs.declared.answering.Stop.{Stop}
use Rattle.arti_service.proofs.Acting.{stays}
use Rattle.arti_service.proofs.carrying.tell_content.Goals as goal

pub unreachable-requires : goal.unreachable-requires
unreachable-requires g c =
    let still : c.blocks-2.store.closed ≡ None = ap (λ (v : View). v.closed) c.blocks-2.invariant.store ∙ c.requires.still_open in
    let is : c.blocks-2.store.closed ≡ Some c.in-Err-Closed.field-0-0 =
    (c.content.ensures.closed c.in-Err-Closed.field-0-0).0 (subst (λ (e : ContentFault). IsErrOf c.content.result e) c.in-Err-Closed.field-0-is (subst (λ (r : Result ℕ ContentFault). IsErrOf r c.in-Err-Closed.field-0) (sym c.in-Err-Closed.is) refl)) in
    absurd (cc (sym still ∙ is))

pub returns-in-Err-clause-stops : goal.returns-in-Err-clause-stops
returns-in-Err-clause-stops g c = λ gt.
    let inv = c.blocks-2.invariant in
    let other : content ((g.G.Ground.state c.blocks-2.ground).files 3) c.args.file.now ≡ content ((g.G.Ground.state c.args.ground.now).files 3) c.args.file.now = ap (λ (f : Bytes). content (f 3) c.args.file.now) (inv.disk gt).files in
    block_stops _ _ _ (g.G.Ground.state c.tell.new.ground) c.args.line _ c.blocks-2.at c.in-Ok.n _ (inv.told gt) (inv.disk gt) (c.content.ensures.reads gt)
    (piece_is _ _ c.blocks-2.at c.in-Ok.n c.min-room.result _ c.content.new.buf c.blocks-2.buf other (c.in-Ok.ensures.bytes gt) (search rules))
    c.in-Err.stop (λ e. c.tell.ensures.no_memory (c.in-Err.is ∙ ap (λ (x : Stop). Err x) e)) (c.in-Err.ensures.stops gt)

pub returns-in-Err-clause-time : goal.returns-in-Err-clause-time
returns-in-Err-clause-time g c = λ gt.
    let inv = c.blocks-2.invariant in
    let other : content ((g.G.Ground.state c.blocks-2.ground).files 3) c.args.file.now ≡ content ((g.G.Ground.state c.args.ground.now).files 3) c.args.file.now = ap (λ (f : Bytes). content (f 3) c.args.file.now) (inv.disk gt).files in
    block_time _ _ _ _ c.args.line _ c.blocks-2.at c.in-Ok.n _ (inv.told gt) (inv.disk gt) (c.content.ensures.reads gt)
    (piece_is _ _ c.blocks-2.at c.in-Ok.n c.min-room.result _ c.content.new.buf c.blocks-2.buf other (c.in-Ok.ensures.bytes gt) (search rules))
    (inv.time gt) (c.tell.ensures.time gt)

pub blocks-2-preserved : goal.blocks-2-preserved
blocks-2-preserved g c =
    let inv = c.blocks-2.invariant in
    record {
      room = search rules;
      within = search rules;
      store = c.content.ensures.unchanged ∙ inv.store;
      holds = λ gt. stays _ _ _ (c.tell.ensures.leaves gt) (c.content.ensures.holds gt);
      told = λ gt.
          let other : content ((g.G.Ground.state c.blocks-2.ground).files 3) c.args.file.now ≡ content ((g.G.Ground.state c.args.ground.now).files 3) c.args.file.now = ap (λ (f : Bytes). content (f 3) c.args.file.now) (inv.disk gt).files in
          block_told _ _ _ (g.G.Ground.state c.tell.new.ground) c.args.line _ c.blocks-2.at c.in-Ok.n _ (inv.told gt) (inv.disk gt) (c.content.ensures.reads gt)
          (piece_is _ _ c.blocks-2.at c.in-Ok.n c.min-room.result _ c.content.new.buf c.blocks-2.buf other (c.in-Ok.ensures.bytes gt) (search rules)) (c.in-Ok-tell.ensures.told gt);
      disk = λ gt. leaves_three _ _ _ _ (inv.disk gt) (c.content.ensures.reads gt) (c.tell.ensures.leaves gt);
      time = λ gt.
          let other : content ((g.G.Ground.state c.blocks-2.ground).files 3) c.args.file.now ≡ content ((g.G.Ground.state c.args.ground.now).files 3) c.args.file.now = ap (λ (f : Bytes). content (f 3) c.args.file.now) (inv.disk gt).files in
          block_time _ _ _ _ c.args.line _ c.blocks-2.at c.in-Ok.n _ (inv.told gt) (inv.disk gt) (c.content.ensures.reads gt)
          (piece_is _ _ c.blocks-2.at c.in-Ok.n c.min-room.result _ c.content.new.buf c.blocks-2.buf other (c.in-Ok.ensures.bytes gt) (search rules))
          (inv.time gt) (c.tell.ensures.time gt);
      tell_faults = search rules;
      disk_faults = search rules;
    }
