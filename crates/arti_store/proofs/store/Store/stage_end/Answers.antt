use Rattle.std.proofs.Common.{◌≡◌, false, List, sym, ap, subst}
use Rattle.std.specs.Prelude.{◌↔◌}
use Rattle.std.proofs.lemmas.Result.{IfOk-weaker}
use Rattle.arti_rows.specs.declared.rows.FileRef.{FileRef}
use Rattle.arti_ground.specs.State.{State}
use Rattle.arti_blobs.specs.Digests.{digests_of}
use Rattle.arti_blobs.specs.Contents.{HasPair, HoldsStaged}
use Rattle.arti_store.specs.Store.{View}
use Rattle.arti_store.proofs.Holdings.{pairs_are}
use Rattle.arti_store.proofs.store.Store.stage_end.Goals as goal

pub returns-clause-fresh : goal.returns-clause-fresh
returns-clause-fresh g c = λ tells bytes staged.
    let v : View = c.args.self.now in
    let old : State = g.G.Ground.state c.args.ground.now in
    let kept : c.self.inside.blobs.kept ≡ v.contents.kept = ap (λ (w : View). w.contents.kept) c.self.view_is in
    IfOk-weaker c.stage_end.result _ _
    (λ s is. pairs_are (old.files 3) bytes (digests_of bytes) v.contents.kept s.fresh (subst (λ (l : List FileRef). s.fresh ≡ false ↔ HasPair (old.files 3) l bytes (digests_of bytes)) kept is))
    (c.stage_end.ensures.fresh tells bytes (subst (λ (w : View). HoldsStaged old w.contents bytes) (sym c.self.view_is) staged))
