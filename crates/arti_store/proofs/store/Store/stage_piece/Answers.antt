use Rattle.std.proofs.Common.{◌≡◌, ℕ, List, sym, ◌∙◌, ap, subst, arith}
use Rattle.std.specs.Prelude.{All}
use Rattle.arti_rows.specs.declared.rows.FileRef.{FileRef}
use Rattle.arti_ground.specs.State.{State, Passes, Follows}
use Rattle.arti_blobs.specs.Contents.{end_of, KeepsFront, Behind}
use Rattle.arti_store.specs.Items.{HasFileIn}
use Rattle.arti_model.specs.Apply.{Holding}
use Rattle.arti_store.specs.Store.{View, shows, HoldsOpen}
use Rattle.arti_store.proofs.Images.{holding_stays, store_stays, standing}
use Rattle.arti_store.proofs.store.Store.stage_piece.Goals as goal

pub returns-clause-shows : goal.returns-clause-shows
returns-clause-shows g c = λ tells.
    let v : View = c.args.self.now in
    let old : State = g.G.Ground.state c.args.ground.now in
    let new : State = g.G.Ground.state c.stage_piece.new.outside in
    let staging = c.stage_piece.new.self.staging in
    let was : c.self.inside.blobs.kept ≡ v.contents.kept = ap (λ (w : View). w.contents.kept) c.self.view_is in
    let kept : c.stage_piece.new.self.kept ≡ v.contents.kept = c.stage_piece.ensures.kept ∙ was in
    let has : All (HasFileIn v.contents.kept) v.rows = subst (λ (w : View). All (HasFileIn w.contents.kept) w.rows) c.self.view_is c.self.invariant.files in
    let front : KeepsFront (end_of v.contents.kept) old.files new.files = subst (λ (n : ℕ). KeepsFront n old.files new.files) (ap end_of was) (c.stage_piece.ensures.files tells) in
    let rest = ap (λ (w : View). record w { contents = c.stage_piece.new.self }) c.self.view_is ∙ ap (λ (l : List FileRef). record v { contents = record { kept = l; staging = staging } }) kept in
    subst (λ (w : View). shows new w ≡ shows old v) (sym rest) (ap (λ (h : Holding). record { holding = h; used = v.used }) (holding_stays old new v staging has (c.requires.holds tells c.requires.still_open) front))

pub returns-clause-holds : goal.returns-clause-holds
returns-clause-holds g c = λ tells still_open.
    let v : View = c.args.self.now in
    let old : State = g.G.Ground.state c.args.ground.now in
    let new : State = g.G.Ground.state c.stage_piece.new.outside in
    let staging = c.stage_piece.new.self.staging in
    let was : c.self.inside.blobs.kept ≡ v.contents.kept = ap (λ (w : View). w.contents.kept) c.self.view_is in
    let kept : c.stage_piece.new.self.kept ≡ v.contents.kept = c.stage_piece.ensures.kept ∙ was in
    let has : All (HasFileIn v.contents.kept) v.rows = subst (λ (w : View). All (HasFileIn w.contents.kept) w.rows) c.self.view_is c.self.invariant.files in
    let front : KeepsFront (end_of v.contents.kept) old.files new.files = subst (λ (n : ℕ). KeepsFront n old.files new.files) (ap end_of was) (c.stage_piece.ensures.files tells) in
    let images : Follows (KeepsFront (end_of v.contents.kept)) old new = subst (λ (n : ℕ). Follows (KeepsFront n) old new) (ap end_of was) (c.stage_piece.ensures.images tells) in
    let rest = ap (λ (w : View). record w { contents = c.stage_piece.new.self }) c.self.view_is ∙ ap (λ (l : List FileRef). record v { contents = record { kept = l; staging = staging } }) kept in
    subst (λ (w : View). HoldsOpen new w) (sym rest)
    (store_stays old new v staging has (c.requires.holds tells c.requires.still_open) front images (omega (arith, ap end_of kept, c.stage_piece.ensures.holds tells)))

pub returns-clause-moments : goal.returns-clause-moments
returns-clause-moments g c = λ tells.
    let v : View = c.args.self.now in
    let old : State = g.G.Ground.state c.args.ground.now in
    let new : State = g.G.Ground.state c.stage_piece.new.outside in
    let was : c.self.inside.blobs.kept ≡ v.contents.kept = ap (λ (w : View). w.contents.kept) c.self.view_is in
    let has : All (HasFileIn v.contents.kept) v.rows = subst (λ (w : View). All (HasFileIn w.contents.kept) w.rows) c.self.view_is c.self.invariant.files in
    standing old new v c.stage_piece.new.self.staging has (c.requires.holds tells c.requires.still_open)
    (subst (λ (n : ℕ). Passes old new (Behind old n)) (ap end_of was) (c.stage_piece.ensures.moments tells))
