use Rattle.std.proofs.Common.{◌≡◌, ◌++◌, ℕ, List, sym, ap, ◌∙◌, subst}
use Rattle.std.specs.Prelude.{Err, OnErr}
use Rattle.arti_ground.specs.State.{Bytes, Passes}
use Rattle.arti_blobs.specs.Contents.{content}
use Rattle.arti_service.specs.declared.answering.Stop.{Stop}
use Rattle.arti_service.specs.Moments.{Telling}
use Rattle.std.specs.Option.{option_copied}
use Rattle.arti_service.specs.Parts.{rest_of}
use Rattle.arti_service.specs.Cuts.{TellsFront}
use Rattle.arti_service.proofs.Acting.{first_front, second_front, time_first, time_both}
use Rattle.arti_service.proofs.carrying.tell_reply.Goals as goal

pub returns-in-Err-clause-stops : goal.returns-in-Err-clause-stops
returns-in-Err-clause-stops g c = λ gt.
    first_front c.in-Err.stop _ _ _ _ (λ e. c.tell.ensures.no_memory (c.in-Err.is ∙ ap (λ (x : Stop). Err x) e)) (c.in-Err.ensures.stops gt)

pub returns-in-Err-clause-time : goal.returns-in-Err-clause-time
returns-in-Err-clause-time g c = λ gt. time_first _ _ _ _ _ (c.tell.ensures.time gt)

pub returns-in-Some-clause-stops : goal.returns-in-Some-clause-stops
returns-in-Some-clause-stops g c = λ gt.
    let rest : content ((g.G.Ground.state c.tell.new.ground).files 3) c.in-Some.file.now ≡ rest_of ((g.G.Ground.state c.args.ground.now).files 3) (option_copied c.args.file) =
    ap (λ (f : Bytes). content (f 3) c.in-Some.file.now) (c.tell.ensures.leaves gt).files ∙ ap (λ o. rest_of ((g.G.Ground.state c.args.ground.now).files 3) (option_copied o)) (sym c.in-Some.is) in
    subst (λ (l : List ℕ). OnErr c.tell_content.result (TellsFront (c.args.head.now ++ l) ((g.G.Ground.state c.args.ground.now).told c.args.line) ((g.G.Ground.state c.tell_content.new.ground).told c.args.line))) rest
    (second_front c.tell_content.result c.args.head.now (content ((g.G.Ground.state c.tell.new.ground).files 3) c.in-Some.file.now) _ _ _ (c.in-Ok.ensures.told gt) (c.tell_content.ensures.stops gt))

pub returns-in-Some-clause-time : goal.returns-in-Some-clause-time
returns-in-Some-clause-time g c = λ gt.
    let rest : content ((g.G.Ground.state c.tell.new.ground).files 3) c.in-Some.file.now ≡ rest_of ((g.G.Ground.state c.args.ground.now).files 3) (option_copied c.args.file) =
    ap (λ (f : Bytes). content (f 3) c.in-Some.file.now) (c.tell.ensures.leaves gt).files ∙ ap (λ o. rest_of ((g.G.Ground.state c.args.ground.now).files 3) (option_copied o)) (sym c.in-Some.is) in
    subst (λ (l : List ℕ). Passes (g.G.Ground.state c.args.ground.now) (g.G.Ground.state c.tell_content.new.ground) (Telling (g.G.Ground.state c.args.ground.now) c.args.line (c.args.head.now ++ l))) rest
    (time_both _ _ _ _ _ _ (c.tell.ensures.leaves gt) (c.in-Ok.ensures.told gt) (c.tell.ensures.time gt) (c.tell_content.ensures.time gt))
