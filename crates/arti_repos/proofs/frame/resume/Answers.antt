use Rattle.std.proofs.Common.{◌≡◌, ℕ, List, ◌∷◌, ◌++◌, [], refl, sym, ap, subst, ◌∙◌}
use Rattle.arti_repos.specs.declared.frame.Frame.{Frame}
use Rattle.arti_repos.specs.Frames.{Takes}
use Rattle.arti_repos.proofs.Framing.{takes_member}
use Rattle.arti_repos.proofs.frame.resume.Goals as goal

pub returns-in-Some : goal.returns-in-Some
returns-in-Some c =
    let more : Frame = record { key = c.args.frame.key; rest = c.in-Some.rest } in
    let is : c.args.frame.rest.now ≡ c.as_str.result.now ∷ c.in-Some.rest.now = c.in-Some.ensures.cases.0 ∙ ap (λ (m : List ℕ). m ∷ c.in-Some.rest.now) (sym c.as_str.ensures) in
    subst (λ (l : List Frame). Takes (c.args.frames.now.items ++ c.args.frame ∷ []) c.as_str.result.now l) (sym c.put_back.ensures)
    (takes_member c.args.frames.now.items c.args.frame more c.as_str.result.now c.in-Some.rest.now is refl refl)
