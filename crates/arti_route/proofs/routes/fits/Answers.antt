use Rattle.std.proofs.Common.{◌∷◌, lit<, rules, sym, ap, ◌∙◌}
use Rattle.arti_rows.specs.CutLaws.{first_cut, one_segment}
use Rattle.arti_route.proofs.Routing.{fits-empty, fits-last, fits-stops, fits-goes}
use Rattle.arti_route.proofs.routes.fits.Goals as goal

pub returns-in-None : goal.returns-in-None
returns-in-None c = sym (fits-empty c.pieces.path.now c.pieces.left.now c.in-None.ensures.cases) ∙ c.pieces.invariant.same

pub returns-in-None-split_once : goal.returns-in-None-split_once
returns-in-None-split_once c =
    let first = c.in-Some.ensures.cases.0 ∙ ap (λ s. s ∷ c.in-Some.others.now) (sym c.as_str.ensures) in
    fits-last c.pieces.path.now c.pieces.left.now _ _ _ _ (one_segment c.pieces.path.now c.in-None-split_once.ensures.cases) first c.ends.result c.ends.ensures ∙ c.pieces.invariant.same

pub returns-then-not-takes : goal.returns-then-not-takes
returns-then-not-takes c =
    let cut = first_cut c.pieces.path.now c.in-Some-split_once.piece.now c.in-Some-split_once.behind.now (c.in-Some-split_once.ensures.byte (lit< tt) (λ w o f. f)) in
    let first = c.in-Some.ensures.cases.0 ∙ ap (λ s. s ∷ c.in-Some.others.now) (sym c.as_str-in-Some-split_once.ensures) in
    sym (fits-stops c.pieces.path.now c.pieces.left.now _ _ _ _ cut first (search rules) (search rules)) ∙ c.pieces.invariant.same

pub pieces-preserved : goal.pieces-preserved
pieces-preserved c =
    let cut = first_cut c.pieces.path.now c.in-Some-split_once.piece.now c.in-Some-split_once.behind.now (c.in-Some-split_once.ensures.byte (lit< tt) (λ w o f. f)) in
    let first = c.in-Some.ensures.cases.0 ∙ ap (λ s. s ∷ c.in-Some.others.now) (sym c.as_str-in-Some-split_once.ensures) in
    record { text = search rules; same = sym (fits-goes c.pieces.path.now c.pieces.left.now _ _ _ _ cut first (search rules) (search rules)) ∙ c.pieces.invariant.same }
