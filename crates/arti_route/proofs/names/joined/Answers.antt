use Rattle.std.proofs.Common.{◌≡◌, ◌∷◌, ◌++◌, sym, ap, ◌∙◌, rules}
use Rattle.std.specs.Prelude.{string_bytes}
use Rattle.std.specs.List.{flat_map, join_with_byte}
use Rattle.arti_route.proofs.Naming.{join_with_byte-cons}
use Rattle.arti_route.proofs.names.joined.Goals as goal

pub loop-segment-init : goal.loop-segment-init
loop-segment-init c =
    let first : string_bytes c.in_ok-whole.whole ≡ c.in-Some.first.now = search rules in
    ap (λ w. w ++ flat_map (λ s. 47 ∷ s) c.in-Some.others.now) first ∙ sym (join_with_byte-cons c.in-Some.first.now c.in-Some.others.now) ∙ ap (join_with_byte 47) (sym c.in-Some.ensures.cases.0)
