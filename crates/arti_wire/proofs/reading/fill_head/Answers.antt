use Rattle.std.proofs.Common.{◌≡◌, ℕ, List, true, ◌<◌, ◌≤◌, ◌-◌, ◌++◌, [], inl, inr, length, take, drop, sym, ap, subst, ◌∙◌, arith, rules}
use Rattle.std.proofs.lemmas.List.{length-take}
use Rattle.std.specs.Prelude.{is_some}
use Rattle.arti_model.specs.Requests.{lines_before_empty}
use Rattle.arti_wire.proofs.AheadLemmas.{front_of_front}
use Rattle.arti_wire.proofs.EmptyLines.{some_from}
use Rattle.arti_wire.proofs.reading.fill_head.Goals as goal

pub loop-to-preserved : goal.loop-to-preserved
loop-to-preserved g c =
    let first = c.args.ahead.now in
    let old = c.loop-to.ahead in
    let new = c.fill.new.self in
    let is_window : c.window.result.now ≡ take 32768 old = c.window.ensures ∙ ap (take 32768) c.as_slice.ensures.value in
    let place : c.in-Some.to ≤ length (take 32768 old) = subst (λ (w : List ℕ). c.in-Some.to ≤ length w) is_window c.in-Some.ensures.place in (
      (λ tells. c.in_ok-fill.ensures.bytes tells ∙ c.loop-to.invariant.0 tells),
      front_of_front first old new c.loop-to.invariant.1 c.fill.ensures.front,
      omega (arith, place, length-take 32768 old, length-take 32768 new, c.in_ok-fill.ensures.grown),
      search rules,
    )

pub returns-clause-decides : goal.returns-clause-decides
returns-clause-decides g c = λ tells.
    let found = some_from c.window.result.now c.loop-to.from c.in_default.ensures.found in
    let is_window : c.window.result.now ≡ take 32768 c.loop-to.ahead = c.window.ensures ∙ ap (take 32768) c.as_slice.ensures.value in
    inr (inr (subst (λ (w : List ℕ). is_some (lines_before_empty w) ≡ true) is_window found))
