use Rattle.std.proofs.Common.{◌≡◌, ◌++◌, ◌∷◌, ℕ, true, List, [], length, refl, sym, ap, ◌∙◌, subst, arith}
use Rattle.std.specs.Prelude.{OnOk, IfErr, ◌==◌}
use Rattle.std.proofs.lemmas.Bool.Decides.{nat_tests}
use Rattle.std.proofs.lemmas.List.{append-nil}
use Rattle.arti_ground.specs.State.{Passes}
use Rattle.arti_service.specs.Cuts.{StopsTelling}
use Rattle.arti_service.specs.Moments.{Telling}
use Rattle.arti_service.proofs.Acting.{first_stops, second_stops, time_first, time_both}
use Rattle.arti_service.proofs.telling.tell_parts.Goals as goal

pub returns-in-Err-clause-stops : goal.returns-in-Err-clause-stops
returns-in-Err-clause-stops g c = λ gt. first_stops c.in-Err.stop _ _ _ _ (c.in-Err.ensures.stops gt)

pub returns-in-Err-clause-time : goal.returns-in-Err-clause-time
returns-in-Err-clause-time g c = λ gt. time_first _ _ _ _ _ (c.tell-2.ensures.time gt)

pub returns-in-Ok-clause-stops : goal.returns-in-Ok-clause-stops
returns-in-Ok-clause-stops g c = λ gt. second_stops c.tell-in-Ok.result _ _ _ _ _ c.tell-in-Ok.ensures.no_memory (c.in-Ok.ensures.told gt) (c.tell-in-Ok.ensures.stops gt)

pub returns-in-Ok-clause-time : goal.returns-in-Ok-clause-time
returns-in-Ok-clause-time g c = λ gt. time_both _ _ _ _ _ _ (c.tell-2.ensures.leaves gt) (c.in-Ok.ensures.told gt) (c.tell-2.ensures.time gt) (c.tell-in-Ok.ensures.time gt)

zero_of : (n : ℕ) → (n == 0) ≡ true → n ≡ 0
zero_of n e = grind (arith, nat_tests, e)

nil_of : (xs : List ℕ) → length xs ≡ 0 → xs ≡ []
nil_of [] e = refl
nil_of (x ∷ xs) e = absurd (omega (arith, e))

-- one part is both where the second is empty
both_is : (first second : List ℕ) → second ≡ [] → first ≡ first ++ second
both_is first second none = sym (append-nil first) ∙ ap (λ (l : List ℕ). first ++ l) (sym none)

pub returns-then-is_empty-clause-told : goal.returns-then-is_empty-clause-told
returns-then-is_empty-clause-told g c = λ gt.
    let none : c.args.second.now ≡ [] = nil_of c.args.second.now (zero_of (length c.args.second.now) (sym c.is_empty.ensures ∙ c.if-is_empty.true)) in
    subst (λ (l : List ℕ). OnOk c.tell.result ((g.G.Ground.state c.tell.new.ground).told c.args.line ≡ (g.G.Ground.state c.args.ground.now).told c.args.line ++ l)) (both_is c.args.first.now c.args.second.now none) (c.tell.ensures.told gt)

pub returns-then-is_empty-clause-stops : goal.returns-then-is_empty-clause-stops
returns-then-is_empty-clause-stops g c = λ gt.
    let none : c.args.second.now ≡ [] = nil_of c.args.second.now (zero_of (length c.args.second.now) (sym c.is_empty.ensures ∙ c.if-is_empty.true)) in
    subst (λ (l : List ℕ). IfErr c.tell.result (λ stop. StopsTelling stop l ((g.G.Ground.state c.args.ground.now).told c.args.line) ((g.G.Ground.state c.tell.new.ground).told c.args.line))) (both_is c.args.first.now c.args.second.now none) (c.tell.ensures.stops gt)

pub returns-then-is_empty-clause-time : goal.returns-then-is_empty-clause-time
returns-then-is_empty-clause-time g c = λ gt.
    let none : c.args.second.now ≡ [] = nil_of c.args.second.now (zero_of (length c.args.second.now) (sym c.is_empty.ensures ∙ c.if-is_empty.true)) in
    subst (λ (l : List ℕ). Passes (g.G.Ground.state c.args.ground.now) (g.G.Ground.state c.tell.new.ground) (Telling (g.G.Ground.state c.args.ground.now) c.args.line l)) (both_is c.args.first.now c.args.second.now none) (c.tell.ensures.time gt)
