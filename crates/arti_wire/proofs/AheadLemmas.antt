-- A window into room for bytes.
use Rattle.std.proofs.Common.{◌≡◌, ℕ, ◌+◌, ◌-◌, ◌<◌, ◌≤◌, List, [], ◌∷◌, ◌++◌, length, take, drop, refl, sym, ap, ◌∙◌, subst, arith, append_assoc, append-nil, length-append}
use Rattle.std.specs.Prelude.{slice_range}
use Rattle.std.proofs.Math.Seq.{take-add}
use Rattle.std.proofs.lemmas.List.{length-take, take-take, drop-take, drop-drop}

-- the window after n bytes were passed over
pub pass_range : (items : List ℕ) (start end n : ℕ) → n ≤ end - start → slice_range items (start + n) end ≡ drop n (slice_range items start end)
pass_range items start end n fits =
    let sum : n + (end - (start + n)) ≡ end - start = omega arith in
    sym (ap (λ m. drop n (take m (drop start items))) (sym sum) ∙ drop-take n (end - (start + n)) (drop start items) ∙ ap (take (end - (start + n))) (drop-drop n start items))

-- the window after n bytes were put behind it
pub grow_range : (old new : List ℕ) (start end n : ℕ) → start ≤ end → take end new ≡ take end old
    → slice_range new start (end + n) ≡ slice_range old start end ++ take n (drop end new)
grow_range old new start end n order same =
    let size = end - start in
    let sum : (end + n) - start ≡ size + n = omega arith in
    let place : start + size ≡ end = omega arith in
    let kept : take size (drop start new) ≡ take size (drop start old) =
    sym (drop-take start size new) ∙ ap (λ m. drop start (take m new)) place ∙ ap (drop start) same ∙ ap (λ m. drop start (take m old)) (sym place) ∙ drop-take start size old in
    ap (λ m. take m (drop start new)) sum
    ∙ take-add size n (drop start new)
    ∙ ap (λ f. f ++ take n (drop size (drop start new))) kept
    ∙ ap (λ r. take size (drop start old) ++ take n r) (drop-drop size start new ∙ ap (λ m. drop m new) place)

-- a front of a front
pub front_of_front : (first old new : List ℕ) → take (length first) old ≡ first → take (length old) new ≡ old → take (length first) new ≡ first
front_of_front first old new a b =
    let size = ap length a in
    let short : length first ≤ length old = omega (arith, size, length-take (length first) old) in
    sym (take-take (length first) (length old) new short) ∙ ap (take (length first)) b ∙ a
