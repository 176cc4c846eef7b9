-- What a read of a source in memory takes.
use Rattle.std.proofs.Common.{◌≡◌, ◌≤◌, ◌⊎◌, inl, inr, ⊎_elim, length, ◌+◌, ◌-◌, take, drop, ℕ, List, ◌++◌, sym, ◌∙◌, ap, arith, length-drop, take-append-drop}
use Rattle.std.proofs.lemmas.List.{take_at, drop-drop, length-take}
use Rattle.std.proofs.Math.ListN.{drop_of_length-le}
use Rattle.arti_ground.specs.Sources.{Takes}

-- the bytes at a place were copied to the front of the buffer
pub takes_copied : (bytes copied rest : List ℕ) (place n : ℕ) → place + n ≤ length bytes → copied ≡ take (place + n - place) (drop place bytes)
    → (n ≡ 0 → length (copied ++ rest) ≡ 0 ⊎ (length bytes ≤ place)) → Takes (drop place bytes) (drop (place + n) bytes) (copied ++ rest) n
takes_copied bytes copied rest place n le is end =
    let count : place + n - place ≡ n = omega arith in
    let same : copied ≡ take n (drop place bytes) = is ∙ ap (λ (k : ℕ). take k (drop place bytes)) count in
    let long : length copied ≡ n = ap length same ∙ omega (arith, length-take n (drop place bytes), length-drop place bytes) in
    record {
      taken = sym (take-append-drop n (drop place bytes)) ∙ ap (λ (l : List ℕ). l ++ drop n (drop place bytes)) (sym same)
          ∙ ap (λ (l : List ℕ). copied ++ l) (drop-drop n place bytes) ∙ ap (λ (l : List ℕ). l ++ drop (place + n) bytes) (sym (take_at copied rest n long));
      end = λ none. ⊎_elim (λ empty. inl empty) (λ past. inr (drop_of_length-le bytes past)) (end none);
    }
