-- Pieces written one behind the other.
use Rattle.std.proofs.Common.{◌≡◌, ℕ, List, [], ◌++◌, ap, ◌∙◌, append_assoc}
use Rattle.std.proofs.lemmas.List.{append-nil}

two : (o a b : List ℕ) → (o ++ a) ++ b ≡ o ++ (a ++ (b ++ []))
two o a b = simp (append_assoc, append-nil)

three : (o a b c : List ℕ) → ((o ++ a) ++ b) ++ c ≡ o ++ (a ++ (b ++ (c ++ [])))
three o a b c = simp (append_assoc, append-nil)

five : (o a b c d e : List ℕ) → ((((o ++ a) ++ b) ++ c) ++ d) ++ e ≡ o ++ (a ++ (b ++ (c ++ (d ++ (e ++ [])))))
five o a b c d e = simp (append_assoc, append-nil)

pub after_three : (o a b c x y z : List ℕ) → x ≡ o ++ a → y ≡ x ++ b → z ≡ y ++ c → z ≡ o ++ (a ++ (b ++ (c ++ [])))
after_three o a b c x y z ea eb ec = ec ∙ ap (λ (l : List ℕ). l ++ c) (eb ∙ ap (λ (l : List ℕ). l ++ b) ea) ∙ three o a b c

pub after_five : (o a b c d e v w x y z : List ℕ) → v ≡ o ++ a → w ≡ v ++ b → x ≡ w ++ c → y ≡ x ++ d → z ≡ y ++ e → z ≡ o ++ (a ++ (b ++ (c ++ (d ++ (e ++ [])))))
after_five o a b c d e v w x y z ea eb ec ed ee =
    ee ∙ ap (λ (l : List ℕ). l ++ e) (ed ∙ ap (λ (l : List ℕ). l ++ d) (ec ∙ ap (λ (l : List ℕ). l ++ c) (eb ∙ ap (λ (l : List ℕ). l ++ b) ea))) ∙ five o a b c d e
