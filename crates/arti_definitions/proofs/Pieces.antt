-- Pieces written one behind the other.
use Rattle.std.proofs.Common.{◌≡◌, ℕ, List, ◌++◌, ap, ◌∙◌, append_assoc}

-- a piece that is made of a text
pub made_of : {A : Type 0} (piece : A → List ℕ) (o x : List ℕ) (a b : A) → x ≡ o ++ piece a → a ≡ b → x ≡ o ++ piece b
made_of piece o x a b e same = e ∙ ap (λ t. o ++ piece t) same

three : (o a b c : List ℕ) → ((o ++ a) ++ b) ++ c ≡ o ++ (a ++ (b ++ c))
three o a b c = simp (append_assoc)

pub after_three : (o a b c x y z : List ℕ) → x ≡ o ++ a → y ≡ x ++ b → z ≡ y ++ c → z ≡ o ++ (a ++ (b ++ c))
after_three o a b c x y z ea eb ec = ec ∙ ap (λ (l : List ℕ). l ++ c) (eb ∙ ap (λ (l : List ℕ). l ++ b) ea) ∙ three o a b c
