-- Texts with a mark between them.
use Rattle.std.specs.Prelude.{ℕ, List, [], ◌∷◌, ◌++◌}

abbrev pub separated : ℕ → List (List ℕ) → List ℕ
separated mark [] = []
separated mark (x ∷ []) = x
separated mark (x ∷ y ∷ ys) = x ++ mark ∷ separated mark (y ∷ ys)
