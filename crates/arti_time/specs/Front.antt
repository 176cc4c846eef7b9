-- The pieces of a text, as functions that read its front.
use Rattle.std.specs.Prelude.{ℕ, ◌+◌, ◌-◌, ◌*◌, ◌&&◌, ◌==◌, if◌then◌else◌, List, [], ◌∷◌, Option, Some, None, option_map, option_and_then}
use Rattle.std.specs.Char.{is_ascii_digit}
use Rattle.std.specs.Borrow.{Bor}

-- a value and the text after it
abbrev pub Front : Type 0 → Type 0
Front A = Option (A × List ℕ)

-- what a function read, with the text behind the reference
abbrev pub front_view : {A : Type 0} → Option (A × Bor (List ℕ)) → Front A
front_view r = option_map (λ p. (p.0, p.1.now)) r

abbrev pub rest_view : Option (Bor (List ℕ)) → Option (List ℕ)
rest_view r = option_map (λ s. s.now) r

infixl 10 ◌>>=◌
abbrev pub ◌>>=◌ : {A B : Type 0} → Option A → (A → Option B) → Option B
o >>= f = option_and_then f o

-- two digits
unfoldable pub two_digits : List ℕ → Front ℕ
two_digits (high ∷ low ∷ rest) =
    if is_ascii_digit high && is_ascii_digit low then Some ((high - 48) * 10 + (low - 48), rest) else None
two_digits _ = None

-- four digits
unfoldable pub four_digits : List ℕ → Front ℕ
four_digits text = do
  century ← two_digits text
  year ← two_digits century.1
  Some (century.0 * 100 + year.0, year.1)

-- what stands after the byte
unfoldable pub after : ℕ → List ℕ → Option (List ℕ)
after byte [] = None
after byte (first ∷ rest) = if first == byte then Some rest else None
