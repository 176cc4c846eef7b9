-- A text with no byte that has an escape is written as it is.
use Rattle.std.proofs.Common.{◌≡◌, ℕ, false, List, [], ◌∷◌, ◌++◌, refl, sym, ap, ◌∙◌, append_assoc, arith}
use Rattle.std.specs.List.{list_any}
use Rattle.std.proofs.lemmas.Bool.{or_parts}
use Rattle.std.proofs.lemmas.Bool.Decides.{nat_tests}
use Rattle.json.specs.Print.{escape_byte, escape, quoted}
use Rattle.arti_json.specs.Escapes.{has_escape}

pub escape_byte-plain : (b : ℕ) → has_escape b ≡ false → escape_byte b ≡ b ∷ []
unfolding escape_byte
escape_byte-plain b none = grind (arith, nat_tests)

pub escape-plain : (text : List ℕ) → list_any has_escape text ≡ false → escape text ≡ text
escape-plain [] none = refl
escape-plain (b ∷ text) none =
    let both = or_parts (has_escape b) (list_any has_escape text) none in
    ap (λ (l : List ℕ). l ++ escape text) (escape_byte-plain b both.0) ∙ ap (λ (l : List ℕ). b ∷ l) (escape-plain text both.1)

-- a quote, the text and a quote, behind what was written before
pub quoted-plain : (old text : List ℕ) → list_any has_escape text ≡ false → ((old ++ 34 ∷ []) ++ text) ++ 34 ∷ [] ≡ old ++ quoted text
quoted-plain old text none =
    append_assoc (old ++ 34 ∷ []) text (34 ∷ []) ∙ append_assoc old (34 ∷ []) (text ++ 34 ∷ []) ∙ ap (λ (l : List ℕ). old ++ 34 ∷ (l ++ 34 ∷ [])) (sym (escape-plain text none))
