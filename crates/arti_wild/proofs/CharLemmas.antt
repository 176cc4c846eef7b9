-- The first character of a text, and the others.
use Rattle.std.proofs.Common.{◌≡◌, ℕ, true, List, [], ◌∷◌, ◌++◌, length, drop, Some, None, refl, sym, ap, ◌∙◌, arith}
use Rattle.std.specs.Prelude.{slice_get, encode_utf8}
use Rattle.std.specs.Str.{chars, IsUtf8}
use Rattle.std.proofs.lemmas.Str.{chars-encodes, chars-nil}
use Rattle.std.proofs.lemmas.List.{drop_at}
use lib.Utf8.{scalars, scalar, encodes, encode}
use Rattle.std.proofs.lemmas.Bool.{and_parts}
use Rattle.std.proofs.lemmas.Option.{none-some, same_Some}

first_among : (cs bs rest : List ℕ) (c : ℕ) → scalars cs ≡ true → encodes cs ≡ bs → Some c ≡ slice_get cs 0 → bs ≡ encode c ++ rest → chars bs ≡ c ∷ chars rest
first_among [] bs rest c ok e some split = absurd (none-some c (sym some))
first_among (d ∷ cs) bs rest c ok e some split =
    let same : c ≡ d = same_Some c d some in
    let ok_rest : scalars cs ≡ true = (and_parts (scalar d) (scalars cs) ok).1 in
    let whole : encode d ++ encodes cs ≡ encode d ++ rest = e ∙ split ∙ ap (λ (x : ℕ). encode x ++ rest) same in
    let tail : encodes cs ≡ rest = sym (drop_at (encode d) (encodes cs) (length (encode d)) refl) ∙ ap (λ (l : List ℕ). drop (length (encode d)) l) whole ∙ drop_at (encode d) rest (length (encode d)) refl in
    ap chars (sym e) ∙ chars-encodes (d ∷ cs) ok ∙ ap (λ (x : ℕ). x ∷ cs) (sym same) ∙ ap (λ (l : List ℕ). c ∷ l) (sym (chars-encodes cs ok_rest) ∙ ap chars tail)

pub first_char : (bs rest : List ℕ) (c : ℕ) → IsUtf8 bs → Some c ≡ slice_get (chars bs) 0 → bs ≡ encode_utf8 c ++ rest → chars bs ≡ c ∷ chars rest
first_char bs rest c (cs, (ok, e)) some split =
    let is : chars bs ≡ cs = ap chars (sym e) ∙ chars-encodes cs ok in
    first_among cs bs rest c ok e (some ∙ ap (λ (l : List ℕ). slice_get l 0) is) split

pub chars_none : (bs : List ℕ) → length bs ≡ 0 → chars bs ≡ []
chars_none [] e = chars-nil
chars_none (b ∷ bs) e = absurd (omega arith)
