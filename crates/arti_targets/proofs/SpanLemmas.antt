-- What placeholders stand for lies between characters.
use Rattle.std.proofs.Common.{◌≡◌, ◌≤◌, ℕ, zero, suc, true, ◌+◌, ◌-◌, List, [], ◌∷◌, ◌++◌, length, take, drop, Option, Some, None, refl, sym, ap, ◌∙◌, arith, subst, length-append}
use Rattle.std.specs.Prelude.{All, option_map, map, encode_utf8_all}
use Rattle.std.specs.Str.{chars, IsUtf8, IsCharBoundary}
use Rattle.std.proofs.Math.Seq.{take-add}
use Rattle.std.proofs.lemmas.List.{take-append-drop}
use Rattle.std.proofs.lemmas.List.Elements.{All-nil, All-cons}
use Rattle.std.proofs.lemmas.Bool.{and_parts}
use lib.Utf8.{scalar, scalars}
use Rattle.std.proofs.lemmas.Option.{none-some, same_Some}
use Rattle.std.proofs.lemmas.Str.{encodes-append, encodes-chars, scalars-chars, IsCharBoundary-at_seam}
use Rattle.arti_wild.specs.declared.part.Part.{Part}
use Rattle.arti_wild.specs.declared.part.Part.TheVariants.{Char, LastSlash, Any, Star, Open, Close}
use Rattle.arti_wild.specs.declared.capturing.Span.{Span}
use Rattle.arti_wild.specs.Splits.{Places, greatest, placeholders, byte_place, in_bytes, captured}
use Rattle.arti_targets.specs.Targets.{IsCut, AreCaptured}

scalars-drop : (n : ℕ) (cs : List ℕ) → scalars cs ≡ true → scalars (drop n cs) ≡ true
scalars-drop zero cs ok = ok
scalars-drop (suc n) [] ok = ok
scalars-drop (suc n) (c ∷ cs) ok = scalars-drop n cs (and_parts (scalar c) (scalars cs) ok).1

-- the place of a character's first byte
cut_at : (text : List ℕ) (k : ℕ) → IsUtf8 text → IsCharBoundary text (byte_place (chars text) k)
cut_at text k u =
    let whole : text ≡ encode_utf8_all (take k (chars text)) ++ encode_utf8_all (drop k (chars text)) =
    sym (encodes-chars text u) ∙ ap encode_utf8_all (sym (take-append-drop k (chars text))) ∙ encodes-append (take k (chars text)) (drop k (chars text)) in
    IsCharBoundary-at_seam text (encode_utf8_all (take k (chars text))) (encode_utf8_all (drop k (chars text))) whole (drop k (chars text), (scalars-drop k (chars text) (scalars-chars text u), refl))

-- a later character stands at no earlier byte
later : (text : List ℕ) (a b : ℕ) → a ≤ b → byte_place text a ≤ byte_place text b
later text a b h =
    let parts : take b text ≡ take a text ++ take (b - a) (drop a text) = ap (λ n. take n text) (omega (arith, h)) ∙ take-add a (b - a) text in
    let sum : byte_place text b ≡ byte_place text a + length (encode_utf8_all (take (b - a) (drop a text))) =
    ap (λ (l : List ℕ). length (encode_utf8_all l)) parts ∙ ap (λ (l : List ℕ). length l) (encodes-append (take a text) (take (b - a) (drop a text)))
    ∙ length-append (encode_utf8_all (take a text)) (encode_utf8_all (take (b - a) (drop a text))) in
    omega (arith, sum)

-- a placeholder ends where it begins, or later
abbrev InOrder : Places → Type 0
InOrder p = p.0 ≤ p.1

in_order : (parts : List Part) (lengths : List ℕ) (opened at : ℕ) → opened ≤ at → All InOrder (placeholders opened at parts lengths)
unfolding placeholders
in_order [] lengths opened at h = All-nil InOrder
in_order (Star ∷ parts) [] opened at h = in_order parts [] opened at h
in_order (Star ∷ parts) (n ∷ lengths) opened at h = in_order parts lengths opened (at + n) (omega arith)
in_order (Open ∷ parts) lengths opened at h = in_order parts lengths at at (omega arith)
in_order (Close ∷ parts) lengths opened at h = All-cons InOrder (opened, at) (placeholders opened at parts lengths) h (in_order parts lengths opened at h)
in_order (Char c ∷ parts) lengths opened at h = in_order parts lengths opened (at + 1) (omega arith)
in_order (LastSlash ∷ parts) lengths opened at h = in_order parts lengths opened (at + 1) (omega arith)
in_order (Any ∷ parts) lengths opened at h = in_order parts lengths opened (at + 1) (omega arith)

cuts : (text : List ℕ) → IsUtf8 text → (ps : List Places) → All InOrder ps → All (IsCut text) (map (in_bytes (chars text)) ps)
cuts text u [] all = All-nil (IsCut text)
cuts text u (p ∷ ps) all =
    All-cons (IsCut text) (in_bytes (chars text) p) (map (in_bytes (chars text)) ps)
    (record { order = later (chars text) p.0 p.1 (all 0 p (omega arith)); start = cut_at text p.0 u; end = cut_at text p.1 u })
    (cuts text u ps (λ k d l. all (suc k) d (omega (arith, l))))

found : (text : List ℕ) (spans : List Span) (parts : List Part) (o : Option (List ℕ)) → IsUtf8 text
    → option_map (λ lengths. map (in_bytes (chars text)) (placeholders 0 0 parts lengths)) o ≡ Some spans → All (IsCut text) spans
found text spans parts None u e = absurd (none-some spans e)
found text spans parts (Some lengths) u e =
    subst (All (IsCut text)) (same_Some (map (in_bytes (chars text)) (placeholders 0 0 parts lengths)) spans e) (cuts text u (placeholders 0 0 parts lengths) (in_order parts lengths 0 0 (omega arith)))

pub captures_are_cut : (text : List ℕ) (spans : List Span) → IsUtf8 text → AreCaptured text spans → All (IsCut text) spans
unfolding captured
captures_are_cut text spans u c = found text spans c.0 (greatest c.0 (chars text)) u c.1
