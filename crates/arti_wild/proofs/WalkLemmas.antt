-- The walk from the left, by the last places of the stars, tells the placeholders of the greatest split.
use Rattle.std.proofs.Common.{◌≡◌, ⊎_elim, ℕ, zero, suc, ◌+◌, ◌-◌, ◌<◌, ◌≤◌, Bool, true, false, cond, List, [], ◌∷◌, ◌++◌, length, get_or, take, drop, Option, Some, None, refl, sym, ap, ◌∙◌, subst, arith, drop-cons, length-drop, length-append, append_assoc, append-nil}
use Rattle.std.specs.Prelude.{is_some, option_map, map, reverse, nat_lt, slice_index, encode_utf8, encode_utf8_all}
use Rattle.std.specs.Str.{chars, IsUtf8}
use Rattle.std.proofs.lemmas.Bool.{false≢true, cases_order}
use Rattle.std.proofs.lemmas.Bool.Decides.{nat_tests}
use Rattle.std.proofs.lemmas.List.{drop-drop, map-append, take_more, take-append-drop, get_or_append_left}
use Rattle.std.proofs.Math.Seq.{drop-length, get_or-append_seam}
use Rattle.std.proofs.lemmas.Str.{chars-encodes, encodes-append}
use Rattle.arti_wild.specs.declared.part.Part.{Part}
use Rattle.arti_wild.specs.declared.part.Part.TheVariants.{Char, LastSlash, Any, Star, Open, Close}
use Rattle.arti_wild.specs.declared.capturing.Span.{Span}
use Rattle.arti_wild.specs.Splits.{Places, takes_first, greatest, placeholders, byte_place, in_bytes, captured}
use Rattle.arti_wild.specs.Places.{goes_on, IsLastPlace, AreStarPlaces, one_on, place_after, opened_after, closed, walk, by_offsets}
use Rattle.arti_wild.proofs.RowLemmas.{when_takes, is_some_has, HasLongest, longest_some}

-- the first byte of each character

pub byte_next : (text : List ℕ) (k c : ℕ) → k < length text → c ≡ get_or text k c → byte_place text (k + 1) ≡ byte_place text k + length (encode_utf8 c)
byte_next text k c h e =
    let front : take (k + 1) text ≡ take k text ++ c ∷ [] = take_more text k c h ∙ ap (λ (x : ℕ). take k text ++ x ∷ []) (sym e) in
    ap (λ (l : List ℕ). length (encode_utf8_all l)) front ∙ ap (λ (l : List ℕ). length l) (encodes-append (take k text) (c ∷ []))
    ∙ length-append (encode_utf8_all (take k text)) (encode_utf8_all (c ∷ [])) ∙ ap (λ n. byte_place text k + n) (length-append (encode_utf8 c) [] ∙ omega arith)

pub byte_place-le : (text : List ℕ) (k : ℕ) → byte_place text k ≤ length (encode_utf8_all text)
byte_place-le text k =
    let whole : length (encode_utf8_all text) ≡ byte_place text k + length (encode_utf8_all (drop k text)) =
    ap (λ (l : List ℕ). length (encode_utf8_all l)) (sym (take-append-drop k text)) ∙ ap (λ (l : List ℕ). length l) (encodes-append (take k text) (drop k text)) ∙ length-append (encode_utf8_all (take k text)) (encode_utf8_all (drop k text)) in
    omega (arith, whole)

pub one_offset_more : (text offsets : List ℕ) (i at : ℕ) → length offsets ≡ i → at ≡ byte_place text i → ((k : ℕ) → k < i → slice_index offsets k ≡ byte_place text k) → (k : ℕ) → k < i + 1 → slice_index (offsets ++ at ∷ []) k ≡ byte_place text k
one_offset_more text offsets i at size is each k h = ⊎_elim
    (λ (same : k ≡ i). ap (λ (n : ℕ). get_or (offsets ++ at ∷ []) n 0) (same ∙ sym size) ∙ get_or-append_seam offsets at [] 0 ∙ is ∙ ap (byte_place text) (sym same))
    (λ other. ⊎_elim
    (λ (lt : k < i). get_or_append_left offsets (at ∷ []) 0 k (omega arith) ∙ each k lt)
    (λ (gt : i < k). absurd (omega arith)) other)
    (cases_order k i)

pub utf8_whole : (text : List ℕ) → IsUtf8 text → encode_utf8_all (chars text) ≡ text
utf8_whole text (cs, (ok, e)) = ap encode_utf8_all (ap chars (sym e) ∙ chars-encodes cs ok) ∙ e

-- one step of the walk

pub walk_step : (limit opened at : ℕ) (parts rest : List Part) (part : Part) (places new : List ℕ) (next within : ℕ) → parts ≡ part ∷ rest → (next, new) ≡ place_after limit part at places → within ≡ opened_after part opened at
    → walk limit opened at parts places ≡ closed part opened at ++ walk limit within next rest new
unfolding walk
walk_step limit opened at parts rest part places new next within e step inner =
    rw e (ap (λ (p : ℕ × List ℕ). closed part opened at ++ walk limit (opened_after part opened at) p.0 rest p.1) (sym step) ∙ ap (λ n. closed part opened at ++ walk limit n next rest new) (sym inner))

pub walk_end : (limit opened at : ℕ) (parts : List Part) (places : List ℕ) → parts ≡ [] → walk limit opened at parts places ≡ []
unfolding walk
walk_end limit opened at parts places e = rw e refl

pub told_more : (f : Places → Span) (all : List Span) (told new : List Span) (left ended rest : List Places) → all ≡ told ++ map f left → left ≡ ended ++ rest → new ≡ told ++ map f ended → all ≡ new ++ map f rest
told_more f all told new left ended rest so_far split pushed =
    so_far ∙ ap (λ l. told ++ map f l) split ∙ ap (λ l. told ++ l) (map-append f ended rest) ∙ sym (append_assoc told (map f ended) (map f rest)) ∙ ap (λ l. l ++ map f rest) (sym pushed)

-- the walk and the split

takes_some : (part : Part) (text : List ℕ) (at : ℕ) → at ≤ length text → takes_first part (drop at text) ≡ true → at < length text
takes_some part text at within e = ⊎_elim
    (λ (same : at ≡ length text). absurd (false≢true (sym (ap (takes_first part) (ap (λ n. drop n text) same ∙ drop-length text)) ∙ e)))
    (λ other. ⊎_elim (λ (lt : at < length text). lt) (λ (gt : length text < at). absurd (omega arith)) other)
    (cases_order at (length text))

one_on-below : (limit at : ℕ) → at < limit → one_on limit at ≡ at + 1
one_on-below limit at h = let e : nat_lt at limit ≡ true = grind (arith, nat_tests) in rw e refl

-- a star that is as long as it can be reaches the last place
reaches : (parts : List Part) (text lengths : List ℕ) (at last : ℕ) → at ≤ length text → IsLastPlace parts text last → (h : HasLongest (greatest parts) (drop at text) lengths) → at + h.first ≡ last
reaches parts text lengths at last within is h =
    let size = length-drop at text in
    let goes : goes_on parts text (at + h.first) ≡ true = ap is_some (ap (greatest parts) (sym (drop-drop h.first at text)) ∙ h.goes) in
    ⊎_elim (λ (same : at + h.first ≡ last). same)
    (λ other. ⊎_elim
    (λ (lt : at + h.first < last).
    let there : at + (last - at) ≡ last = omega arith in
    let none = h.last (last - at) (omega arith) (omega (arith, is.within, size)) in
    absurd (false≢true (sym (ap is_some (ap (greatest parts) (sym (drop-drop (last - at) at text ∙ ap (λ n. drop n text) there)) ∙ none)) ∙ is.here)))
    (λ (gt : last < at + h.first). absurd (false≢true (sym (is.none_later (at + h.first) gt (omega (arith, h.within, size))) ∙ goes))) other)
    (cases_order (at + h.first) last)

abbrev span : ℕ → ℕ → Span
span a b = record { start = a; end = b }

same_span : (a b c d : ℕ) → a ≡ c → b ≡ d → span a b ≡ span c d
same_span a b c d e f = rw (e, f) refl

-- what the offsets say of the characters of a text
pub record AreOffsets (text offsets : List ℕ) : Type 0 where
  pub size : length offsets ≡ length text + 1
  pub each : (k : ℕ) → k ≤ length text → slice_index offsets k ≡ byte_place text k

module _ (text offsets : List ℕ) (are_offsets : AreOffsets text offsets) where
  -- the walk and the split tell the same
  pub walk_is : (parts : List Part) (places lengths : List ℕ) (opened at : ℕ) → AreStarPlaces parts text places → greatest parts (drop at text) ≡ Some lengths → at ≤ length text → opened ≤ length text
      → map (by_offsets offsets) (walk (length offsets) opened at parts places) ≡ map (in_bytes text) (placeholders opened at parts lengths)
  unfolding walk placeholders greatest AreStarPlaces
  walk_is [] places lengths opened at are e within before = refl
  walk_is (Star ∷ parts) places lengths opened at (first, more, is, last, rest) e within before =
      let h = longest_some (greatest parts) (drop at text) lengths e in
      let there = reaches parts text lengths at first within last h in
      let goes : greatest parts (drop first text) ≡ Some h.more = ap (greatest parts) (ap (λ n. drop n text) (sym there) ∙ sym (drop-drop h.first at text)) ∙ h.goes in
      rw (is, h.is) (walk_is parts more h.more opened first rest goes last.within before ∙ ap (λ n. map (in_bytes text) (placeholders opened n parts h.more)) (sym there))
  walk_is (Open ∷ parts) places lengths opened at are e within before = walk_is parts places lengths at at are e within within
  walk_is (Close ∷ parts) places lengths opened at are e within before =
      ap (λ l. span (slice_index offsets opened) (slice_index offsets at) ∷ l) (walk_is parts places lengths opened at are e within before)
      ∙ ap (λ s. s ∷ map (in_bytes text) (placeholders opened at parts lengths)) (same_span (slice_index offsets opened) (slice_index offsets at) (byte_place text opened) (byte_place text at) (are_offsets.each opened before) (are_offsets.each at within))
  walk_is (Char c ∷ parts) places lengths opened at are e within before =
      let found = when_takes (takes_first (Char c) (drop at text)) (greatest parts (drop 1 (drop at text))) lengths e in
      let inside = takes_some (Char c) text at within found.0 in
      rw (one_on-below (length offsets) at (omega (arith, are_offsets.size))) (walk_is parts places lengths opened (at + 1) are (ap (greatest parts) (sym (drop-drop 1 at text)) ∙ found.1) (omega arith) before)
  walk_is (LastSlash ∷ parts) places lengths opened at are e within before =
      let found = when_takes (takes_first LastSlash (drop at text)) (greatest parts (drop 1 (drop at text))) lengths e in
      let inside = takes_some LastSlash text at within found.0 in
      rw (one_on-below (length offsets) at (omega (arith, are_offsets.size))) (walk_is parts places lengths opened (at + 1) are (ap (greatest parts) (sym (drop-drop 1 at text)) ∙ found.1) (omega arith) before)
  walk_is (Any ∷ parts) places lengths opened at are e within before =
      let found = when_takes (takes_first Any (drop at text)) (greatest parts (drop 1 (drop at text))) lengths e in
      let inside = takes_some Any text at within found.0 in
      rw (one_on-below (length offsets) at (omega (arith, are_offsets.size))) (walk_is parts places lengths opened (at + 1) are (ap (greatest parts) (sym (drop-drop 1 at text)) ∙ found.1) (omega arith) before)

pub none_captured : (parts : List Part) (text bytes : List ℕ) → text ≡ chars bytes → greatest parts text ≡ None → None ≡ captured parts bytes
unfolding captured
none_captured parts text bytes e none = ap (λ (o : Option (List ℕ)). option_map (λ lengths. map (in_bytes (chars bytes)) (placeholders 0 0 parts lengths)) o) (sym none ∙ ap (greatest parts) e)

pub some_captured : (parts : List Part) (bytes places offsets : List ℕ) (spans : List Span) → is_some (greatest parts (chars bytes)) ≡ true → AreStarPlaces parts (chars bytes) (reverse places) → AreOffsets (chars bytes) offsets → spans ≡ map (by_offsets offsets) (walk (length offsets) 0 0 parts (reverse places)) → Some spans ≡ captured parts bytes
unfolding captured
some_captured parts bytes places offsets spans goes are are_offsets is =
    let lengths = is_some_has (greatest parts (chars bytes)) goes in
    let same = walk_is (chars bytes) offsets are_offsets parts (reverse places) lengths.0 0 0 are lengths.1 (omega arith) (omega arith) in
    ap Some (is ∙ same) ∙ ap (λ (o : Option (List ℕ)). option_map (λ ls. map (in_bytes (chars bytes)) (placeholders 0 0 parts ls)) o) (sym lengths.1)

pub decoded_len : (text decoded : List ℕ) → IsUtf8 text → decoded ≡ chars text → length (encode_utf8_all decoded) ≡ length text
decoded_len text decoded utf8 e = ap (λ (l : List ℕ). length l) (ap encode_utf8_all e ∙ utf8_whole text utf8)

pub some_captured_at : (parts parts₁ parts₂ : List Part) (bytes text₁ text₂ places offsets offsets₂ : List ℕ) (spans : List Span) → parts₁ ≡ parts → parts₂ ≡ parts → text₁ ≡ chars bytes → text₂ ≡ chars bytes → offsets₂ ≡ offsets
    → (is_some (greatest parts₁ text₁) ≡ true) × AreStarPlaces parts₁ text₁ (reverse places)
    → (length offsets ≡ length text₂ + 1) × ((k : ℕ) → k ≤ length text₂ → slice_index offsets k ≡ byte_place text₂ k)
    → spans ≡ map (by_offsets offsets₂) (walk (length offsets₂) 0 0 parts₂ (reverse places)) → Some spans ≡ captured parts bytes
some_captured_at parts parts₁ parts₂ bytes text₁ text₂ places offsets offsets₂ spans ep ep₂ et et₂ eo goes offs is =
    let at_parts : (is_some (greatest parts (chars bytes)) ≡ true) × AreStarPlaces parts (chars bytes) (reverse places) =
    subst (λ (p : List Part). (is_some (greatest p (chars bytes)) ≡ true) × AreStarPlaces p (chars bytes) (reverse places)) ep
    (subst (λ (t : List ℕ). (is_some (greatest parts₁ t) ≡ true) × AreStarPlaces parts₁ t (reverse places)) et goes) in
    let at_offsets : (length offsets ≡ length (chars bytes) + 1) × ((k : ℕ) → k ≤ length (chars bytes) → slice_index offsets k ≡ byte_place (chars bytes) k) =
    subst (λ (t : List ℕ). (length offsets ≡ length t + 1) × ((k : ℕ) → k ≤ length t → slice_index offsets k ≡ byte_place t k)) et₂ offs in
    let at_spans : spans ≡ map (by_offsets offsets) (walk (length offsets) 0 0 parts (reverse places)) =
    subst (λ (o : List ℕ). spans ≡ map (by_offsets o) (walk (length o) 0 0 parts (reverse places))) eo
    (subst (λ (p : List Part). spans ≡ map (by_offsets offsets₂) (walk (length offsets₂) 0 0 p (reverse places))) ep₂ is) in
    some_captured parts bytes places offsets spans at_parts.0 at_parts.1 (record { size = at_offsets.0; each = at_offsets.1 }) at_spans

pub none_captured_at : (parts parts₁ : List Part) (text bytes : List ℕ) → parts₁ ≡ parts → text ≡ chars bytes → greatest parts₁ text ≡ None → None ≡ captured parts bytes
none_captured_at parts parts₁ text bytes ep et none = none_captured parts text bytes et (ap (λ p. greatest p text) (sym ep) ∙ none)

pub told_all : (f : Places → Span) (all : List Span) (told : List Span) (left : List Places) → all ≡ told ++ map f left → left ≡ [] → told ≡ all
told_all f all told left so_far none = sym (so_far ∙ ap (λ l. told ++ map f l) none ∙ append-nil told)
