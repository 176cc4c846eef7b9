-- The head that the parser finds, in the words of the model.
use Rattle.std.proofs.Common.{◌≡◌, ℕ, ◌+◌, ◌-◌, ◌<◌, ◌≤◌, Bool, true, List, [], ◌∷◌, ◌++◌, length, take, drop, map, refl, sym, ap, ◌∙◌, subst, arith, append_assoc, length-append}
use Rattle.std.specs.Prelude.{All, IsUtf8}
use Rattle.std.specs.Str.{IsAscii}
use Rattle.std.proofs.lemmas.Bool.Decides.{nat_tests}
use Rattle.std.proofs.lemmas.List.{length-map, length-take, length-take-le, take-append-drop, drop-append-le, take-append-le}
use Rattle.std.proofs.Math.Seq.{take-append-add, take-append_seam}
use Rattle.std.proofs.lemmas.List.Elements.{All-head, All-tail, All-cons, All-nil, All-weaker, All-map}
use Rattle.std.proofs.lemmas.Str.{IsUtf8-from_ascii}
use Rattle.std.proofs.lemmas.Str.Ascii.{IsAscii-from_all}
use Rattle.httparse.specs.declared.spans.HeaderSpan.{HeaderSpan}
use Rattle.httparse.specs.declared.spans.RequestSpans.{RequestSpans}
use Rattle.httparse.specs.Grammar.{is_token_byte, IsToken, Field, IsField, RequestHead, print_request, ReadsRequest}
use Rattle.httparse.specs.Spans.{IsRequestWithin, IsRequestAt, IsRequestOf, header_bytes, span_bytes, name_and_value}
use Rattle.httparse.proofs.GrammarLemmas.{ReadsRequest-append}
use Rattle.arti_model.specs.Requests.{StartsWithHead}

token_byte_ascii : (b : ℕ) → is_token_byte b ≡ true → b < 128
unfolding is_token_byte
token_byte_ascii b h = grind (arith, nat_tests)

-- a token is a text
pub token_is_text : (bytes : List ℕ) → IsToken bytes → IsUtf8 bytes
token_is_text bytes token = IsUtf8-from_ascii bytes (IsAscii-from_all bytes (All-weaker _ _ token_byte_ascii bytes token.1))

-- what holds of each part that a function gives holds of what it is given
all_from_map : {X Y : Type 0} (P : Y → Type 0) (f : X → Y) (xs : List X) → All P (map f xs) → All (λ x. P (f x)) xs
all_from_map P f [] h = All-nil (λ x. P (f x))
all_from_map P f (x ∷ xs) h =
    All-cons (λ x. P (f x)) x xs (All-head P (f x) (map f xs) h) (all_from_map P f xs (All-tail P (f x) (map f xs) h))

-- the names of a head's fields are texts
pub names_are_texts : (bytes : List ℕ) (headers : List HeaderSpan) (spans : RequestSpans) (h : RequestHead) → IsRequestAt bytes headers spans h
    → All (λ header. IsUtf8 (span_bytes bytes header.name)) (take spans.headers headers)
names_are_texts bytes headers spans h at =
    let IsNamed : List ℕ × List ℕ → Type 0 = λ f. IsUtf8 f.0 in
    let named : All IsNamed (map name_and_value h.fields) =
    All-map IsNamed name_and_value h.fields (All-weaker IsField (λ f. IsUtf8 f.name) (λ f field. token_is_text f.name field.name) h.fields at.reads.0.fields) in
    all_from_map IsNamed (header_bytes bytes) (take spans.headers headers) (subst (All IsNamed) (sym at.fields) named)

-- a head in the window is one of all bytes
pub starts_with_window : (bytes front : List ℕ) (headers : List HeaderSpan) (spans : RequestSpans) (h : RequestHead) → front ≡ take 32768 bytes → length headers ≤ 64
    → IsRequestWithin front headers spans → IsRequestAt front headers spans h → StartsWithHead bytes h (drop spans.len bytes) × (spans.len ≤ length bytes)
starts_with_window bytes front headers spans h is_front room within at =
    let fits : spans.len ≤ length front = within.section.len_fits in
    let whole : front ++ drop 32768 bytes ≡ bytes = ap (λ f. f ++ drop 32768 bytes) is_front ∙ take-append-drop 32768 bytes in
    let rest : drop spans.len bytes ≡ drop spans.len front ++ drop 32768 bytes =
    ap (drop spans.len) (sym whole) ∙ drop-append-le spans.len front (drop 32768 bytes) fits in
    let reads = ReadsRequest-append front h (drop spans.len front) (drop 32768 bytes) at.reads in
    let bound = ap length is_front ∙ length-take 32768 bytes in
    let mapped : length (map (header_bytes front) (take spans.headers headers)) ≡ length (map name_and_value h.fields) = ap length at.fields in
    let count : length (take spans.headers headers) ≡ length h.fields = simp length-map at mapped in (
      record {
        reads = (reads.0, sym whole ∙ reads.1 ∙ ap (λ r. print_request h ++ r) (sym rest));
        size = omega (arith, bound, fits, at.len);
        count = omega (arith, count, length-take spans.headers headers);
      },
      omega (arith, bound, fits),
    )

-- a head of the bytes is one in the window
pub window_reads : (bytes front rest : List ℕ) (h : RequestHead) → front ≡ take 32768 bytes → StartsWithHead bytes h rest
    → ReadsRequest front h (take (32768 - length (print_request h)) rest)
window_reads bytes front rest h is_front starts =
    let text = print_request h in
    let sum : 32768 ≡ length text + (32768 - length text) = omega (arith, starts.size) in
    (starts.reads.0, is_front ∙ ap (take 32768) starts.reads.1 ∙ ap (λ n. take n (text ++ rest)) sum ∙ take-append-add text rest (32768 - length text))
