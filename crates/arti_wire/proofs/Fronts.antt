-- No front of a head has an empty line, so what bytes begin with doesn't change when more bytes come.
use Rattle.std.proofs.Common.{◌≡◌, ◌≢◌, ℕ, ◌+◌, ◌-◌, ◌<◌, ◌≤◌, ◌⊎◌, ⊎_elim, inl, inr, Bool, true, false, ◌&&◌, ◌||◌, List, [], ◌∷◌, ◌++◌, length, take, drop, map, refl, sym, ap, ◌∙◌, subst, arith, append_assoc, append-nil, length-append, Option, Some, None}
use Rattle.std.specs.Prelude.{MatchBool, option_map, is_some, ◌==◌, if◌then◌else◌, nat_lt}
use Rattle.std.proofs.lemmas.Bool.{true≢false, false≢true, cases_Bool, cases_lt, and_parts, or_parts, or_cases, or_left, le-ltb, lt-ltb, eqb-true}
use Rattle.std.proofs.lemmas.Bool.Decides.{nat_tests}
use Rattle.std.proofs.lemmas.Option.{none-some}
use Rattle.std.proofs.lemmas.List.{take-append-le, take-append-drop, take_all, length-drop}
use Rattle.std.proofs.Math.Seq.{take-append_seam, take-append-add}
use Rattle.httparse.specs.Grammar.{RequestHead, print_request, IsRequestHead, ReadsRequest, LineEnd, crlf, lf, print_blank}
use Rattle.httparse.specs.Spans.{name_and_value}
use Rattle.httparse.proofs.GrammarLemmas.{ReadsRequest-append, print_request-append}
use Rattle.arti_model.specs.declared.Why.{Why}
use Rattle.arti_model.specs.declared.Why.TheVariants.{BadHead}
use Rattle.arti_model.specs.Requests.{HeadOrNone, Request, Start, AtEnd, AtCut, AtBad, Head, StartsWithHead, HasNoHead, start_with, start_without, unless_bad, by_lines, body_fault, body_length, request_of, is_line_byte, StartsAt, starts_line_end, lines_before_empty}
use Rattle.arti_wire.specs.Ahead.{with_more, Decides}
use Rattle.arti_wire.proofs.EmptyLines.{lines_at_other, lines_after_lf}
use Rattle.arti_wire.proofs.HeadEnds.{empty_line_end, starts_lf, HasNoBlank, head_ends}

-- behind an LF that no line end follows at once, the search goes on as behind any byte
behind_lf : (n : ℕ) (a b : ℕ) (bytes more : List ℕ) → starts_line_end (a ∷ b ∷ bytes) ≡ false
    → empty_line_end n true ((a ∷ b ∷ bytes) ++ more) ≡ empty_line_end n false ((a ∷ b ∷ bytes) ++ more)
behind_lf n a b bytes more not =
    let parts = or_parts (a == 10) (a == 13 && b == 10) not in rw (parts.0, parts.1) refl

-- a line end directly behind an LF is the empty line
now : (bytes : List ℕ) (n : ℕ) → starts_line_end bytes ≡ true → (p : ℕ) × (p ≤ n + length bytes) × ((more : List ℕ) → empty_line_end n true (bytes ++ more) ≡ Some p)
now [] n h = absurd (false≢true h)
now (a ∷ []) n h = (n + 1, omega arith, λ more. rw h refl)
now (a ∷ b ∷ bytes) n h =
    ⊎_elim (λ (is : (a == 10) ≡ true). (n + 1, omega arith, λ more. rw is refl))
    (λ (is : (a == 13 && b == 10) ≡ true).
    let parts = and_parts (a == 13) (b == 10) is in
    let cr : a ≡ 13 = eqb-true a 13 parts.0 in
    let not : (a == 10) ≡ false = ap (λ v. v == 10) cr in
    (n + 2, omega arith, λ more. rw (not, parts.0, parts.1) refl))
    (or_cases (a == 10) (a == 13 && b == 10) h)

no_line_in_one : (a : ℕ) → lines_before_empty (a ∷ []) ≡ None
no_line_in_one a = ⊎_elim (λ (h : (a == 10) ≡ true). rw h refl) (λ (h : (a == 10) ≡ false). rw h refl) (cases_Bool (a == 10))

some_before : (o : Option ℕ) (lines : ℕ) → option_map (λ n. n + 1) o ≡ Some lines → (l : ℕ) × (o ≡ Some l)
some_before None lines h = absurd (none-some lines h)
some_before (Some l) lines h = (l, refl)

-- the first empty line ends in these bytes, whatever follows them
abbrev Lies : List ℕ → ℕ → Bool → Type 0
Lies bytes n after = (p : ℕ) × (p ≤ n + length bytes) × ((more : List ℕ) → empty_line_end n after (bytes ++ more) ≡ Some p)

behind : (bytes : List ℕ) (n : ℕ) → starts_line_end bytes ≡ false → (lines : ℕ) → lines_before_empty bytes ≡ Some lines → Lies bytes n false → Lies bytes n true
behind [] n not lines h lies = absurd (none-some lines h)
behind (a ∷ []) n not lines h lies = absurd (none-some lines (sym (no_line_in_one a) ∙ h))
behind (a ∷ b ∷ bytes) n not lines h lies = (lies.0, lies.1, λ more. behind_lf n a b bytes more not ∙ lies.2 more)

later : (b : ℕ) (bytes : List ℕ) (n : ℕ) → Lies bytes (n + 1) (b == 10) → Lies (b ∷ bytes) n false
later b bytes n lies = (lies.0, omega (arith, lies.1), lies.2)

-- where an empty line stands in the bytes, its end lies in them
pub empty_line_lies : (bytes : List ℕ) (n lines : ℕ) → lines_before_empty bytes ≡ Some lines → Lies bytes n false
empty_line_lies [] n lines h = absurd (none-some lines h)
empty_line_lies (a ∷ []) n lines h = absurd (none-some lines (sym (no_line_in_one a) ∙ h))
empty_line_lies (a ∷ b ∷ bytes) n lines h =
    ⊎_elim (λ (is : (a == 10) ≡ true).
    let lf : a ≡ 10 = eqb-true a 10 is in
    let h10 : lines_after_lf (b ∷ bytes) ≡ Some lines = subst (λ (v : ℕ). lines_before_empty (v ∷ b ∷ bytes) ≡ Some lines) lf h in
    later a (b ∷ bytes) n (subst (Lies (b ∷ bytes) (n + 1)) (sym is) (⊎_elim (λ (starts : starts_line_end (b ∷ bytes) ≡ true). now (b ∷ bytes) (n + 1) starts)
    (λ (not : starts_line_end (b ∷ bytes) ≡ false).
    let next = some_before (lines_before_empty (b ∷ bytes)) lines (rw not at h10) in
    behind (b ∷ bytes) (n + 1) not next.0 next.1 (empty_line_lies (b ∷ bytes) (n + 1) next.0 next.1))
    (cases_Bool (starts_line_end (b ∷ bytes))))))
    (λ (not : (a == 10) ≡ false).
    let other : a ≢ 10 = λ e. false≢true (sym not ∙ ap (λ v. v == 10) e) in
    later a (b ∷ bytes) n (subst (Lies (b ∷ bytes) (n + 1)) (sym not) (empty_line_lies (b ∷ bytes) (n + 1) lines (sym (lines_at_other a (b ∷ bytes) other) ∙ h))))
    (cases_Bool (a == 10))

-- ---- no front of a head has an empty line

not_both : (o : Option ℕ) → ((n : ℕ) → o ≡ Some n → ⊥) → o ≡ None
not_both None h = refl
not_both (Some n) h = absurd (h n refl)

pub front_has_no_empty_line : (h : RequestHead) (front more : List ℕ) → IsRequestHead h → HasNoBlank h → print_request h ≡ front ++ more → 0 < length more
    → lines_before_empty front ≡ None
front_has_no_empty_line h front more valid none split some = not_both (lines_before_empty front) (λ n found.
    let lies = empty_line_lies front 0 n found in
    let whole : print_request h ++ [] ≡ front ++ more = append-nil (print_request h) ∙ split in
    let ends : empty_line_end 0 false (front ++ more) ≡ Some (length (print_request h)) =
    sym (ap (empty_line_end 0 false) whole) ∙ head_ends h (print_request h ++ []) [] none (valid, refl) in
    let both : Some lies.0 ≡ Some (length (print_request h)) = sym (lies.2 more) ∙ ends in
    let same : lies.0 ≡ length (print_request h) = cc in
    omega (arith, same, lies.1, ap length split, length-append front more))

-- bytes that begin with no line end begin with no empty line
no_blank_in : (b : ℕ) (bytes : List ℕ) (blank : List LineEnd) (tail : List ℕ) → is_line_byte b ≡ false → b ∷ bytes ≡ print_blank blank ++ tail → blank ≡ []
no_blank_in b bytes [] tail plain split = refl
no_blank_in b bytes (crlf ∷ blank) tail plain split =
    let first : b ≡ 13 = cc in absurd (false≢true (sym plain ∙ ap is_line_byte first))
no_blank_in b bytes (lf ∷ blank) tail plain split =
    let first : b ≡ 10 = cc in absurd (false≢true (sym plain ∙ ap is_line_byte first))

pub no_blank : (b : ℕ) (bytes rest : List ℕ) (h : RequestHead) → is_line_byte b ≡ false → ReadsRequest (b ∷ bytes) h rest → HasNoBlank h
no_blank b bytes rest h plain reads =
    no_blank_in b bytes h.blank _ plain (reads.1 ∙ print_request-append h rest)

-- ---- more bytes change nothing

starts_more : (bytes more : List ℕ) → starts_line_end bytes ≡ true → starts_line_end (bytes ++ more) ≡ true
starts_more [] more h = absurd (false≢true h)
starts_more (a ∷ []) [] h = h
starts_more (a ∷ []) (b ∷ more) h = or_left (a == 10) (a == 13 && b == 10) h
starts_more (a ∷ b ∷ bytes) more h = h

not_starts_more : (bytes more : List ℕ) (lines : ℕ) → lines_before_empty bytes ≡ Some lines → starts_line_end bytes ≡ false → starts_line_end (bytes ++ more) ≡ false
not_starts_more [] more lines some h = absurd (none-some lines some)
not_starts_more (a ∷ []) more lines some h = absurd (none-some lines (sym (no_line_in_one a) ∙ some))
not_starts_more (a ∷ b ∷ bytes) more lines some h = h

-- an empty line that stands there is the first one whatever follows
pub lines_more_bytes : (bytes more : List ℕ) (lines : ℕ) → lines_before_empty bytes ≡ Some lines → lines_before_empty (bytes ++ more) ≡ Some lines
lines_more_bytes [] more lines h = absurd (none-some lines h)
lines_more_bytes (a ∷ bytes) more lines h =
    ⊎_elim (λ (is : (a == 10) ≡ true).
    let lf : a ≡ 10 = eqb-true a 10 is in
    let h10 : lines_after_lf bytes ≡ Some lines = subst (λ (v : ℕ). lines_before_empty (v ∷ bytes) ≡ Some lines) lf h in
    subst (λ (v : ℕ). lines_before_empty (v ∷ bytes ++ more) ≡ Some lines) (sym lf) (⊎_elim (λ (starts : starts_line_end bytes ≡ true).
    let is_one : Some 1 ≡ Some lines = rw starts at h10 in rw (starts_more bytes more starts) is_one)
    (λ (not : starts_line_end bytes ≡ false).
    let step : option_map (λ n. n + 1) (lines_before_empty bytes) ≡ Some lines = rw not at h10 in
    let next = some_before (lines_before_empty bytes) lines step in
    let kept = lines_more_bytes bytes more next.0 next.1 in
    let same : option_map (λ n. n + 1) (lines_before_empty (bytes ++ more)) ≡ Some lines =
    ap (option_map (λ n. n + 1)) (kept ∙ sym next.1) ∙ step in
    rw (not_starts_more bytes more next.0 next.1 not) same)
    (cases_Bool (starts_line_end bytes))))
    (λ (not : (a == 10) ≡ false).
    let other : a ≢ 10 = λ e. false≢true (sym not ∙ ap (λ v. v == 10) e) in
    lines_at_other a (bytes ++ more) other ∙ lines_more_bytes bytes more lines (sym (lines_at_other a bytes other) ∙ h))
    (cases_Bool (a == 10))

cases_le : (m n : ℕ) → (m ≤ n) ⊎ (n < m)
cases_le m n = ⊎_elim (λ (h : n < m). inr h) (λ (h : m ≤ n). inl h) (cases_lt n m)

-- the window of longer bytes begins with the window
window_more : (n : ℕ) (bytes more : List ℕ) → (rest : List ℕ) × (take n (bytes ++ more) ≡ take n bytes ++ rest)
window_more n bytes more =
    ⊎_elim (λ (low : n ≤ length bytes). ([], take-append-le n bytes more low ∙ sym (append-nil (take n bytes))))
    (λ (high : length bytes < n).
    let sum : n ≡ length bytes + (n - length bytes) = omega arith in
    (take (n - length bytes) more, ap (λ m. take m (bytes ++ more)) sum ∙ take-append-add bytes more (n - length bytes) ∙ ap (λ f. f ++ take (n - length bytes) more) (sym (take_all n bytes (omega arith)))))
    (cases_le n (length bytes))

same_by_lines : (o : Option ℕ) (m n : ℕ) → (o ≡ None → 32768 ≤ m) → m ≤ n → by_lines o m ≡ by_lines o n
same_by_lines None m n large more =
    let low = large refl in
    rw (le-ltb m 32768 low, le-ltb n 32768 (omega arith)) refl
same_by_lines (Some lines) m n large more = refl

some_of : (o : Option ℕ) → is_some o ≡ true → (n : ℕ) × (o ≡ Some n)
some_of None h = absurd (false≢true h)
some_of (Some n) h = (n, refl)

-- where no head stands, more bytes leave what these begin with
same_without : (bytes more : List ℕ) → Decides bytes more → start_without (bytes ++ more) ≡ start_without bytes
same_without bytes more (inl is) = ap (λ m. start_without (bytes ++ m)) is ∙ ap start_without (append-nil bytes)
same_without bytes more (inr (inl large)) =
    ap (λ w. by_lines (lines_before_empty w) (length (bytes ++ more))) (take-append-le 32768 bytes more large)
    ∙ sym (same_by_lines (lines_before_empty (take 32768 bytes)) (length bytes) (length (bytes ++ more)) (λ e. large) (omega (arith, length-append bytes more)))
same_without bytes more (inr (inr found)) =
    let lines = some_of (lines_before_empty (take 32768 bytes)) found in
    let longer = window_more 32768 bytes more in
    let kept = lines_more_bytes (take 32768 bytes) longer.0 lines.0 lines.1 in
    ap (λ w. by_lines (lines_before_empty w) (length (bytes ++ more))) longer.1
    ∙ ap (λ o. by_lines o (length (bytes ++ more))) kept
    ∙ sym (ap (λ o. by_lines o (length bytes)) lines.1)

-- a head in more bytes that fits into these stands in these
head_fits : (bytes more rest : List ℕ) (h : RequestHead) → length (print_request h) ≤ length bytes → StartsWithHead (bytes ++ more) h rest
    → StartsWithHead bytes h (drop (length (print_request h)) bytes)
head_fits bytes more rest h fits starts =
    let text = print_request h in
    let n = length text in
    let front : take n bytes ≡ text =
    sym (take-append-le n bytes more fits) ∙ ap (take n) starts.reads.1 ∙ take-append_seam text rest in
    record {
      reads = (starts.reads.0, sym (take-append-drop n bytes) ∙ ap (λ f. f ++ drop n bytes) front);
      size = starts.size;
      count = starts.count;
    }

-- a head in more bytes that doesn't fit into these begins with all of these
head_passes : (bytes more rest : List ℕ) (h : RequestHead) → length bytes < length (print_request h) → StartsWithHead (bytes ++ more) h rest
    → print_request h ≡ bytes ++ drop (length bytes) (print_request h)
head_passes bytes more rest h long starts =
    let text = print_request h in
    let n = length bytes in
    let front : take n text ≡ bytes =
    sym (take-append-le n text rest (omega arith)) ∙ ap (take n) (sym starts.reads.1) ∙ take-append_seam bytes more in
    sym (take-append-drop n text) ∙ ap (λ f. f ++ drop n text) front

not_beyond : (b : ℕ) (bytes more rest : List ℕ) (h : RequestHead) → is_line_byte b ≡ false → Decides (b ∷ bytes) more → StartsWithHead ((b ∷ bytes) ++ more) h rest
    → length (b ∷ bytes) < length (print_request h) → ⊥
not_beyond b bytes more rest h plain (inl is) starts long =
    omega (arith, ap length starts.reads.1, length-append (print_request h) rest, ap (λ m. length ((b ∷ bytes) ++ m)) is, length-append (b ∷ bytes) [])
not_beyond b bytes more rest h plain (inr (inl large)) starts long = omega (arith, starts.size, large)
not_beyond b bytes more rest h plain (inr (inr found)) starts long =
    let all = b ∷ bytes in
    let lines = some_of (lines_before_empty (take 32768 all)) found in
    let whole : take 32768 all ≡ all = take_all 32768 all (omega (arith, starts.size)) in
    let passes = head_passes all more rest h long starts in
    let none = front_has_no_empty_line h all (drop (length all) (print_request h)) starts.reads.0 (no_blank b (bytes ++ more) rest h plain starts.reads) passes (omega (arith, length-drop (length all) (print_request h))) in
    none-some lines.0 (sym none ∙ ap lines_before_empty (sym whole) ∙ lines.1)

same_with : (o : Option Why) (q : Request) (n : ℕ) (rest more : List ℕ) → unless_bad o (Head q n (rest ++ more)) ≡ with_more (unless_bad o (Head q n rest)) more
same_with None q n rest more = refl
same_with (Some why) q n rest more = refl

by_lines_more : (o : Option ℕ) (n : ℕ) (more : List ℕ) → with_more (by_lines o n) more ≡ by_lines o n
by_lines_more (Some lines) n more = refl
by_lines_more None n more =
    ⊎_elim (λ (h : nat_lt n 32768 ≡ true). rw h refl) (λ (h : nat_lt n 32768 ≡ false). rw h refl) (cases_Bool (nat_lt n 32768))

-- what the bytes ahead begin with is what they and more bytes begin with
pub head_or_none_more : (content b : ℕ) (bytes more : List ℕ) (start : Start) → is_line_byte b ≡ false → Decides (b ∷ bytes) more → HeadOrNone content (b ∷ bytes) start
    → HeadOrNone content ((b ∷ bytes) ++ more) (with_more start more)
head_or_none_more content b bytes more start plain decides (inl x) =
    let h = x.0 in
    let reads = ReadsRequest-append (b ∷ bytes) h x.1 more x.2.reads in
    let starts : StartsWithHead ((b ∷ bytes) ++ more) h (x.1 ++ more) = record { reads = reads; size = x.2.size; count = x.2.count } in
    inl (h, x.1 ++ more, starts, ap (λ s. with_more s more) x.3 ∙ sym (same_with (body_fault content (map name_and_value h.fields)) (request_of h) (body_length (map name_and_value h.fields)) x.1 more))
head_or_none_more content b bytes more start plain decides (inr x) =
    inr (
      (λ h rest starts.
          ⊎_elim (λ (fits : length (print_request h) ≤ length (b ∷ bytes)). x.0 h _ (head_fits (b ∷ bytes) more rest h fits starts))
          (λ (long : length (b ∷ bytes) < length (print_request h)). not_beyond b bytes more rest h plain decides starts long)
          (cases_le (length (print_request h)) (length (b ∷ bytes)))),
      ap (λ s. with_more s more) x.1 ∙ by_lines_more (lines_before_empty (take 32768 (b ∷ bytes))) (length (b ∷ bytes)) more ∙ sym (same_without (b ∷ bytes) more decides),
    )
