-- The search for the first empty line, from one LF to the next.
use Rattle.std.proofs.Common.{◌≡◌, ◌≢◌, ℕ, zero, suc, ◌+◌, ◌-◌, ◌<◌, ◌≤◌, Bool, true, false, ◌&&◌, List, [], ◌∷◌, ◌++◌, length, take, drop, get_or, refl, sym, ap, ◌∙◌, subst, inl, inr, ◌⊎◌, arith, append_assoc, append-nil, length-append, Option, Some, None}
use Rattle.std.specs.Prelude.{option_map, ◌==◌, if◌then◌else◌}
use Rattle.std.proofs.lemmas.Bool.{true≢false, ne_eqb, eqb-true, eq-eqb}
use Rattle.memchr.specs.Find.{IsFirstByte, Nowhere, NoneBefore, Passes, is_byte}
use Rattle.std.specs.Prelude.{All, is_some}
use Rattle.std.proofs.lemmas.List.{length-take-le, take-append-drop, get_or-take, drop-drop, drop_all}
use Rattle.std.proofs.Math.Seq.{drop-cons, drop-append_seam}
use Rattle.std.proofs.lemmas.List.Elements.{All-head, All-tail, All-from_get_or}
use Rattle.std.proofs.lemmas.Iterator.Adapters.{option_map_id}
use Rattle.arti_wire.specs.Lines.{IsBehindLine, SameSearch}
use Rattle.arti_model.specs.Requests.{starts_line_end, lines_before_empty}

-- a byte that is no LF doesn't count
pub lines_at_other : (b : ℕ) (bytes : List ℕ) → b ≢ 10 → lines_before_empty (b ∷ bytes) ≡ lines_before_empty bytes
lines_at_other b bytes other = rw (ne_eqb b 10 other) (option_map_id (lines_before_empty bytes))

-- how many lines stand before the first empty line, where an LF stands before these bytes
abbrev pub lines_after_lf : List ℕ → Option ℕ
lines_after_lf bytes = if starts_line_end bytes then Some 1 else option_map (λ n. n + 1) (lines_before_empty bytes)

pub lines_at_lf : (bytes : List ℕ) → lines_before_empty (10 ∷ bytes) ≡ lines_after_lf bytes
lines_at_lf bytes = refl

-- the bytes before the first LF don't count
from_first : (front rest : List ℕ) → All (λ b. b ≢ 10) front → lines_before_empty (front ++ 10 ∷ rest) ≡ lines_after_lf rest
from_first [] rest plain = refl
from_first (b ∷ front) rest plain =
    lines_at_other b (front ++ 10 ∷ rest) (All-head (λ b. b ≢ 10) b front plain)
    ∙ from_first front rest (All-tail (λ b. b ≢ 10) b front plain)

pub lines_behind : (bytes rest : List ℕ) → IsBehindLine bytes rest → lines_before_empty bytes ≡ lines_after_lf rest
lines_behind bytes rest behind = ap lines_before_empty behind.split ∙ from_first behind.front rest behind.plain

pub no_lines : (bytes : List ℕ) → All (λ b. b ≢ 10) bytes → lines_before_empty bytes ≡ None
no_lines [] plain = refl
no_lines (b ∷ bytes) plain =
    lines_at_other b bytes (All-head (λ b. b ≢ 10) b bytes plain) ∙ no_lines bytes (All-tail (λ b. b ≢ 10) b bytes plain)

pub behind_shorter : (bytes rest : List ℕ) → IsBehindLine bytes rest → length rest < length bytes
behind_shorter bytes rest behind = omega (arith, ap length behind.split, length-append behind.front (10 ∷ rest))

-- what a search for LF answers
pub behind_found : (bytes : List ℕ) (k : ℕ) → IsFirstByte (is_byte 10) bytes (Some k) → IsBehindLine bytes (drop (k + 1) bytes)
behind_found bytes k found =
    let low : k < length bytes = found.0.high in
    let lf : get_or bytes k 0 ≡ 10 = eqb-true _ 10 found.1 in
    let next : suc k ≡ k + 1 = omega arith in
    let before : (i : ℕ) → i < k → get_or bytes i 0 ≢ 10 = λ i below is. found.0.before i (omega arith) below (eq-eqb _ 10 is) in
    let size : length (take k bytes) ≡ k = length-take-le k bytes (omega arith) in
    record {
      front = take k bytes;
      split = sym (take-append-drop k bytes) ∙ ap (λ r. take k bytes ++ r) (drop-cons bytes k 0 low ∙ ap (λ b. b ∷ drop (suc k) bytes) lf ∙ ap (λ n. 10 ∷ drop n bytes) next);
      plain = All-from_get_or (λ b. b ≢ 10) (take k bytes) 0 (λ i below.
          let small : i < k = omega arith in
          subst (λ b. b ≢ 10) (sym (get_or-take k bytes i 0 small)) (before i small));
    }

pub nothing_found : (bytes : List ℕ) → IsFirstByte (is_byte 10) bytes None → All (λ b. b ≢ 10) bytes
nothing_found bytes nowhere =
    All-from_get_or (λ b. b ≢ 10) bytes 0 (λ i below is. nowhere i (omega arith) below (eq-eqb _ 10 is))

map_next : (lines : ℕ) (o : Option ℕ) → option_map (λ n. lines + n) (option_map (λ n. n + 1) o) ≡ option_map (λ n. (lines + 1) + n) o
map_next lines None = refl
map_next lines (Some n) = ap Some (omega arith)

-- one LF more, where an empty line follows it
pub lines_found : (rest after : List ℕ) (lines : ℕ) (all : Option ℕ) → lines_before_empty rest ≡ lines_after_lf after → starts_line_end after ≡ true
    → option_map (λ n. lines + n) (lines_before_empty rest) ≡ all → Some (lines + 1) ≡ all
lines_found rest after lines all step is so = rw (step, is) at so

-- one LF more, where none does
pub lines_more : (rest after : List ℕ) (lines : ℕ) (all : Option ℕ) → lines_before_empty rest ≡ lines_after_lf after → starts_line_end after ≡ false
    → option_map (λ n. lines + n) (lines_before_empty rest) ≡ all → option_map (λ n. (lines + 1) + n) (lines_before_empty after) ≡ all
lines_more rest after lines all step not so = sym (map_next lines (lines_before_empty after)) ∙ rw (step, not) at so

-- ---- an empty line in what stands from a place on

none_from_false : (o : Option ℕ) → is_some o ≡ false → o ≡ None
none_from_false None h = refl
none_from_false (Some n) h = absurd (true≢false h)

plain_front : (front rest : List ℕ) → All (λ b. b ≢ 10) front → lines_before_empty (front ++ rest) ≡ lines_before_empty rest
plain_front [] rest plain = refl
plain_front (b ∷ front) rest plain =
    lines_at_other b (front ++ rest) (All-head (λ b. b ≢ 10) b front plain)
    ∙ plain_front front rest (All-tail (λ b. b ≢ 10) b front plain)

some_next : (o : Option ℕ) → is_some (option_map (λ n. n + 1) o) ≡ is_some o
some_next None = refl
some_next (Some n) = refl

after_other : (bytes : List ℕ) → starts_line_end bytes ≡ false → is_some (lines_before_empty (10 ∷ bytes)) ≡ is_some (lines_before_empty bytes)
after_other bytes not = rw not (some_next (lines_before_empty bytes))

-- the search may go on at the LF
at_lf : (xs rest after : List ℕ) → SameSearch xs rest → IsBehindLine rest after → SameSearch xs (10 ∷ after)
at_lf xs rest after same behind more =
    same more
    ∙ ap (λ r. is_some (lines_before_empty (r ++ more))) behind.split
    ∙ ap (λ r. is_some (lines_before_empty r)) (append_assoc behind.front (10 ∷ after) more)
    ∙ ap is_some (plain_front behind.front ((10 ∷ after) ++ more) behind.plain)

whole_search : (xs ys : List ℕ) → SameSearch xs ys → is_some (lines_before_empty xs) ≡ is_some (lines_before_empty ys)
whole_search xs ys same =
    ap (λ r. is_some (lines_before_empty r)) (sym (append-nil xs)) ∙ same [] ∙ ap (λ r. is_some (lines_before_empty r)) (append-nil ys)

pub search_found : (xs rest after : List ℕ) → SameSearch xs rest → IsBehindLine rest after → starts_line_end after ≡ true → is_some (lines_before_empty xs) ≡ true
search_found xs rest after same behind is =
    whole_search xs (10 ∷ after) (at_lf xs rest after same behind) ∙ rw is refl

pub search_open : (xs rest after : List ℕ) → SameSearch xs rest → IsBehindLine rest after → (after ≡ []) ⊎ (after ≡ 13 ∷ []) → lines_before_empty xs ≡ None
search_open xs rest after same behind (inl is) =
    none_from_false _ (whole_search xs (10 ∷ after) (at_lf xs rest after same behind) ∙ ap (λ r. is_some (lines_before_empty (10 ∷ r))) is)
search_open xs rest after same behind (inr is) =
    none_from_false _ (whole_search xs (10 ∷ after) (at_lf xs rest after same behind) ∙ ap (λ r. is_some (lines_before_empty (10 ∷ r))) is)

-- a part from some place on, and a part of that
part_of_part : (bytes rest front more : List ℕ) → rest ≡ drop (length bytes - length rest) bytes → length rest ≤ length bytes → rest ≡ front ++ more
    → more ≡ drop (length bytes - length more) bytes
part_of_part bytes rest front more place fits split =
    let size = ap length split ∙ length-append front more in
    let sum : (length bytes - length rest) + length front ≡ length bytes - length more = omega (arith, size) in
    sym (drop-append_seam front more) ∙ ap (drop (length front)) (sym split ∙ place) ∙ drop-drop (length front) (length bytes - length rest) bytes ∙ ap (λ n. drop n bytes) sum

pub search_open_on : (xs bytes rest after : List ℕ) → rest ≡ drop (length bytes - length rest) bytes → length rest ≤ length bytes → SameSearch xs rest → IsBehindLine rest after
    → SameSearch xs (drop (length bytes - length after - 1) bytes)
search_open_on xs bytes rest after place fits same behind =
    let number : length bytes - length (10 ∷ after) ≡ length bytes - length after - 1 = omega arith in
    subst (SameSearch xs) (part_of_part bytes rest behind.front (10 ∷ after) place fits behind.split ∙ ap (λ n. drop n bytes) number) (at_lf xs rest after same behind)

pub search_other : (xs rest after : List ℕ) → SameSearch xs rest → IsBehindLine rest after → ((more : List ℕ) → starts_line_end (after ++ more) ≡ false) → SameSearch xs after
search_other xs rest after same behind other more = at_lf xs rest after same behind more ∙ after_other (after ++ more) (other more)

pub search_place : (bytes rest after : List ℕ) → rest ≡ drop (length bytes - length rest) bytes → length rest ≤ length bytes → IsBehindLine rest after
    → after ≡ drop (length bytes - length after) bytes
search_place bytes rest after place fits behind =
    part_of_part bytes rest (behind.front ++ 10 ∷ []) after place fits (behind.split ∙ sym (append_assoc behind.front (10 ∷ []) after))

pub search_end : (xs rest : List ℕ) → SameSearch xs rest → All (λ b. b ≢ 10) rest → lines_before_empty xs ≡ None
search_end xs rest same plain =
    none_from_false _ (whole_search xs rest same ∙ ap is_some (no_lines rest plain))

pub search_end_on : (xs rest bytes : List ℕ) → SameSearch xs rest → All (λ b. b ≢ 10) rest → SameSearch xs (drop (length bytes) bytes)
search_end_on xs rest bytes same plain more =
    same more ∙ ap is_some (plain_front rest more plain) ∙ ap (λ r. is_some (lines_before_empty (r ++ more))) (sym (drop_all (length bytes) bytes (omega arith)))

some_mapped : {A B : Type 0} (f : A → B) (o : Option A) → is_some o ≡ true → is_some (option_map f o) ≡ true
some_mapped f None h = h
some_mapped f (Some x) h = refl

some_chosen : (b : Bool) (x y : Option ℕ) → is_some x ≡ true → is_some y ≡ true → is_some (if b then x else y) ≡ true
some_chosen true x y p q = p
some_chosen false x y p q = q

-- an empty line in what stands from a place on is one of all bytes
pub some_from : (bytes : List ℕ) (n : ℕ) → is_some (lines_before_empty (drop n bytes)) ≡ true → is_some (lines_before_empty bytes) ≡ true
some_from bytes zero h = h
some_from [] (suc n) h = h
some_from (b ∷ bytes) (suc n) h =
    some_chosen (b == 10 && starts_line_end bytes) (Some 1) _ refl (some_mapped _ (lines_before_empty bytes) (some_from bytes n h))
