-- From which places a pattern can go on, part by part.
use Rattle.std.proofs.Common.{◌≡◌, ⊎_elim, ℕ, zero, suc, ◌+◌, ◌-◌, ◌<◌, ◌≤◌, ◌≢◌, Bool, true, false, cond, ◌&&◌, List, [], ◌∷◌, ◌++◌, length, get_or, drop, Option, Some, None, refl, sym, ap, ◌∙◌, subst, arith, drop-cons, get_or-set_same, get_or-set_other, length-drop}
use Rattle.std.specs.Prelude.{is_some, slice_set, reverse, nat_le}
use Rattle.std.proofs.lemmas.Bool.{false≢true, cases_order, and_right}
use Rattle.std.proofs.lemmas.Bool.Decides.{nat_tests}
use Rattle.std.proofs.lemmas.List.{reverse-append, drop-drop}
use Rattle.std.proofs.lemmas.Option.{none-some, same_Some}
use Rattle.std.proofs.Math.ListN.{length-set}
use Rattle.std.proofs.Math.Seq.{drop-length}
use Rattle.arti_wild.specs.declared.part.Part.{Part}
use Rattle.arti_wild.specs.declared.part.Part.TheVariants.{Char, LastSlash, Any, Star, Open, Close}
use Rattle.arti_wild.specs.Splits.{takes_first, with_length, or_shorter, longest, greatest}
use Rattle.arti_wild.specs.Places.{goes_on, IsRow, IsDead, IsLastPlace, AreStarPlaces, is_single}
use Rattle.arti_wild.proofs.FitsLemmas.{by_bool, nil≢cons}

pub any_takes : (text : List ℕ) (place : ℕ) → place < length text → true ≡ takes_first Any (drop place text)
any_takes text place h = rw (drop-cons text place 0 h) refl

some_cond : {A : Type 0} (b : Bool) (o : Option A) → is_some (cond b o None) ≡ (b && is_some o)
some_cond true o = refl
some_cond false o = refl

pub single_goes : (part : Part) (parts : List Part) (rest : List ℕ) → is_single part ≡ true → is_some (greatest (part ∷ parts) rest) ≡ (takes_first part rest && is_some (greatest parts (drop 1 rest)))
unfolding greatest
single_goes (Char c) parts rest e = some_cond (takes_first (Char c) rest) (greatest parts (drop 1 rest))
single_goes LastSlash parts rest e = some_cond (takes_first LastSlash rest) (greatest parts (drop 1 rest))
single_goes Any parts rest e = some_cond (takes_first Any rest) (greatest parts (drop 1 rest))
single_goes Star parts rest e = absurd (false≢true e)
single_goes Open parts rest e = absurd (false≢true e)
single_goes Close parts rest e = absurd (false≢true e)

single_place : (part : Part) (parts : List Part) (text : List ℕ) (place : ℕ) → is_single part ≡ true → goes_on (part ∷ parts) text place ≡ (takes_first part (drop place text) && goes_on parts text (place + 1))
single_place part parts text place e = single_goes part parts (drop place text) e ∙ ap (λ (l : List ℕ). takes_first part (drop place text) && is_some (greatest parts l)) (drop-drop 1 place text)

-- the row of a part of one character
pub single_row : (part : Part) (text : List ℕ) (before after : List Bool) → is_single part ≡ true → length after ≡ length before
    → ((k : ℕ) → k < length text → get_or after k false ≡ (takes_first part (drop k text) && get_or before (k + 1) false))
    → length before ≡ length text + 1 → (parts : List Part) → IsRow parts text before → IsRow (part ∷ parts) text (slice_set after (length text) false)
single_row part text before after single same each size parts row = record {
  places = length-set after (length text) false ∙ same ∙ size;
  each = λ place within. ⊎_elim
      (λ (at_end : place ≡ length text). rw at_end (let inside : length text < length after = omega (arith, same, size) in get_or-set_same after (length text) false false inside ∙ sym (at_the_end part parts text single)))
      (λ other. ⊎_elim
      (λ (lt : place < length text). let ne : place ≢ length text = omega arith in
      get_or-set_other after (length text) place false false ne ∙ each place lt ∙ ap (λ b. takes_first part (drop place text) && b) (row.each (place + 1) (omega arith)) ∙ sym (single_place part parts text place single))
      (λ (gt : length text < place). absurd (omega arith)) other)
      (cases_order place (length text));
}
  where
    at_the_end : (part : Part) (parts : List Part) (text : List ℕ) → is_single part ≡ true → goes_on (part ∷ parts) text (length text) ≡ false
    at_the_end part parts text single = single_goes part parts (drop (length text) text) single ∙ ap (λ (l : List ℕ). takes_first part l && is_some (greatest parts (drop 1 l))) (drop-length text)

-- a star as long as it can be

-- the lengths of a star's split: the first is the star's
pub record HasLongest (rest : List ℕ → Option (List ℕ)) (text lengths : List ℕ) : Type 0 where
  pub first : ℕ
  pub more : List ℕ
  pub is : lengths ≡ first ∷ more
  pub within : first ≤ length text
  pub goes : rest (drop first text) ≡ Some more
  pub last : (j : ℕ) → first < j → j ≤ length text → rest (drop j text) ≡ None

-- a part that takes what it stands at goes on as what follows it does
pub when_takes : (b : Bool) (o : Option (List ℕ)) (lengths : List ℕ) → cond b o None ≡ Some lengths → (b ≡ true) × (o ≡ Some lengths)
when_takes true o lengths e = (refl, e)
when_takes false o lengths e = absurd (none-some lengths e)

tail_none : (a b : Option (List ℕ)) → or_shorter a b ≡ None → b ≡ None
tail_none None b e = e
tail_none (Some []) b e = e
tail_none (Some (n ∷ more)) b e = absurd (none-some (suc n ∷ more) (sym e))

front_none : (a b : Option (List ℕ)) → or_shorter a b ≡ None → a ≢ Some [] → a ≡ None
front_none None b e h = refl
front_none (Some []) b e h = absurd (h refl)
front_none (Some (n ∷ more)) b e h = absurd (none-some (suc n ∷ more) (sym e))

with_length_some : (n : ℕ) (o : Option (List ℕ)) (lengths : List ℕ) → with_length n o ≡ Some lengths → (more : List ℕ) × (o ≡ Some more) × (lengths ≡ n ∷ more)
with_length_some n None lengths e = absurd (none-some lengths e)
with_length_some n (Some more) lengths e = (more, refl, sym (same_Some (n ∷ more) lengths e))

with_length_none : (n : ℕ) (o : Option (List ℕ)) → with_length n o ≡ None → o ≡ None
with_length_none n None e = refl
with_length_none n (Some more) e = absurd (none-some (n ∷ more) (sym e))

later_none : (rest : List ℕ → Option (List ℕ)) (c : ℕ) (text : List ℕ) → ((j : ℕ) → j ≤ length text → rest (drop j text) ≡ None) → (j : ℕ) → 0 < j → j ≤ length (c ∷ text) → rest (drop j (c ∷ text)) ≡ None
later_none rest c text none zero low high = absurd (omega arith)
later_none rest c text none (suc j) low high = none j (omega arith)

later_last : (rest : List ℕ → Option (List ℕ)) (c : ℕ) (text : List ℕ) (n : ℕ) → ((j : ℕ) → n < j → j ≤ length text → rest (drop j text) ≡ None) → (j : ℕ) → suc n < j → j ≤ length (c ∷ text) → rest (drop j (c ∷ text)) ≡ None
later_last rest c text n none zero low high = absurd (omega arith)
later_last rest c text n none (suc j) low high = none j (omega arith) (omega arith)

length_nonempty : (n : ℕ) (o : Option (List ℕ)) → with_length n o ≢ Some []
length_nonempty n None e = none-some [] e
length_nonempty n (Some more) e = nil≢cons n more (same_Some (n ∷ more) [] e)

or_nonempty : (a b : Option (List ℕ)) → b ≢ Some [] → or_shorter a b ≢ Some []
or_nonempty None b h = h
or_nonempty (Some []) b h = h
or_nonempty (Some (n ∷ more)) b h = λ e. nil≢cons (suc n) more (same_Some (suc n ∷ more) [] e)

longest_nonempty : (rest : List ℕ → Option (List ℕ)) (text : List ℕ) → longest rest text ≢ Some []
longest_nonempty rest [] = length_nonempty 0 (rest [])
longest_nonempty rest (c ∷ text) = or_nonempty (longest rest text) (with_length 0 (rest (c ∷ text))) (length_nonempty 0 (rest (c ∷ text)))

-- where `longest` gives nothing there is nothing
pub longest_none : (rest : List ℕ → Option (List ℕ)) (text : List ℕ) → longest rest text ≡ None → (j : ℕ) → j ≤ length text → rest (drop j text) ≡ None
longest_none rest [] e j h = let zero_is : j ≡ 0 = omega arith in rw zero_is (with_length_none 0 (rest []) e)
longest_none rest (c ∷ text) e zero h = with_length_none 0 (rest (c ∷ text)) (tail_none (longest rest text) (with_length 0 (rest (c ∷ text))) e)
longest_none rest (c ∷ text) e (suc j) h = longest_none rest text (front_none (longest rest text) (with_length 0 (rest (c ∷ text))) e (longest_nonempty rest text)) j (omega arith)

here_only : (rest : List ℕ → Option (List ℕ)) (c : ℕ) (text lengths : List ℕ) → ((j : ℕ) → j ≤ length text → rest (drop j text) ≡ None) → with_length 0 (rest (c ∷ text)) ≡ Some lengths → HasLongest rest (c ∷ text) lengths
here_only rest c text lengths none e =
    let found = with_length_some 0 (rest (c ∷ text)) lengths e in
    record { first = 0; more = found.0; is = found.2; within = omega arith; goes = found.1; last = later_none rest c text none }

one_longer : (rest : List ℕ → Option (List ℕ)) (c : ℕ) (text lengths : List ℕ) → HasLongest rest text lengths → (longer : List ℕ) → or_shorter (Some lengths) (with_length 0 (rest (c ∷ text))) ≡ Some longer → HasLongest rest (c ∷ text) longer
one_longer rest c text lengths h longer e =
    let is : Some (suc h.first ∷ h.more) ≡ Some longer = subst (λ (l : List ℕ). or_shorter (Some l) (with_length 0 (rest (c ∷ text))) ≡ Some longer) h.is e in
    record { first = suc h.first; more = h.more; is = sym (same_Some (suc h.first ∷ h.more) longer is); within = omega (arith, h.within); goes = h.goes; last = later_last rest c text h.first h.last }

step_from : (rest : List ℕ → Option (List ℕ)) (c : ℕ) (text lengths : List ℕ) (o : Option (List ℕ)) → longest rest text ≡ o → ((shorter : List ℕ) → o ≡ Some shorter → HasLongest rest text shorter) → or_shorter o (with_length 0 (rest (c ∷ text))) ≡ Some lengths → HasLongest rest (c ∷ text) lengths
step_from rest c text lengths None eo ih e = here_only rest c text lengths (longest_none rest text eo) e
step_from rest c text lengths (Some shorter) eo ih e = one_longer rest c text shorter (ih shorter refl) lengths e

pub longest_some : (rest : List ℕ → Option (List ℕ)) (text lengths : List ℕ) → longest rest text ≡ Some lengths → HasLongest rest text lengths
longest_some rest [] lengths e =
    let found = with_length_some 0 (rest []) lengths e in
    record { first = 0; more = found.0; is = found.2; within = omega arith; goes = found.1; last = λ j low high. absurd (omega arith) }
longest_some rest (c ∷ text) lengths e =
    step_from rest c text lengths (longest rest text) refl (λ shorter is. longest_some rest text shorter is) e

-- the row of a star

pub is_some_has : {A : Type 0} (o : Option A) → is_some o ≡ true → (x : A) × (o ≡ Some x)
is_some_has None e = absurd (false≢true e)
is_some_has (Some x) e = (x, refl)

none_not_some : {A : Type 0} (o : Option A) → o ≡ None → is_some o ≡ false
none_not_some o e = ap is_some e

not_some_none : {A : Type 0} (o : Option A) → is_some o ≡ false → o ≡ None
not_some_none None e = refl
not_some_none (Some x) e = absurd (false≢true (sym e))

-- a star can go on from a place exactly where what follows can from a later one
star_here : (parts : List Part) (text : List ℕ) (place later : ℕ) → place ≤ later → later ≤ length text → goes_on parts text later ≡ true → goes_on (Star ∷ parts) text place ≡ true
unfolding greatest
star_here parts text place later low high goes = by_bool (is_some (longest (greatest parts) (drop place text)))
    (λ t. t)
    (λ f.
    let size : later - place ≤ length (drop place text) = omega (arith, length-drop place text) in
    let none = longest_none (greatest parts) (drop place text) (not_some_none (longest (greatest parts) (drop place text)) f) (later - place) size in
    let where_is : place + (later - place) ≡ later = omega arith in
    let same : drop (later - place) (drop place text) ≡ drop later text = drop-drop (later - place) place text ∙ ap (λ (n : ℕ). drop n text) where_is in
    absurd (false≢true (sym (ap is_some (ap (greatest parts) (sym same) ∙ none)) ∙ goes)))

star_gone : (parts : List Part) (text : List ℕ) (place : ℕ) → place ≤ length text → ((later : ℕ) → place ≤ later → later ≤ length text → goes_on parts text later ≡ false) → goes_on (Star ∷ parts) text place ≡ false
unfolding greatest
star_gone parts text place within none = by_bool (is_some (longest (greatest parts) (drop place text)))
    (λ t.
    let lengths = is_some_has (longest (greatest parts) (drop place text)) t in
    let found = longest_some (greatest parts) (drop place text) lengths.0 lengths.1 in
    let size : place + found.first ≤ length text = omega (arith, found.within, length-drop place text) in
    absurd (false≢true (sym (none (place + found.first) (omega arith) size) ∙ ap is_some (ap (greatest parts) (sym (drop-drop found.first place text)) ∙ found.goes))))
    (λ f. f)

pub star_row : (parts : List Part) (text : List ℕ) (before after : List Bool) (last : ℕ) → IsLastPlace parts text last → length after ≡ length before → ((k : ℕ) → k < length before → get_or after k false ≡ nat_le k last) → IsRow parts text before → IsRow (Star ∷ parts) text after
star_row parts text before after last is same each row = record {
  places = same ∙ row.places;
  each = λ place within. each place (omega (arith, row.places)) ∙ by_bool (nat_le place last)
      (λ t. let low : place ≤ last = grind (arith, nat_tests) in t ∙ sym (star_here parts text place last low is.within is.here))
      (λ f. let high : last < place = grind (arith, nat_tests) in f ∙ sym (star_gone parts text place within (λ later low over. is.none_later later (omega arith) over)));
}

pub last_of_row : (parts : List Part) (text : List ℕ) (row : List Bool) (i : ℕ) → IsRow parts text row → i < length row → get_or row i false ≡ true → ((k : ℕ) → i < k → k < length row → get_or row k false ≡ false) → IsLastPlace parts text i
last_of_row parts text row i is within here none = record {
  within = omega (arith, is.places);
  here = sym (is.each i (omega (arith, is.places))) ∙ here;
  none_later = λ later low high. sym (is.each later high) ∙ none later low (omega (arith, is.places));
}

pub dead_row : (parts : List Part) (text : List ℕ) (row : List Bool) → IsRow parts text row → ((k : ℕ) → k < length row → get_or row k false ≡ false) → (place : ℕ) → place ≤ length text → goes_on (Star ∷ parts) text place ≡ false
dead_row parts text row is none place within = star_gone parts text place within (λ later low high. sym (is.each later high) ∙ none later (omega (arith, is.places)))

pub one_star_more : (parts : List Part) (text : List ℕ) (places : List ℕ) (last : ℕ) → IsLastPlace parts text last → AreStarPlaces parts text (reverse places) → AreStarPlaces (Star ∷ parts) text (reverse (places ++ last ∷ []))
unfolding AreStarPlaces
one_star_more parts text places last is are = (last, reverse places, reverse-append places (last ∷ []), is, are)

-- a part that marks a placeholder

pub mark_row : (part : Part) (parts : List Part) (text : List ℕ) (row : List Bool) → is_single part ≡ false → (part ≡ Star → ⊥) → IsRow parts text row → IsRow (part ∷ parts) text row
unfolding greatest
mark_row Open parts text row plain star is = record { places = is.places; each = is.each }
mark_row Close parts text row plain star is = record { places = is.places; each = is.each }
mark_row Star parts text row plain star is = absurd (star refl)
mark_row (Char c) parts text row plain star is = absurd (false≢true (sym plain))
mark_row LastSlash parts text row plain star is = absurd (false≢true (sym plain))
mark_row Any parts text row plain star is = absurd (false≢true (sym plain))

pub mark_places : (part : Part) (parts : List Part) (text places : List ℕ) → is_single part ≡ false → (part ≡ Star → ⊥) → AreStarPlaces parts text places → AreStarPlaces (part ∷ parts) text places
unfolding AreStarPlaces
mark_places Open parts text places plain star are = are
mark_places Close parts text places plain star are = are
mark_places Star parts text places plain star are = absurd (star refl)
mark_places (Char c) parts text places plain star are = are
mark_places LastSlash parts text places plain star are = are
mark_places Any parts text places plain star are = are

pub single_places : (part : Part) (parts : List Part) (text places : List ℕ) → is_single part ≡ true → AreStarPlaces parts text places → AreStarPlaces (part ∷ parts) text places
unfolding AreStarPlaces
single_places (Char c) parts text places single are = are
single_places LastSlash parts text places single are = are
single_places Any parts text places single are = are
single_places Star parts text places single are = absurd (false≢true single)
single_places Open parts text places single are = are
single_places Close parts text places single are = are

pub star_more : (parts : List Part) (text : List ℕ) (before after : List Bool) (old new : List ℕ) (last : ℕ) → last < length before → get_or before last false ≡ true → ((k : ℕ) → last < k → k < length before → get_or before k false ≡ false)
    → length after ≡ length before → ((k : ℕ) → k < length before → get_or after k false ≡ nat_le k last) → new ≡ old ++ last ∷ []
    → IsRow parts text before → AreStarPlaces parts text (reverse old) → IsRow (Star ∷ parts) text after × AreStarPlaces (Star ∷ parts) text (reverse new)
star_more parts text before after old new last within here none same each pushed is are =
    let place = last_of_row parts text before last is within here none in
    (star_row parts text before after last place same each is, rw pushed (one_star_more parts text old last place are))

-- the row of no parts

not_ended : {c : ℕ} {more : List ℕ} (rest : List ℕ) → rest ≡ c ∷ more → is_some (greatest [] rest) ≡ false
unfolding greatest
not_ended rest e = rw e refl

pub no_parts_row : (text : List ℕ) (row : List Bool) (len : ℕ) → length row ≡ len + 1 → length text ≡ len → ((k : ℕ) → k < len → get_or row k false ≡ false) → get_or row len false ≡ true → IsRow [] text row
unfolding greatest
no_parts_row text row len size is none end = record {
  places = omega (arith, size, is);
  each = λ place within. ⊎_elim
      (λ (at_end : place ≡ length text). rw at_end (ap (λ k. get_or row k false) is ∙ end ∙ sym (ap (λ (l : List ℕ). is_some (greatest [] l)) (drop-length text))))
      (λ other. ⊎_elim
      (λ (lt : place < length text). none place (omega (arith, is)) ∙ sym (not_ended (drop place text) (drop-cons text place 0 lt)))
      (λ (gt : length text < place). absurd (omega arith)) other)
      (cases_order place (length text));
}

-- parts that can go on from no place stay so with others in front

dead_single : (part : Part) (parts : List Part) (text : List ℕ) → IsDead parts text → is_single part ≡ true → (place : ℕ) → place ≤ length text → goes_on (part ∷ parts) text place ≡ false
dead_single part parts text dead single place within = ⊎_elim
    (λ (at_end : place ≡ length text). rw at_end (single_goes part parts (drop (length text) text) single ∙ ap (λ (l : List ℕ). takes_first part l && is_some (greatest parts (drop 1 l))) (drop-length text)))
    (λ other. ⊎_elim
    (λ (lt : place < length text). single_place part parts text place single ∙ and_right (takes_first part (drop place text)) (goes_on parts text (place + 1)) (dead (place + 1) (omega arith)))
    (λ (gt : length text < place). absurd (omega arith)) other)
    (cases_order place (length text))

dead_one : (part : Part) (parts : List Part) (text : List ℕ) → IsDead parts text → IsDead (part ∷ parts) text
unfolding greatest
dead_one Star parts text dead place within = star_gone parts text place within (λ later low high. dead later high)
dead_one Open parts text dead place within = dead place within
dead_one Close parts text dead place within = dead place within
dead_one (Char c) parts text dead place within = dead_single (Char c) parts text dead refl place within
dead_one LastSlash parts text dead place within = dead_single LastSlash parts text dead refl place within
dead_one Any parts text dead place within = dead_single Any parts text dead refl place within

dead_front : (parts : List Part) (k : ℕ) (text : List ℕ) → IsDead (drop k parts) text → IsDead parts text
dead_front parts zero text dead = dead
dead_front [] (suc k) text dead = dead
dead_front (part ∷ parts) (suc k) text dead = dead_one part parts text (dead_front parts k text dead)

pub back_one : (parts : List Part) (i : ℕ) (d : Part) → 0 < i → i ≤ length parts → drop (i - 1) parts ≡ get_or parts (i - 1) d ∷ drop i parts
back_one parts i d some within =
    let next : suc (i - 1) ≡ i = omega arith in
    drop-cons parts (i - 1) d (omega arith) ∙ ap (λ n. get_or parts (i - 1) d ∷ drop n parts) next

pub dead_whole : (parts : List Part) (i : ℕ) (d : Part) (text : List ℕ) → 0 < i → i ≤ length parts → IsDead (get_or parts (i - 1) d ∷ drop i parts) text → greatest parts text ≡ None
dead_whole parts i d text some within dead =
    let here : IsDead (drop (i - 1) parts) text = rw (back_one parts i d some within) dead in
    not_some_none (greatest parts text) (dead_front parts (i - 1) text here 0 (omega arith))

pub more_parts : (parts : List Part) (i : ℕ) (d : Part) (text places : List ℕ) (row : List Bool) → 0 < i → i ≤ length parts → IsRow (get_or parts (i - 1) d ∷ drop i parts) text row × AreStarPlaces (get_or parts (i - 1) d ∷ drop i parts) text places
    → IsRow (drop (i - 1) parts) text row × AreStarPlaces (drop (i - 1) parts) text places
more_parts parts i d text places row some within both = rw (back_one parts i d some within) both

pub start_rows : (parts : List Part) (text : List ℕ) (row : List Bool) (places : List ℕ) → IsRow [] text row → places ≡ [] → IsRow (drop (length parts) parts) text row × AreStarPlaces (drop (length parts) parts) text (reverse places)
unfolding AreStarPlaces
start_rows parts text row places is e = rw (drop-length parts, e) (is, refl)

pub whole_row : (parts : List Part) (text : List ℕ) (row : List Bool) (i : ℕ) → i ≡ 0 → IsRow (drop i parts) text row → get_or row 0 false ≡ is_some (greatest parts text)
whole_row parts text row i e is = let at : IsRow parts text row = rw e at is in at.each 0 (omega arith)

pub whole_places : (parts : List Part) (text places : List ℕ) (i : ℕ) → i ≡ 0 → AreStarPlaces (drop i parts) text places → AreStarPlaces parts text places
whole_places parts text places i e are = rw e at are

pub none_whole : (parts : List Part) (text : List ℕ) (b : Bool) → b ≡ is_some (greatest parts text) → b ≡ false → greatest parts text ≡ None
none_whole parts text b e f = not_some_none (greatest parts text) (sym e ∙ f)
