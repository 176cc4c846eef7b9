-- How far a body goes along with the form, and why no further.
use Rattle.std.proofs.Common.{◌≡◌, ◌≢◌, ℕ, ◌+◌, ◌<◌, ◌≤◌, ◌⊎◌, true, false, List, [], ◌∷◌, ◌++◌, length, get_or, take, drop, refl, sym, ap, ◌∙◌, subst, ⊎_elim, arith, IsUtf8}
use Rattle.std.proofs.lemmas.Str.{IsUtf8-from_ascii}
use Rattle.std.proofs.lemmas.Bool.Decides.{nat_tests}
use Rattle.std.proofs.lemmas.List.{append_assoc, append-nil, append_cancel_left, append_cancel_right, length-append, length-take-le, length-drop, take-append-drop, take_all, get_or_past, drop-drop, get_or-take, get_or-drop, get_or_append_left, get_or-append-add}
use Rattle.std.proofs.lemmas.Grind.{same_number_lists}
use Rattle.std.proofs.lemmas.Bool.{false≢true, cases_lt}
use Rattle.std.proofs.Math.Seq.{take-add}
use Rattle.arti_aql_parse.specs.Thin.{is_key_byte, IsThinKey, AsksFor, LeavesForm}
use Rattle.arti_aql_parse.specs.declared.thin.TheConstants.{BEFORE_KEY, AFTER_KEY}

-- two rows that agree so far have equal fronts
pub same_fronts : (a b : List ℕ) (n : ℕ) → n ≤ length a → n ≤ length b → ((i : ℕ) → i < n → get_or a i 0 ≡ get_or b i 0) → take n a ≡ take n b
same_fronts a b n in_a in_b same =
    let long = length-take-le n a in_a in
    same_number_lists (take n a) (take n b) (long ∙ sym (length-take-le n b in_b)) (λ k lt. let less : k < n = omega (arith, long, lt) in get_or-take n a k 0 less ∙ same k less ∙ sym (get_or-take n b k 0 less))

pub form : List ℕ → List ℕ
form key = BEFORE_KEY ++ key ++ AFTER_KEY

length-form : (key : List ℕ) → length (form key) ≡ 23 + length key
unfolding form
length-form key = omega (arith, length-append (BEFORE_KEY ++ key) AFTER_KEY, length-append BEFORE_KEY key)

asks_long : (xs key : List ℕ) → AsksFor xs key → length xs ≡ 23 + length key
unfolding form
asks_long xs key asks = ap length asks.whole ∙ length-form key

form_lead : (key : List ℕ) (i : ℕ) → i < 20 → get_or (form key) i 0 ≡ get_or BEFORE_KEY i 0
unfolding form
form_lead key i lt = get_or_append_left (BEFORE_KEY ++ key) AFTER_KEY 0 i (omega (arith, length-append BEFORE_KEY key)) ∙ get_or_append_left BEFORE_KEY key 0 i lt

form_key : (key : List ℕ) (i : ℕ) → i < length key → get_or (form key) (20 + i) 0 ≡ get_or key i 0
unfolding form
form_key key i lt = get_or_append_left (BEFORE_KEY ++ key) AFTER_KEY 0 (20 + i) (omega (arith, length-append BEFORE_KEY key)) ∙ get_or-append-add BEFORE_KEY key i 0

form_tail : (key : List ℕ) (i : ℕ) → get_or (form key) (20 + length key + i) 0 ≡ get_or AFTER_KEY i 0
unfolding form
form_tail key i =
    let place : 20 + length key + i ≡ length (BEFORE_KEY ++ key) + i = omega (arith, length-append BEFORE_KEY key) in
    ap (λ n. get_or (form key) n 0) place ∙ get_or-append-add (BEFORE_KEY ++ key) AFTER_KEY i 0

-- a body whose front of n bytes begins a body of the form with this key
pub record Begins (d : List ℕ) (n : ℕ) (key : List ℕ) : Type 0 where
  pub within : n ≤ length d
  pub name : IsThinKey key
  pub short : n ≤ 23 + length key
  pub same : (i : ℕ) → i < n → get_or d i 0 ≡ get_or (form key) i 0

pub begins_at : (d : List ℕ) (n : ℕ) (key more : List ℕ) → n ≤ length d → AsksFor (take n d ++ more) key → Begins d n key
unfolding form
begins_at d n key more within asks =
    let long = length-take-le n d within in
    record {
      within = within;
      name = asks.name;
      short = omega (arith, ap length asks.whole, length-append (take n d) more, length-form key);
      same = λ i lt. sym (get_or-take n d i 0 lt) ∙ sym (get_or_append_left (take n d) more 0 i (omega (arith, long))) ∙ ap (λ l. get_or l i 0) asks.whole;
    }

begins_whole : (d key : List ℕ) → AsksFor d key → Begins d (length d) key
begins_whole d key asks = begins_at d (length d) key [] (omega arith) (record { name = asks.name; whole = append-nil (take (length d) d) ∙ take_all (length d) d (omega arith) ∙ asks.whole })

-- the shortest key
letter : IsThinKey (97 ∷ [])
letter = record {
  some = omega arith;
  few = omega arith;
  each = λ i lt. let first : i ≡ 0 = omega arith in subst (λ (k : ℕ). is_key_byte (get_or (97 ∷ []) k 0) ≡ true) (sym first) refl;
}

module _ (d : List ℕ) where
  -- the form is left in the part before the key
  pub leaves_lead : (lead : ℕ) → lead < 20 → lead ≤ length d → ((i : ℕ) → i < lead → get_or d i 0 ≡ get_or BEFORE_KEY i 0) → (lead < length d → get_or d lead 0 ≢ get_or BEFORE_KEY lead 0) → LeavesForm d lead
  leaves_lead lead few within same differs =
      let key : List ℕ = 97 ∷ [] in
      let more = drop lead BEFORE_KEY ++ key ++ AFTER_KEY in
      let front = same_fronts d BEFORE_KEY lead within (omega arith) same in
      let whole : take lead d ++ more ≡ BEFORE_KEY ++ key ++ AFTER_KEY = ap (λ l. l ++ more) front ∙ sym (append_assoc (take lead BEFORE_KEY) (drop lead BEFORE_KEY ++ key) AFTER_KEY) ∙ ap (λ l. l ++ AFTER_KEY) (sym (append_assoc (take lead BEFORE_KEY) (drop lead BEFORE_KEY) key)) ∙ ap (λ l. l ++ key ++ AFTER_KEY) (take-append-drop lead BEFORE_KEY) in
      let never : (n : ℕ) (k : List ℕ) → lead < n → Begins d n k → ⊥ = λ n k lt b. differs (omega (arith, b.within)) (b.same lead lt ∙ form_lead k lead few) in
      record {
        within = within;
        begins = (key, more, record { name = letter; whole = whole });
        longest = λ n lt inside b. never n b.0 lt (begins_at d n b.0 b.1 inside b.2);
        none = λ k asks. never (length d) k (omega (arith, asks_long d k asks)) (begins_whole d k asks);
      }

  module _ (lead : 20 ≤ length d) (same : (i : ℕ) → i < 20 → get_or d i 0 ≡ get_or BEFORE_KEY i 0) (len : ℕ) (inside : len ≤ length (drop 20 d)) (few : len ≤ 64) (each : (i : ℕ) → i < len → is_key_byte (get_or (drop 20 d) i 0) ≡ true)
      (stops : len < length (drop 20 d) → len < 64 → is_key_byte (get_or (drop 20 d) len 0) ≡ false) where
    key_byte : (i : ℕ) → get_or (drop 20 d) i 0 ≡ get_or d (20 + i) 0
    key_byte i = get_or-drop 20 d i 0

    -- a key of the form that the body goes along with has these bytes, no fewer
    not_shorter : (n : ℕ) (k : List ℕ) → Begins d n k → length k < len → 20 + length k < n → ⊥
    not_shorter n k b less lt =
        let place : 20 + length k + 0 ≡ 20 + length k = omega arith in
        let quote : get_or d (20 + length k) 0 ≡ 34 = b.same (20 + length k) lt ∙ ap (λ m. get_or (form k) m 0) (sym place) ∙ form_tail k 0 in
        false≢true (sym (ap is_key_byte quote) ∙ ap is_key_byte (sym (key_byte (length k))) ∙ each (length k) less)

    -- and no more
    not_longer : (n : ℕ) (k : List ℕ) → Begins d n k → len < length k → 20 + len < n → ⊥
    not_longer n k b more lt =
        let byte : get_or d (20 + len) 0 ≡ get_or k len 0 = b.same (20 + len) lt ∙ form_key k len more in
        false≢true (sym (stops (omega (arith, b.within, length-drop 20 d)) (omega (arith, more, b.name.few))) ∙ ap is_key_byte (key_byte len ∙ byte) ∙ b.name.each len more)

    same_len : (n : ℕ) (k : List ℕ) → Begins d n k → 20 + len < n → length k ≡ len
    same_len n k b lt =
        ⊎_elim (λ less. absurd (not_shorter n k b less (omega arith))) (λ more. ⊎_elim (λ longer. absurd (not_longer n k b longer lt)) (λ same. omega arith) (cases_lt len (length k))) (cases_lt (length k) len)

    front : take 20 d ≡ BEFORE_KEY
    front = same_fronts d BEFORE_KEY 20 lead (omega arith) same

    -- no key stands there
    pub leaves_key : len ≡ 0 → LeavesForm d 20
    leaves_key none =
        let never : (n : ℕ) (k : List ℕ) → 20 < n → Begins d n k → ⊥ = λ n k lt b. omega (arith, b.name.some, same_len n k b (omega arith)) in
        record {
          within = lead;
          begins = (97 ∷ [], (97 ∷ []) ++ AFTER_KEY, record { name = letter; whole = ap (λ l. l ++ ((97 ∷ []) ++ AFTER_KEY)) front ∙ sym (append_assoc BEFORE_KEY (97 ∷ []) AFTER_KEY) });
          longest = λ n lt within b. never n b.0 lt (begins_at d n b.0 b.1 within b.2);
          none = λ k asks. never (length d) k (omega (arith, asks_long d k asks)) (begins_whole d k asks);
        }

    key : List ℕ
    key = take len (drop 20 d)

    key_long : length key ≡ len
    unfolding key
    key_long = length-take-le len (drop 20 d) inside

    key_is : 0 < len → IsThinKey key
    unfolding key
    key_is some = record {
      some = omega (arith, key_long);
      few = omega (arith, key_long);
      each = λ i lt. let less : i < len = omega (arith, key_long, lt) in ap is_key_byte (get_or-take len (drop 20 d) i 0 less) ∙ each i less;
    }

    -- the body up to a place behind the key
    cut_at : (close : ℕ) (tail : List ℕ) → tail ≡ drop len (drop 20 d) → close ≤ length tail → take (20 + len + close) d ≡ BEFORE_KEY ++ key ++ take close tail
    unfolding key
    cut_at close tail is within =
        take-add (20 + len) close d ∙ ap (λ l. l ++ take close (drop (20 + len) d)) (take-add 20 len d ∙ ap (λ l. l ++ take len (drop 20 d)) front)
        ∙ ap (λ l. BEFORE_KEY ++ take len (drop 20 d) ++ take close l) (sym (is ∙ drop-drop len 20 d))

    -- the form is left behind the key
    pub leaves_tail : (close : ℕ) (tail : List ℕ) → 0 < len → tail ≡ drop len (drop 20 d) → close ≤ 3 → close ≤ length tail → ((i : ℕ) → i < close → get_or tail i 0 ≡ get_or AFTER_KEY i 0)
        → (close < length tail → close < 3 → get_or tail close 0 ≢ get_or AFTER_KEY close 0) → (close < 3) ⊎ (close < length tail) → LeavesForm d (20 + len + close)
    leaves_tail close tail some is short within agree differs left =
        let at = 20 + len + close in
        let tail_long : length tail + 20 + len ≡ length d = omega (arith, ap length is, length-drop len (drop 20 d), length-drop 20 d, lead, inside) in
        let byte : get_or tail close 0 ≡ get_or d at 0 = ap (λ l. get_or l close 0) (is ∙ drop-drop len 20 d) ∙ get_or-drop (20 + len) d close 0 in
        let never : (n : ℕ) (k : List ℕ) → at < n → Begins d n k → ⊥ = λ n k lt b.
        let same_key = same_len n k b (omega arith) in
        ⊎_elim
        (λ part. let place : 20 + length k + close ≡ at = omega (arith, same_key) in differs (omega (arith, b.within, tail_long)) part (byte ∙ b.same at lt ∙ ap (λ m. get_or (form k) m 0) (sym place) ∙ form_tail k close))
        (λ whole. omega (arith, b.short, same_key))
        (cases_lt close 3) in
        let none : (k : List ℕ) → AsksFor d k → ⊥ = λ k asks.
        let b = begins_whole d k asks in
        let long = asks_long d k asks in
        ⊎_elim (λ more. never (length d) k more b)
        (λ last.
        let part : close < 3 = ⊎_elim (λ less. less) (λ less. omega (arith, tail_long)) left in
        ⊎_elim (λ first. let empty : close ≡ 0 = omega arith in not_shorter (length d) k b (omega arith) (omega arith)) (λ some_tail. omega (arith, same_len (length d) k b (omega (arith, tail_long)))) (cases_lt close 1))
        (cases_lt at (length d)) in
        let closing = same_fronts tail AFTER_KEY close within (omega arith) agree in
        let whole : take at d ++ drop close AFTER_KEY ≡ BEFORE_KEY ++ key ++ AFTER_KEY =
        ap (λ l. l ++ drop close AFTER_KEY) (cut_at close tail is within) ∙ append_assoc (BEFORE_KEY ++ key) (take close tail) (drop close AFTER_KEY)
        ∙ ap (λ l. BEFORE_KEY ++ key ++ (l ++ drop close AFTER_KEY)) closing ∙ ap (λ l. BEFORE_KEY ++ key ++ l) (take-append-drop close AFTER_KEY) in
        record {
          within = omega (arith, tail_long);
          begins = (key, drop close AFTER_KEY, record { name = key_is some; whole = whole });
          longest = λ n lt inside b. never n b.0 lt (begins_at d n b.0 b.1 inside b.2);
          none = none;
        }

    -- a body of the form
    pub asks : (close : ℕ) (tail : List ℕ) → 0 < len → tail ≡ drop len (drop 20 d) → 3 ≤ close → close ≤ length tail → length tail ≤ close → ((i : ℕ) → i < close → get_or tail i 0 ≡ get_or AFTER_KEY i 0) → close ≤ 3 → AsksFor d (take len (drop 20 d))
    unfolding key
    asks close tail some is full within ends agree short =
        let tail_long : length tail + 20 + len ≡ length d = omega (arith, ap length is, length-drop len (drop 20 d), length-drop 20 d, lead, inside) in
        let closing : take close tail ≡ AFTER_KEY = same_fronts tail AFTER_KEY close within short agree ∙ take_all close AFTER_KEY full in
        record {
          name = key_is some;
          whole = sym (take_all (20 + len + close) d (omega (arith, tail_long))) ∙ cut_at close tail is within ∙ ap (λ l. BEFORE_KEY ++ take len (drop 20 d) ++ l) closing;
        }

-- two bodies of the form that are equal have equal keys
pub one_key : (d a b : List ℕ) → AsksFor d a → AsksFor d b → a ≡ b
one_key d a b first second = append_cancel_left BEFORE_KEY a b (append_cancel_right (BEFORE_KEY ++ a) (BEFORE_KEY ++ b) AFTER_KEY (sym first.whole ∙ second.whole))

-- the characters of a key are ASCII
key_ascii : (b : ℕ) → is_key_byte b ≡ true → b < 128
key_ascii b e = grind (arith, nat_tests)

pub key_utf8 : (key : List ℕ) → IsThinKey key → IsUtf8 key
key_utf8 key name = IsUtf8-from_ascii key (λ i.
    ⊎_elim (λ lt. key_ascii (get_or key i 0) (name.each i lt))
    (λ ge. subst (λ (b : ℕ). b < 128) (sym (get_or_past key i 0 ge)) (omega arith))
    (cases_lt i (length key)))
