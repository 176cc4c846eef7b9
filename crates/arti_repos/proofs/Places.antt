-- Where definitions stand among others, and what is put there.
use Rattle.std.proofs.Common.{◌≡◌, ℕ, ◌+◌, ◌<◌, ◌≤◌, zero, suc, Bool, true, false, cond, List, [], ◌∷◌, ◌++◌, length, get_or, take, drop, refl, sym, ap, subst, ◌∙◌, arith, Ordering, Less, Equal, Greater, ⊎_elim, length-take, length-drop, set, drop-cons, add-one, Some, None}
use Rattle.std.specs.Prelude.{All, filter, IfOk, IfErr, Result, Ok, Err}
use Rattle.std.specs.List.{AllPairs, HoldsAt, insert, find}
use Rattle.std.specs.List.Sorted.{IsNonDecreasingBy, IsPartitionPoint, IsBinarySearchResult, IsSearchInRange}
use Rattle.std.specs.Ordering.{is_lt, ordering_index}
use Rattle.std.proofs.lemmas.Cmp.{tied_back, alike_right}
use Rattle.std.proofs.lemmas.Bool.{cases_eq}
use Rattle.std.proofs.lemmas.List.{get_or-take, get_or-drop, take-append-drop, append-nil, set_split}
use Rattle.std.proofs.lemmas.List.Elements.{All-head, All-tail, All-cons, All-append, All-weaker, filter-append, filter_passes}
use Rattle.std.proofs.lemmas.List.Kept.{AllPairs-cons, AllPairs-filter}
use Rattle.std.specs.Ordering.{nat_cmp}
use Rattle.std.specs.Cmp.Lexicographic.{slice_cmp}
use Rattle.arti_rows.specs.declared.rows.RepoDef.{RepoDef}
use Rattle.arti_repos.specs.Definitions.{InOrder, definition, has_key, put_definition}
use Rattle.arti_repos.specs.Places.{IsPlace, IsGap}
use Rattle.arti_repos.proofs.Keys.{total, to_greater, to_less, same_at_equal, other_at_less, other_at_greater}

-- ---- what is put between others

keeps : (p : RepoDef → Bool) (xs : List RepoDef) → All (λ row. p row ≡ true) xs → filter p xs ≡ xs
keeps p [] all = refl
keeps p (x ∷ xs) all =
    ap (λ b. cond b (x ∷ filter p xs) (filter p xs)) (All-head (λ row. p row ≡ true) x xs all) ∙ ap (λ l. x ∷ l) (keeps p xs (All-tail (λ row. p row ≡ true) x xs all))

drops : (p : RepoDef → Bool) (xs : List RepoDef) → All (λ row. p row ≡ false) xs → filter p xs ≡ []
drops p [] all = refl
drops p (x ∷ xs) all =
    ap (λ b. cond b (x ∷ filter p xs) (filter p xs)) (All-head (λ row. p row ≡ false) x xs all) ∙ drops p xs (All-tail (λ row. p row ≡ false) x xs all)

parts : (fa fm fb a : List RepoDef) → fa ≡ a → fm ≡ [] → fb ≡ [] → fa ++ (fm ++ fb) ≡ a
parts fa fm fb a ea em eb = ap (λ l. l ++ (fm ++ fb)) ea ∙ ap (λ l. a ++ (l ++ fb)) em ∙ ap (λ l. a ++ l) eb ∙ append-nil a

last : (fa fm fb b : List RepoDef) → fa ≡ [] → fm ≡ [] → fb ≡ b → fa ++ (fm ++ fb) ≡ b
last fa fm fb b ea em eb = ap (λ l. l ++ (fm ++ fb)) ea ∙ ap (λ l. l ++ fb) em ∙ eb

-- the one of a list
one : (P : RepoDef → Type 0) (x : RepoDef) → P x → (k : ℕ) (d : RepoDef) → k < 1 → P (get_or (x ∷ []) k d)
one P x p zero d lt = p
one P x p (suc k) d lt = absurd (omega arith)

module _ (new : RepoDef) where
  abbrev its : List ℕ
  its = new.key

  abbrev less : RepoDef → Bool
  less row = is_lt (slice_cmp nat_cmp row.key its)

  abbrev more : RepoDef → Bool
  more row = is_lt (slice_cmp nat_cmp its row.key)

  -- three parts: those before, those of the same its, those behind
  three : (p : RepoDef → Bool) (a m b : List RepoDef) → filter p (a ++ (m ++ b)) ≡ filter p a ++ (filter p m ++ filter p b)
  three p a m b = filter-append p a (m ++ b) ∙ ap (λ l. filter p a ++ l) (filter-append p m b)

  pub put_between : (a m b : List RepoDef) → All (λ (row : RepoDef). slice_cmp nat_cmp row.key its ≡ Less) a → All (λ (row : RepoDef). slice_cmp nat_cmp row.key its ≡ Equal) m
      → All (λ (row : RepoDef). slice_cmp nat_cmp its row.key ≡ Less) b → put_definition new (a ++ (m ++ b)) ≡ a ++ new ∷ b
  put_between a m b before here behind =
      let la = keeps less a (λ k d lt. ap is_lt (before k d lt)) in
      let lm = drops less m (λ k d lt. ap is_lt (here k d lt)) in
      let lb = drops less b (λ k d lt. ap is_lt (to_greater its _ (behind k d lt))) in
      let ma = drops more a (λ k d lt. ap is_lt (to_greater _ its (before k d lt))) in
      let mm = drops more m (λ k d lt. ap is_lt (tied_back total _ its (here k d lt))) in
      let mb = keeps more b (λ k d lt. ap is_lt (behind k d lt)) in
      let front : filter less (a ++ (m ++ b)) ≡ a = three less a m b ∙ parts _ _ _ a la lm lb in
      let back : filter more (a ++ (m ++ b)) ≡ b = three more a m b ∙ last _ _ _ b ma mm mb in
      ap (λ l. l ++ new ∷ filter more (a ++ (m ++ b))) front ∙ ap (λ l. a ++ new ∷ l) back

  -- a row comes into a gap
  pub put_in_gap : (rows : List RepoDef) (at : ℕ) → IsGap rows its at → insert rows at new ≡ put_definition new rows
  put_in_gap rows at gap =
      sym (put_between (take at rows) [] (drop at rows) gap.before (λ k d lt. absurd (omega arith)) gap.behind)
      ∙ ap (λ l. put_definition new l) (take-append-drop at rows)

  -- a row takes the place of another
  pub put_in_place : (rows : List RepoDef) (at : ℕ) → IsPlace rows its at → set rows at new ≡ put_definition new rows
  put_in_place rows at place =
      let old : RepoDef = get_or rows at new in
      let whole : take at rows ++ old ∷ drop (suc at) rows ≡ rows = ap (λ l. take at rows ++ l) (sym (drop-cons rows at new place.within)) ∙ take-append-drop at rows in
      let behind : All (λ (row : RepoDef). slice_cmp nat_cmp its row.key ≡ Less) (drop (suc at) rows) = subst (λ (n : ℕ). All (λ (row : RepoDef). slice_cmp nat_cmp its row.key ≡ Less) (drop n rows)) (add-one at) place.behind in
      set_split rows at new place.within
      ∙ sym (put_between (take at rows) (old ∷ []) (drop (suc at) rows) place.before (one (λ (row : RepoDef). slice_cmp nat_cmp row.key its ≡ Equal) old (place.here new)) behind)
      ∙ ap (λ l. put_definition new l) whole

-- ---- where a search finds a key

if_found_by : {P : ℕ → Type 0} (r : Result ℕ ℕ) → ((at : ℕ) → r ≡ Ok at → P at) → IfOk r P
if_found_by (Ok at) f = f at refl
if_found_by (Err at) f = tt

if_missing_by : {P : ℕ → Type 0} (r : Result ℕ ℕ) → ((at : ℕ) → r ≡ Err at → P at) → IfErr r P
if_missing_by (Ok at) f = tt
if_missing_by (Err at) f = f at refl

never : Equal ≡ Less → ⊥
never e = cc

other : Greater ≡ Less → ⊥
other e = cc

-- what is found of one key goes up
index_by : (o p : Ordering) → (p ≡ Less → o ≡ Less) → (p ≡ Equal → o ≡ Less) → ordering_index o ≤ ordering_index p
index_by Less p f g = omega arith
index_by Equal Less f g = absurd (never (f refl))
index_by Equal Equal f g = omega arith
index_by Equal Greater f g = omega arith
index_by Greater Less f g = absurd (other (f refl))
index_by Greater Equal f g = absurd (other (g refl))
index_by Greater Greater f g = omega arith

module _ (rows : List RepoDef) (order : InOrder rows) where
  pub rises : (key : List ℕ) → IsNonDecreasingBy (λ (row : RepoDef). ordering_index (slice_cmp nat_cmp row.key key)) rows
  rises key i j d le within =
      ⊎_elim (λ same. omega (arith, ap (λ k. ordering_index (slice_cmp nat_cmp (get_or rows k d).key key)) same))
      (λ lt. let first = (get_or rows i d).key in let second = (get_or rows j d).key in let step = order i j d (omega arith) within in
      index_by (slice_cmp nat_cmp first key) (slice_cmp nat_cmp second key) (λ e. total.trans first second key step e) (λ e. sym (alike_right total second key first e) ∙ step))
      (cases_eq i j)

  module _ (key : List ℕ) (r : Result ℕ ℕ) (range : IsSearchInRange r (length rows)) (result : IsBinarySearchResult (λ (row : RepoDef). slice_cmp nat_cmp row.key key) rows r) where
    pub found : (at : ℕ) → r ≡ Ok at → IsPlace rows key at
    found at is =
        let within : at < length rows = subst (λ (q : Result ℕ ℕ). IsSearchInRange q (length rows)) is range in
        let here : HoldsAt (λ (row : RepoDef). slice_cmp nat_cmp row.key key ≡ Equal) rows at = subst (λ (q : Result ℕ ℕ). IsBinarySearchResult (λ (row : RepoDef). slice_cmp nat_cmp row.key key) rows q) is result in
        record {
          within = within;
          before = λ k d lt.
              let short : k < at = omega (arith, length-take at rows) in
              subst (λ (row : RepoDef). slice_cmp nat_cmp row.key key ≡ Less) (sym (get_or-take at rows k d short))
              (sym (alike_right total (get_or rows at d).key key (get_or rows k d).key (here d)) ∙ order k at d short within);
          here = here;
          behind = λ k d lt.
              let inside : (at + 1) + k < length rows = omega (arith, lt, length-drop (at + 1) rows) in
              subst (λ (row : RepoDef). slice_cmp nat_cmp key row.key ≡ Less) (sym (get_or-drop (at + 1) rows k d))
              (sym (total.congr (get_or rows at d).key key (get_or rows ((at + 1) + k) d).key (here d)) ∙ order at ((at + 1) + k) d (omega arith) inside);
        }

    pub missing : (at : ℕ) → r ≡ Err at → IsGap rows key at
    missing at is =
        let within : at ≤ length rows = subst (λ (q : Result ℕ ℕ). IsSearchInRange q (length rows)) is range in
        let point : IsPartitionPoint (λ (row : RepoDef). slice_cmp nat_cmp row.key key ≡ Less) (λ (row : RepoDef). slice_cmp nat_cmp row.key key ≡ Greater) rows at =
        subst (λ (q : Result ℕ ℕ). IsBinarySearchResult (λ (row : RepoDef). slice_cmp nat_cmp row.key key) rows q) is result (rises key) in
        record {
          within = within;
          before = λ k d lt.
              let short : k < at = omega (arith, length-take at rows) in
              subst (λ (row : RepoDef). slice_cmp nat_cmp row.key key ≡ Less) (sym (get_or-take at rows k d short)) (point.0 k d (omega arith) short);
          behind = λ k d lt.
              let inside : at + k < length rows = omega (arith, lt, length-drop at rows) in
              subst (λ (row : RepoDef). slice_cmp nat_cmp key row.key ≡ Less) (sym (get_or-drop at rows k d)) (to_less _ key (point.1 (at + k) d (omega arith) inside));
        }

    pub if_found : IfOk r (IsPlace rows key)
    if_found = if_found_by r found

    pub if_missing : IfErr r (IsGap rows key)
    if_missing = if_missing_by r missing

-- ---- what is found at a key

passes_over : (key : List ℕ) (xs ys : List RepoDef) → All (λ (row : RepoDef). slice_cmp nat_cmp row.key key ≡ Less) xs → definition (xs ++ ys) key ≡ definition ys key
passes_over key [] ys all = refl
passes_over key (x ∷ xs) ys all =
    ap (λ b. cond b (Some x) (find (has_key key) (xs ++ ys))) (other_at_less x.key key (All-head (λ (row : RepoDef). slice_cmp nat_cmp row.key key ≡ Less) x xs all))
    ∙ passes_over key xs ys (All-tail (λ (row : RepoDef). slice_cmp nat_cmp row.key key ≡ Less) x xs all)

finds_none : (key : List ℕ) (xs : List RepoDef) → All (λ (row : RepoDef). slice_cmp nat_cmp key row.key ≡ Less) xs → definition xs key ≡ None
finds_none key [] all = refl
finds_none key (x ∷ xs) all =
    ap (λ b. cond b (Some x) (find (has_key key) xs)) (other_at_greater x.key key (All-head (λ (row : RepoDef). slice_cmp nat_cmp key row.key ≡ Less) x xs all))
    ∙ finds_none key xs (All-tail (λ (row : RepoDef). slice_cmp nat_cmp key row.key ≡ Less) x xs all)

pub at_place : (rows : List RepoDef) (key : List ℕ) (at : ℕ) (d : RepoDef) → IsPlace rows key at → definition rows key ≡ Some (get_or rows at d)
at_place rows key at d place =
    let whole : rows ≡ take at rows ++ get_or rows at d ∷ drop (suc at) rows = sym (take-append-drop at rows) ∙ ap (λ l. take at rows ++ l) (drop-cons rows at d place.within) in
    ap (λ l. definition l key) whole ∙ passes_over key (take at rows) (get_or rows at d ∷ drop (suc at) rows) place.before
    ∙ ap (λ b. cond b (Some (get_or rows at d)) (definition (drop (suc at) rows) key)) (same_at_equal (get_or rows at d).key key (place.here d))

pub at_gap : (rows : List RepoDef) (key : List ℕ) (at : ℕ) → IsGap rows key at → definition rows key ≡ None
at_gap rows key at gap =
    ap (λ l. definition l key) (sym (take-append-drop at rows)) ∙ passes_over key (take at rows) (drop at rows) gap.before ∙ finds_none key (drop at rows) gap.behind

-- ---- the order after a put

pub less_by : (o : Ordering) → is_lt o ≡ true → o ≡ Less
less_by Less e = refl
less_by Equal e = cc
less_by Greater e = cc

abbrev Before : RepoDef → RepoDef → Type 0
Before a b = slice_cmp nat_cmp a.key b.key ≡ Less

pub heads : (x : RepoDef) (xs : List RepoDef) → AllPairs Before (x ∷ xs) → All (Before x) xs
heads x xs p k d lt = p zero (suc k) d (omega arith) (omega arith)

pub tails : (x : RepoDef) (xs : List RepoDef) → AllPairs Before (x ∷ xs) → AllPairs Before xs
tails x xs p i j d lt within = p (suc i) (suc j) d (omega arith) (omega arith)

pairs_append : (xs ys : List RepoDef) → All (λ x. All (Before x) ys) xs → AllPairs Before xs → AllPairs Before ys → AllPairs Before (xs ++ ys)
pairs_append [] ys across p q = q
pairs_append (x ∷ xs) ys across p q =
    AllPairs-cons Before x (xs ++ ys) (All-append (Before x) xs ys (heads x xs p) (All-head (λ y. All (Before y) ys) x xs across))
    (pairs_append xs ys (All-tail (λ y. All (Before y) ys) x xs across) (tails x xs p) q)

pub put_in_order : (new : RepoDef) (rows : List RepoDef) → InOrder rows → InOrder (put_definition new rows)
put_in_order new rows order =
    let less : RepoDef → Bool = λ row. is_lt (slice_cmp nat_cmp row.key new.key) in
    let more : RepoDef → Bool = λ row. is_lt (slice_cmp nat_cmp new.key row.key) in
    let before : All (λ x. Before x new) (filter less rows) = All-weaker (λ x. less x ≡ true) (λ x. Before x new) (λ x e. less_by (slice_cmp nat_cmp x.key new.key) e) (filter less rows) (filter_passes less rows) in
    let behind : All (λ y. Before new y) (filter more rows) = All-weaker (λ y. more y ≡ true) (λ y. Before new y) (λ y e. less_by (slice_cmp nat_cmp new.key y.key) e) (filter more rows) (filter_passes more rows) in
    pairs_append (filter less rows) (new ∷ filter more rows)
    (All-weaker (λ x. Before x new) (λ x. All (Before x) (new ∷ filter more rows))
    (λ x e. All-cons (Before x) new (filter more rows) e (All-weaker (λ y. Before new y) (Before x) (λ y f. total.trans x.key new.key y.key e f) (filter more rows) behind))
    (filter less rows) before)
    (AllPairs-filter Before less rows order)
    (AllPairs-cons Before new (filter more rows) behind (AllPairs-filter Before more rows order))
