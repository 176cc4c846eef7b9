-- What stands below an id and above it in an ascending list, and what an id more or less leaves of one.
use Rattle.std.proofs.Common.{◌≡◌, ℕ, ◌+◌, ◌<◌, ◌≤◌, Bool, true, false, cond, suc, zero, List, [], ◌∷◌, ◌++◌, length, get_or, take, drop, refl, sym, ap, ◌∙◌, subst, ⊎_elim, arith, ◌⊎◌, eq-eqb}
use Rattle.std.specs.Prelude.{All, nat_lt, ◌==◌, ◌||◌, Ok, Err}
use Rattle.std.specs.List.{filter, list_any, insert, remove}
use Rattle.std.specs.Ordering.{nat_cmp}
use Rattle.std.specs.List.Sorted.{IsBinarySearchResult, IsStrictlySortedBy}
use Rattle.std.proofs.lemmas.List.{append-nil, take-append-drop, get_or-take, get_or-drop, length-take, length-drop}
use Rattle.std.proofs.lemmas.List.Elements.{All-head, All-tail, All-cons, All-append, All-filter, All-from_get_or, All-weaker, filter-append, filter_passes}
use Rattle.std.proofs.lemmas.List.Sorted.{searched}
use Rattle.std.proofs.lemmas.Map.Keys.{sorted_from_strictly_increasing}
use Rattle.std.proofs.lemmas.Bool.{cases_eq, ne_eqb, false≢true, lt-ltb, le-ltb, ltb-true, or_right}
use Rattle.std.proofs.lemmas.List.Folds.{list_any_none, list_any-append}
use Rattle.std.proofs.Math.Seq.{split_at}
use Rattle.arti_ids.specs.Ids.{Ascends, lower, higher, with_id, without_id}

keep_all : {X : Type 0} (p : X → Bool) (xs : List X) → All (λ x. p x ≡ true) xs → filter p xs ≡ xs
keep_all p [] all = refl
keep_all p (x ∷ xs) all =
    ap (λ b. cond b (x ∷ filter p xs) (filter p xs)) (All-head (λ y. p y ≡ true) x xs all) ∙ ap (λ (l : List _). x ∷ l) (keep_all p xs (All-tail (λ y. p y ≡ true) x xs all))

keep_none : {X : Type 0} (p : X → Bool) (xs : List X) → All (λ x. p x ≡ false) xs → filter p xs ≡ []
keep_none p [] all = refl
keep_none p (x ∷ xs) all =
    ap (λ b. cond b (x ∷ filter p xs) (filter p xs)) (All-head (λ y. p y ≡ false) x xs all) ∙ keep_none p xs (All-tail (λ y. p y ≡ false) x xs all)

module _ {X : Type 0} (id_of : X → ℕ) (id : ℕ) where
  abbrev Under : X → Type 0
  Under x = id_of x < id

  abbrev Over : X → Type 0
  Over x = id < id_of x

  pub all_under : (xs : List X) → All Under xs → (lower id_of id xs ≡ xs) × (higher id_of id xs ≡ [])
  all_under xs all = (
    keep_all (λ x. nat_lt (id_of x) id) xs (All-weaker Under (λ x. nat_lt (id_of x) id ≡ true) (λ x h. lt-ltb (id_of x) id h) xs all),
    keep_none (λ x. nat_lt id (id_of x)) xs (All-weaker Under (λ x. nat_lt id (id_of x) ≡ false) (λ x h. le-ltb id (id_of x) (omega arith)) xs all),
  )

  pub all_over : (xs : List X) → All Over xs → (lower id_of id xs ≡ []) × (higher id_of id xs ≡ xs)
  all_over xs all = (
    keep_none (λ x. nat_lt (id_of x) id) xs (All-weaker Over (λ x. nat_lt (id_of x) id ≡ false) (λ x h. le-ltb (id_of x) id (omega arith)) xs all),
    keep_all (λ x. nat_lt id (id_of x)) xs (All-weaker Over (λ x. nat_lt id (id_of x) ≡ true) (λ x h. lt-ltb id (id_of x) h) xs all),
  )

  pub lower_under : (xs : List X) → All Under (lower id_of id xs)
  lower_under xs = All-weaker (λ x. nat_lt (id_of x) id ≡ true) Under (λ x h. ltb-true (id_of x) id h) (lower id_of id xs) (filter_passes (λ x. nat_lt (id_of x) id) xs)

  pub higher_over : (xs : List X) → All Over (higher id_of id xs)
  higher_over xs = All-weaker (λ x. nat_lt id (id_of x) ≡ true) Over (λ x h. ltb-true id (id_of x) h) (higher id_of id xs) (filter_passes (λ x. nat_lt id (id_of x)) xs)

  lower-append : (xs ys : List X) → lower id_of id (xs ++ ys) ≡ lower id_of id xs ++ lower id_of id ys
  lower-append xs ys = filter-append (λ x. nat_lt (id_of x) id) xs ys

  higher-append : (xs ys : List X) → higher id_of id (xs ++ ys) ≡ higher id_of id xs ++ higher id_of id ys
  higher-append xs ys = filter-append (λ x. nat_lt id (id_of x)) xs ys

  -- a list in two parts
  pub parts : (a b : List X) → All Under a → All Over b → (lower id_of id (a ++ b) ≡ a) × (higher id_of id (a ++ b) ≡ b)
  parts a b under over =
      let l = all_under a under in
      let h = all_over b over in (
        lower-append a b ∙ ap (λ (x : List X). x ++ lower id_of id b) l.0 ∙ ap (λ (x : List X). a ++ x) h.0 ∙ append-nil a,
        higher-append a b ∙ ap (λ (x : List X). x ++ higher id_of id b) l.1 ∙ h.1,
      )

  -- one with that id between them
  pub mid_cons : (x : X) (xs : List X) → id_of x ≡ id → (lower id_of id (x ∷ xs) ≡ lower id_of id xs) × (higher id_of id (x ∷ xs) ≡ higher id_of id xs)
  mid_cons x xs is = (
    ap (λ b. cond b (x ∷ lower id_of id xs) (lower id_of id xs)) (le-ltb (id_of x) id (omega (arith, is))),
    ap (λ b. cond b (x ∷ higher id_of id xs) (higher id_of id xs)) (le-ltb id (id_of x) (omega (arith, is))),
  )

  pub low_cons : (x : X) (xs : List X) → id_of x < id → (lower id_of id (x ∷ xs) ≡ x ∷ lower id_of id xs) × (higher id_of id (x ∷ xs) ≡ higher id_of id xs)
  low_cons x xs is = (
    ap (λ b. cond b (x ∷ lower id_of id xs) (lower id_of id xs)) (lt-ltb (id_of x) id is),
    ap (λ b. cond b (x ∷ higher id_of id xs) (higher id_of id xs)) (le-ltb id (id_of x) (omega arith)),
  )

  pub high_cons : (x : X) (xs : List X) → id < id_of x → (lower id_of id (x ∷ xs) ≡ lower id_of id xs) × (higher id_of id (x ∷ xs) ≡ x ∷ higher id_of id xs)
  high_cons x xs is = (
    ap (λ b. cond b (x ∷ lower id_of id xs) (lower id_of id xs)) (le-ltb (id_of x) id (omega arith)),
    ap (λ b. cond b (x ∷ higher id_of id xs) (higher id_of id xs)) (lt-ltb id (id_of x) is),
  )

  pub parts_mid : (a : List X) (x : X) (b : List X) → id_of x ≡ id → All Under a → All Over b → (lower id_of id (a ++ x ∷ b) ≡ a) × (higher id_of id (a ++ x ∷ b) ≡ b)
  parts_mid a x b is under over =
      let l = all_under a under in
      let h = all_over b over in
      let m = mid_cons x b is in (
        lower-append a (x ∷ b) ∙ ap (λ (y : List X). y ++ lower id_of id (x ∷ b)) l.0 ∙ ap (λ (y : List X). a ++ y) (m.0 ∙ h.0) ∙ append-nil a,
        higher-append a (x ∷ b) ∙ ap (λ (y : List X). y ++ higher id_of id (x ∷ b)) l.1 ∙ m.1 ∙ h.1,
      )

  ascends_by : (x : X) (xs : List X) (b : Bool) → All (λ y. id_of x < id_of y) xs → Ascends id_of xs → Ascends id_of (cond b (x ∷ xs) xs)
  ascends_by x xs true all up = (all, up)
  ascends_by x xs false all up = up

  -- the order of what is below, an element and what is above
  pub ascends_filter : (p : X → Bool) (xs : List X) → Ascends id_of xs → Ascends id_of (filter p xs)
  ascends_filter p [] up = tt
  ascends_filter p (x ∷ xs) up = ascends_by x (filter p xs) (p x) (All-filter p (λ y. id_of x < id_of y) xs up.0) (ascends_filter p xs up.1)

  pub ascends_join : (a b : List X) → Ascends id_of a → Ascends id_of b → All Under a → All Over b → Ascends id_of (a ++ b)
  ascends_join [] b up_a up_b under over = up_b
  ascends_join (x ∷ a) b up_a up_b under over =
      let low = All-head Under x a under in
      (All-append (λ y. id_of x < id_of y) a b up_a.0 (All-weaker Over (λ y. id_of x < id_of y) (λ y h. omega (arith, low, h)) b over), ascends_join a b up_a.1 up_b (All-tail Under x a under) over)

  pub ascends_mid : (a : List X) (m : X) (b : List X) → id_of m ≡ id → Ascends id_of a → Ascends id_of b → All Under a → All Over b → Ascends id_of (a ++ m ∷ b)
  ascends_mid [] m b is up_a up_b under over = (All-weaker Over (λ y. id_of m < id_of y) (λ y h. omega (arith, is, h)) b over, up_b)
  ascends_mid (x ∷ a) m b is up_a up_b under over =
      let low = All-head Under x a under in
      (All-append (λ y. id_of x < id_of y) a (m ∷ b) up_a.0 (All-cons (λ y. id_of x < id_of y) m b (omega (arith, low, is)) (All-weaker Over (λ y. id_of x < id_of y) (λ y h. omega (arith, low, h)) b over)), ascends_mid a m b is up_a.1 up_b (All-tail Under x a under) over)

abbrev pub Rising : List ℕ → Type 0
Rising xs = Ascends (λ x. x) xs

pub with_rises : (id : ℕ) (xs : List ℕ) → Rising xs → Rising (with_id id xs)
with_rises id xs up =
    ascends_mid (λ x. x) id (lower (λ x. x) id xs) id (higher (λ x. x) id xs) refl (ascends_filter (λ x. x) id (λ x. nat_lt x id) xs up) (ascends_filter (λ x. x) id (λ x. nat_lt id x) xs up) (lower_under (λ x. x) id xs) (higher_over (λ x. x) id xs)

pub without_rises : (id : ℕ) (xs : List ℕ) → Rising xs → Rising (without_id id xs)
without_rises id xs up =
    ascends_join (λ x. x) id (lower (λ x. x) id xs) (higher (λ x. x) id xs) (ascends_filter (λ x. x) id (λ x. nat_lt x id) xs up) (ascends_filter (λ x. x) id (λ x. nat_lt id x) xs up) (lower_under (λ x. x) id xs) (higher_over (λ x. x) id xs)

-- by places
pub below_later : (xs : List ℕ) (i j : ℕ) → Rising xs → i < j → j < length xs → get_or xs i 0 < get_or xs j 0
below_later [] i j up lt within = absurd (omega arith)
below_later (x ∷ xs) i zero up lt within = absurd (omega arith)
below_later (x ∷ xs) zero (suc j) up lt within = up.0 j 0 (omega arith)
below_later (x ∷ xs) (suc i) (suc j) up lt within = below_later xs i j up.1 (omega arith) (omega arith)

not_above_later : (xs : List ℕ) → Rising xs → (i j : ℕ) → i ≤ j → j < length xs → get_or xs i 0 ≤ get_or xs j 0
not_above_later xs up i j le within =
    ⊎_elim (λ (e : i ≡ j). let same : get_or xs i 0 ≡ get_or xs j 0 = ap (λ k. get_or xs k 0) e in omega (arith, same)) (λ (ne : i ≡ j → ⊥). let lt : i < j = omega (arith, ne) in let b = below_later xs i j up lt within in omega (arith, b)) (cases_eq i j)

pub none_here : (id : ℕ) (xs : List ℕ) → All (λ x. (x == id) ≡ false) xs → list_any (λ x. x == id) xs ≡ false
none_here id xs all = list_any_none (λ x. x == id) xs all

module _ (xs : List ℕ) (id : ℕ) (up : Rising xs) where
  none_among : (a b : List ℕ) → All (λ x. x < id) a → All (λ x. id < x) b → list_any (λ x. x == id) (a ++ b) ≡ false
  none_among a b under over =
      none_here id (a ++ b) (All-append (λ x. (x == id) ≡ false) a b (All-weaker (λ x. x < id) (λ x. (x == id) ≡ false) (λ x h. ne_eqb x id (λ e. omega (arith, e, h))) a under) (All-weaker (λ x. id < x) (λ x. (x == id) ≡ false) (λ x h. ne_eqb x id (λ e. omega (arith, e, h))) b over))

  take_under : (i : ℕ) → i ≤ length xs → ((k : ℕ) → k < i → get_or xs k 0 < id) → All (λ x. x < id) (take i xs)
  take_under i within h = All-from_get_or (λ x. x < id) (take i xs) 0 (λ k below.
      let under : k < i = omega (arith, below, length-take i xs) in
      subst (λ (x : ℕ). x < id) (sym (get_or-take i xs k 0 under)) (h k under))

  drop_over : (i : ℕ) → ((k : ℕ) → i ≤ k → k < length xs → id < get_or xs k 0) → All (λ x. id < x) (drop i xs)
  drop_over i h = All-from_get_or (λ x. id < x) (drop i xs) 0 (λ k below.
      let long = length-drop i xs in
      subst (λ (x : ℕ). id < x) (sym (get_or-drop i xs k 0)) (h (i + k) (omega arith) (omega (arith, below, long))))

  -- where a search ends without the id
  pub at_gap : (i : ℕ) → IsBinarySearchResult (λ y. nat_cmp y id) xs (Err i) → (insert xs i id ≡ with_id id xs) × (xs ≡ without_id id xs) × (list_any (λ x. x == id) xs ≡ false)
  at_gap i found =
      let s : (i ≤ length xs) × ((k : ℕ) → k < i → get_or xs k 0 < id) × ((k : ℕ) → i ≤ k → k < length xs → id < get_or xs k 0) = searched xs id (Err i) found (not_above_later xs up) in
      let under = take_under i s.0 s.1 in
      let over = drop_over i s.2 in
      let p = parts (λ x. x) id (take i xs) (drop i xs) under over in
      let whole : take i xs ++ drop i xs ≡ xs = take-append-drop i xs in
      let l : lower (λ x. x) id xs ≡ take i xs = ap (lower (λ x. x) id) (sym whole) ∙ p.0 in
      let h : higher (λ x. x) id xs ≡ drop i xs = ap (higher (λ x. x) id) (sym whole) ∙ p.1 in (
        sym (ap (λ (y : List ℕ). y ++ id ∷ higher (λ x. x) id xs) l ∙ ap (λ (y : List ℕ). take i xs ++ id ∷ y) h),
        sym whole ∙ sym (ap (λ (y : List ℕ). y ++ higher (λ x. x) id xs) l ∙ ap (λ (y : List ℕ). take i xs ++ y) h),
        ap (list_any (λ x. x == id)) (sym whole) ∙ none_among (take i xs) (drop i xs) under over,
      )

  -- where it finds it
  pub at_hit : (i : ℕ) → IsBinarySearchResult (λ y. nat_cmp y id) xs (Ok i) → (remove xs i ≡ without_id id xs) × (xs ≡ with_id id xs)
  at_hit i found =
      let s : (i < length xs) × (get_or xs i 0 ≡ id) = searched xs id (Ok i) found (not_above_later xs up) in
      let under = take_under i (omega (arith, s.0)) (λ k low. let b = below_later xs k i up low s.0 in omega (arith, b, s.1)) in
      let over = drop_over (suc i) (λ k high within. let b = below_later xs i k up (omega arith) within in omega (arith, b, s.1)) in
      let whole : xs ≡ take i xs ++ id ∷ drop (suc i) xs = split_at xs i 0 s.0 ∙ ap (λ b. take i xs ++ b ∷ drop (suc i) xs) s.1 in
      let p = parts_mid (λ x. x) id (take i xs) id (drop (suc i) xs) refl under over in
      let l : lower (λ x. x) id xs ≡ take i xs = ap (lower (λ x. x) id) whole ∙ p.0 in
      let h : higher (λ x. x) id xs ≡ drop (suc i) xs = ap (higher (λ x. x) id) whole ∙ p.1 in (
        sym (ap (λ (y : List ℕ). y ++ higher (λ x. x) id xs) l ∙ ap (λ (y : List ℕ). take i xs ++ y) h),
        whole ∙ sym (ap (λ (y : List ℕ). y ++ id ∷ higher (λ x. x) id xs) l ∙ ap (λ (y : List ℕ). take i xs ++ id ∷ y) h),
      )

-- what an addition leaves
pub added : (xs new : List ℕ) (id i capacity : ℕ) (ok : Bool) → Rising xs → IsBinarySearchResult (λ y. nat_cmp y id) xs (Err i) → (length xs < capacity) ⊎ (list_any (λ x. x == id) xs ≡ true)
    → (length xs < capacity → ok ≡ true) → new ≡ cond ok (insert xs i id) xs → (new ≡ with_id id xs) × Rising new
added xs new id i capacity ok up found room succeeds items =
    let gap = at_gap xs id up i found in
    let works : ok ≡ true = ⊎_elim succeeds (λ (has : list_any (λ x. x == id) xs ≡ true). absurd (false≢true (sym gap.2 ∙ has))) room in
    let e : new ≡ with_id id xs = items ∙ ap (λ b. cond b (insert xs i id) xs) works ∙ gap.0 in
    (e, subst Rising (sym e) (with_rises id xs up))

-- what a removal leaves
pub removed : (xs new : List ℕ) (id i : ℕ) → Rising xs → IsBinarySearchResult (λ y. nat_cmp y id) xs (Ok i) → new ≡ remove xs i → (new ≡ without_id id xs) × Rising new
removed xs new id i up found items =
    let e : new ≡ without_id id xs = items ∙ (at_hit xs id up i found).0 in
    (e, subst Rising (sym e) (without_rises id xs up))

-- the id is among them
pub has_with : (id : ℕ) (xs : List ℕ) → list_any (λ x. x == id) (with_id id xs) ≡ true
has_with id xs =
    list_any-append (λ x. x == id) (lower (λ x. x) id xs) (id ∷ higher (λ x. x) id xs) ∙ ap (λ b. list_any (λ x. x == id) (lower (λ x. x) id xs) || (b || list_any (λ x. x == id) (higher (λ x. x) id xs))) (eq-eqb id id refl) ∙ or_right (list_any (λ x. x == id) (lower (λ x. x) id xs)) true refl

pub sorted_ids : (xs : List ℕ) → Rising xs → IsStrictlySortedBy nat_cmp xs
sorted_ids xs up = sorted_from_strictly_increasing xs (λ k within. below_later xs k (k + 1) up (omega arith) within)

-- ---- with_id and without_id, one after the other

module _ (id : ℕ) (xs : List ℕ) where
  mid : (lower (λ x. x) id (with_id id xs) ≡ lower (λ x. x) id xs) × (higher (λ x. x) id (with_id id xs) ≡ higher (λ x. x) id xs)
  mid = parts_mid (λ x. x) id (lower (λ x. x) id xs) id (higher (λ x. x) id xs) refl (lower_under (λ x. x) id xs) (higher_over (λ x. x) id xs)

  gap : (lower (λ x. x) id (without_id id xs) ≡ lower (λ x. x) id xs) × (higher (λ x. x) id (without_id id xs) ≡ higher (λ x. x) id xs)
  gap = parts (λ x. x) id (lower (λ x. x) id xs) (higher (λ x. x) id xs) (lower_under (λ x. x) id xs) (higher_over (λ x. x) id xs)

  pub with_twice : with_id id (with_id id xs) ≡ with_id id xs
  with_twice = ap (λ (l : List ℕ). l ++ id ∷ higher (λ x. x) id (with_id id xs)) mid.0 ∙ ap (λ (l : List ℕ). lower (λ x. x) id xs ++ id ∷ l) mid.1

  pub without_twice : without_id id (without_id id xs) ≡ without_id id xs
  without_twice = ap (λ (l : List ℕ). l ++ higher (λ x. x) id (without_id id xs)) gap.0 ∙ ap (λ (l : List ℕ). lower (λ x. x) id xs ++ l) gap.1

  pub with_without : with_id id (without_id id xs) ≡ with_id id xs
  with_without = ap (λ (l : List ℕ). l ++ id ∷ higher (λ x. x) id (without_id id xs)) gap.0 ∙ ap (λ (l : List ℕ). lower (λ x. x) id xs ++ id ∷ l) gap.1

  pub without_with : without_id id (with_id id xs) ≡ without_id id xs
  without_with = ap (λ (l : List ℕ). l ++ higher (λ x. x) id (with_id id xs)) mid.0 ∙ ap (λ (l : List ℕ). lower (λ x. x) id xs ++ l) mid.1
