-- What is found in slots by the ids in the default order.
use Rattle.std.proofs.Common.{◌≡◌, ℕ, ◌+◌, ◌<◌, ◌≤◌, zero, suc, Bool, true, false, List, [], ◌∷◌, length, get_or, Option, Some, None, option_map, refl, sym, ap, ◌∙◌, subst, arith, Less, Equal, Greater}
use Rattle.std.specs.Prelude.{IsSome, All}
use Rattle.std.specs.List.{count_by}
use Rattle.std.specs.Ordering.{is_lt}
use Rattle.std.proofs.lemmas.List.{get_or-map, length-map}
use Rattle.arti_rows.specs.Key.{Key, key_cmp, same_key}
use Rattle.std.proofs.Common.{⊎_elim, Bor}
use Rattle.std.proofs.lemmas.Bool.{cases_lt}
use Rattle.std.proofs.lemmas.Cmp.{tied_itself}
use Rattle.std.proofs.lemmas.List.Sums.{sum_by-cons}
use Rattle.std.specs.Option.{option_map_or}
use Rattle.arti_tree.specs.declared.slot.Slot.{Slot}
use Rattle.arti_tree.specs.Rows.{Row, ids, row_of, row_at, rank_of, IsLive, IsTree}
use Rattle.arti_tree.specs.Slots.{at, row_with, live, key_at, no_key}
use Rattle.arti_tree.specs.Kept.{Ordered, Rising}
use Rattle.arti_tree.specs.Searched.{AllLive, RisingAt}
use Rattle.arti_tree.proofs.Rises.{none_counted, counted, rising_far}
use Rattle.arti_tree.proofs.Lives.{row_of_live}
use Rattle.arti_rows.specs.KeyLaws.{same_key-Less, same_key-Greater, key_cmp-total, key_cmp-Less, key_cmp-Equal}

pub no_row : Row
no_row = record { id = 0; key = no_key; is_file = false }

-- what is kept under the id of a live row
pub record KeptAs (slots : List (Option Slot)) (r : Row) : Type 0 where
  pub slot : Slot
  pub there : at slots r.id ≡ Some slot
  pub same : row_with r.id slot ≡ r

kept_by : (o : Option Slot) (slots : List (Option Slot)) (r : Row) → at slots r.id ≡ o → option_map (row_with r.id) o ≡ Some r → KeptAs slots r
kept_by None slots r is e = cc
kept_by (Some s) slots r is e = record { slot = s; there = is; same = let same : row_with r.id s ≡ r = cc in same }

pub kept_as : (slots : List (Option Slot)) (r : Row) → IsLive (live 0 slots) r → KeptAs slots r
kept_as slots r is = kept_by (at slots r.id) slots r refl (sym (row_of_live r.id slots) ∙ is)

pub live_in : (slots : List (Option Slot)) (id : ℕ) (s : Slot) → at slots id ≡ Some s → IsLive (live 0 slots) (row_with id s)
live_in slots id s is = row_of_live id slots ∙ ap (option_map (row_with id)) is

key_by : (slots : List (Option Slot)) (r : Row) → KeptAs slots r → key_at slots r.id ≡ r.key
key_by slots r k = ap (λ o. option_map_or (λ (s : Slot). s.key) o no_key) k.there ∙ ap (λ (x : Row). x.key) k.same

with_now : (id : ℕ) (o : Option (Bor Slot)) → option_map (λ s. row_with id s.now) o ≡ option_map (row_with id) (option_map (λ s. s.now) o)
with_now id None = refl
with_now id (Some s) = refl

pub seen_row : (slots : List (Option Slot)) (id : ℕ) (o : Option (Bor Slot)) → option_map (λ s. s.now) o ≡ at slots id → option_map (λ s. row_with id s.now) o ≡ row_of (live 0 slots) id
seen_row slots id o e = with_now id o ∙ ap (option_map (row_with id)) e ∙ sym (row_of_live id slots)

-- live rows by the default order of their keys, and their ids
module _ (slots : List (Option Slot)) (order : List ℕ) (sorted : List Row) (is : order ≡ ids sorted) (live_all : All (IsLive (live 0 slots)) sorted) (rising : Rising sorted) where
  long_in : length order ≡ length sorted
  long_in = ap length is ∙ length-map sorted (λ (r : Row). r.id)

  in_sorted : (i : ℕ) → i < length order → i < length sorted
  in_sorted i below = omega (arith, long_in)

  pub id_in : (i : ℕ) → i < length order → get_or order i 0 ≡ (get_or sorted i no_row).id
  id_in i below = ap (λ l. get_or l i 0) is ∙ get_or-map (λ (r : Row). r.id) sorted i no_row 0 (in_sorted i below)

  live_at : (i : ℕ) → i < length order → IsLive (live 0 slots) (get_or sorted i no_row)
  live_at i below = live_all i no_row (in_sorted i below)

  pub key_in : (i : ℕ) → i < length order → key_at slots (get_or order i 0) ≡ (get_or sorted i no_row).key
  key_in i below = ap (key_at slots) (id_in i below) ∙ key_by slots (get_or sorted i no_row) (kept_as slots (get_or sorted i no_row) (live_at i below))

  pub live_in_order : AllLive slots order
  live_in_order i below =
      let k = kept_as slots (get_or sorted i no_row) (live_at i below) in
      subst (λ (o : Option Slot). IsSome o) (sym (ap (at slots) (id_in i below) ∙ k.there)) refl

  pub rising_in : RisingAt slots order
  rising_in i j less below =
      ap (λ k. key_cmp k (key_at slots (get_or order j 0))) (key_in i (omega arith)) ∙ ap (λ k. key_cmp (get_or sorted i no_row).key k) (key_in j below) ∙ rising_far sorted no_row rising i j less (in_sorted j below)

  module _ (k : Key) (i : ℕ) (within : i ≤ length order)
      (before : (j : ℕ) → j < i → key_cmp (key_at slots (get_or order j 0)) k ≡ Less)
      (behind : (j : ℕ) → i ≤ j → j < length order → key_cmp (key_at slots (get_or order j 0)) k ≡ Greater) where
    pub before_in : (j : ℕ) → j < i → key_cmp (get_or sorted j no_row).key k ≡ Less
    before_in j less = ap (λ x. key_cmp x k) (sym (key_in j (omega arith))) ∙ before j less

    pub behind_in : (j : ℕ) → i ≤ j → j < length sorted → key_cmp (get_or sorted j no_row).key k ≡ Greater
    behind_in j le less = ap (λ x. key_cmp x k) (sym (key_in j (omega (arith, long_in)))) ∙ behind j le (omega (arith, long_in))

module _ (slots : List (Option Slot)) (order : List ℕ) (tree : IsTree (live 0 slots)) (ordered : Ordered (live 0 slots) order) where
  abbrev pub rows : List Row
  rows = live 0 slots

  long : length order ≡ length ordered.sorted
  long = long_in slots order ordered.sorted ordered.is ordered.live ordered.rising

  -- the row at a place
  abbrev pub row_there : (i : ℕ) → Row
  row_there i = get_or ordered.sorted i no_row

  within_sorted : (i : ℕ) → i < length order → i < length ordered.sorted
  within_sorted i below = omega (arith, long)

  -- the id at a place is that of the row there
  pub id_there : (i : ℕ) → i < length order → get_or order i 0 ≡ (row_there i).id
  id_there i below = id_in slots order ordered.sorted ordered.is ordered.live ordered.rising i below

  pub live_there : (i : ℕ) → i < length order → IsLive rows (row_there i)
  live_there i below = ordered.live i no_row (within_sorted i below)

  pub key_there : (i : ℕ) → i < length order → key_at slots (get_or order i 0) ≡ (row_there i).key
  key_there i below = key_in slots order ordered.sorted ordered.is ordered.live ordered.rising i below

  pub all_live : AllLive slots order
  all_live = live_in_order slots order ordered.sorted ordered.is ordered.live ordered.rising

  pub rising_there : RisingAt slots order
  rising_there = rising_in slots order ordered.sorted ordered.is ordered.live ordered.rising

  -- a key that ties with that at a place is found there
  pub found_there : (k : Key) (i : ℕ) → i < length order → key_cmp (key_at slots (get_or order i 0)) k ≡ Equal → row_at rows k ≡ Some (row_there i)
  found_there k i below tie =
      let same : (row_there i).key ≡ k = key_cmp-Equal (row_there i).key k (ap (λ x. key_cmp x k) (sym (key_there i below)) ∙ tie) in
      subst (λ (x : Key). row_at rows x ≡ Some (row_there i)) same (tree.differ (row_there i) (live_there i below))

  module _ (k : Key) (i : ℕ) (within : i ≤ length order)
      (before : (j : ℕ) → j < i → key_cmp (key_at slots (get_or order j 0)) k ≡ Less)
      (behind : (j : ℕ) → i ≤ j → j < length order → key_cmp (key_at slots (get_or order j 0)) k ≡ Greater) where
    pub before_there : (j : ℕ) → j < i → key_cmp (row_there j).key k ≡ Less
    before_there j less = before_in slots order ordered.sorted ordered.is ordered.live ordered.rising k i within before behind j less

    pub behind_there : (j : ℕ) → i ≤ j → j < length ordered.sorted → key_cmp (row_there j).key k ≡ Greater
    behind_there j le less = behind_in slots order ordered.sorted ordered.is ordered.live ordered.rising k i within before behind j le less

    -- no row has the key
    pub missing : row_at rows k ≡ None
    missing =
        let p : Row → Bool = λ r. same_key r.key k in
        none_counted p rows (sym (ordered.same p) ∙ counted p no_row ordered.sorted 0 (omega arith) (λ j h. absurd (omega arith)) (λ j _ less. ⊎_elim (λ l. same_key-Less (row_there j).key k (before_there j l)) (λ g. same_key-Greater (row_there j).key k (behind_there j g less)) (cases_lt j i)))

  -- the place of a row is its rank
  pub rank_there : (i : ℕ) → i < length order → rank_of rows (row_there i).key ≡ i
  rank_there i below =
      let p : Row → Bool = λ r. is_lt (key_cmp r.key (row_there i).key) in
      sym (ordered.same p)
      ∙ counted p no_row ordered.sorted i (omega (arith, long)) (λ j less. ap is_lt (rising_far ordered.sorted no_row ordered.rising j i less (within_sorted i below)))
      (λ j le less. ⊎_elim (λ l. ap is_lt (key_cmp-Less (row_there i).key (row_there j).key (rising_far ordered.sorted no_row ordered.rising i j l less))) (λ g. let same : j ≡ i = omega arith in ap (λ n. is_lt (key_cmp (row_there n).key (row_there i).key)) same ∙ ap is_lt (tied_itself key_cmp-total (row_there i).key)) (cases_lt i j))

count_all : (rows : List Row) → count_by (λ _. true) rows ≡ length rows
count_all [] = refl
count_all (r ∷ rows) = sum_by-cons (λ _. 1) r rows ∙ (let e : 1 + count_by (λ _. true) rows ≡ length (r ∷ rows) = omega (arith, count_all rows) in e)

-- as many ids as rows
pub order_long : (rows : List Row) (order : List ℕ) → Ordered rows order → length order ≡ length rows
order_long rows order o = ap length o.is ∙ length-map o.sorted (λ (r : Row). r.id) ∙ sym (count_all o.sorted) ∙ o.same (λ _. true) ∙ count_all rows

past_by : (slots : List (Option Slot)) (id : ℕ) → length slots ≤ id → at slots id ≡ None
past_by [] id le = refl
past_by (s ∷ slots) zero le = absurd (omega arith)
past_by (s ∷ slots) (suc id) le = past_by slots id (omega arith)

pub slot_within : (slots : List (Option Slot)) (id : ℕ) (s : Slot) → at slots id ≡ Some s → id < length slots
slot_within slots id s is = ⊎_elim (λ (l : id < length slots). l) (λ (g : length slots ≤ id). let none = past_by slots id g in cc) (cases_lt id (length slots))
