-- Rows that get other keys one after the other, and their places in the default order.
use Rattle.std.proofs.Common.{◌≡◌, ◌≢◌, ℕ, ◌+◌, ◌<◌, ◌≤◌, ◌⊎◌, ⊎_elim, inl, inr, zero, suc, Bool, true, false, cond, eqb, List, [], ◌∷◌, length, get_or, set, take, drop, Option, Some, None, option_map, refl, sym, ap, ◌∙◌, subst, arith, Less, Equal, Greater}
use Rattle.std.specs.Prelude.{map, ◌==◌, ◌||◌, All, IsSome}
use Rattle.std.specs.List.{count_by, insert, remove}
use Rattle.std.proofs.lemmas.Bool.{eqb-true, eqb-false, cases_lt, eq-eqb, ne_eqb, cases_Bool}
use Rattle.std.proofs.lemmas.List.{length-map, length-drop}
use Rattle.std.proofs.lemmas.List.Elements.{All-append, All-cons, All-take, All-drop}
use Rattle.std.proofs.lemmas.List.Sums.{sum_by-insert, sum_by-remove, sum_by-cons}
use Rattle.arti_rows.specs.Key.{Key, key_cmp, same_key}
use Rattle.arti_tree.specs.declared.slot.Slot.{Slot}
use Rattle.arti_tree.specs.Rows.{Row, ids, row_of, row_at, IsLive, RowsFrom}
use Rattle.arti_tree.specs.Slots.{at, row_with, live, key_at}
use Rattle.arti_tree.specs.Kept.{Ordered, Rising}
use Rattle.arti_tree.specs.Renames.{has, Once, Differ, rekeyed_row, rekeyed, rekeyed_all, CanRekey, Rekeying}
use Rattle.std.proofs.lemmas.List.{drop_more}
use Rattle.arti_tree.proofs.Lives.{live_from, row_of_live}
use Rattle.arti_tree.proofs.Rises.{found_live, found_passes, others_differ, rising_insert, rising_remove, none_counted, counted}
use Rattle.arti_tree.proofs.Looks.{no_row, key_in, before_in, behind_in}
use Rattle.arti_tree.proofs.Growing.{ids_insert}
use Rattle.arti_tree.proofs.Shrinking.{ids_remove}
use Rattle.arti_tree.proofs.Members.{first_has}
use Rattle.arti_tree.proofs.Mapped.{row_of_map, live_map, rows_from_map, differ_new, one_id, one_key, was, some_rows}
use Rattle.arti_rows.specs.KeyLaws.{same_key-Less, same_key-Greater, key_cmp-Greater, same_key-true, key_cmp-Equal}

row_id_by : (b : Bool) (id : ℕ) (key : Key) (r : Row) → (cond b (record { id = r.id; key = key; is_file = r.is_file }) r).id ≡ r.id
row_id_by true id key r = refl
row_id_by false id key r = refl

pub keeps_id : (id : ℕ) (key : Key) (r : Row) → (rekeyed_row id key r).id ≡ r.id
keeps_id id key r = row_id_by (eqb r.id id) id key r

pub rekeyed_other : (id : ℕ) (key : Key) (r : Row) → r.id ≢ id → rekeyed_row id key r ≡ r
rekeyed_other id key r ne = ap (λ b. cond b (record { id = r.id; key = key; is_file = r.is_file }) r) (ne_eqb r.id id ne)

pub rekeyed_it : (id : ℕ) (key : Key) (r : Row) → r.id ≡ id → rekeyed_row id key r ≡ record { id = r.id; key = key; is_file = r.is_file }
rekeyed_it id key r e = ap (λ b. cond b (record { id = r.id; key = key; is_file = r.is_file }) r) (eq-eqb r.id id e)

key_by : (b : Bool) (key : Key) (r : Row) → b ≡ true → (cond b (record { id = r.id; key = key; is_file = r.is_file }) r).key ≡ key
key_by b key r e = ap (λ t. (cond t (record { id = r.id; key = key; is_file = r.is_file }) r).key) e

none_some : {o : Option Row} {x : Row} → o ≡ None → o ≡ Some x → ⊥
none_some {o} {x} n s = let e : None ≡ Some x = sym n ∙ s in cc

absent_key : (rows : List Row) (key : Key) (x : Row) → Differ rows → row_at rows key ≡ None → IsLive rows x → x.key ≢ key
absent_key rows key x differ none is e = none_some none (ap (row_at rows) (sym e) ∙ differ x is)

id_cases : (a b : ℕ) → (a ≡ b) ⊎ (a ≢ b)
id_cases a b = ⊎_elim (λ (e : eqb a b ≡ true). inl (eqb-true a b e)) (λ (e : eqb a b ≡ false). inr (eqb-false a b e)) (cases_Bool (eqb a b))

-- the rows still differ
pub differ_rekeyed : (rows : List Row) (id : ℕ) (key : Key) → RowsFrom 0 rows → Differ rows → row_at rows key ≡ None → Differ (rekeyed id key rows)
differ_rekeyed rows id key up differ none = differ_new (rekeyed_row id key) (keeps_id id key) rows up differ apart
  where
    apart : (x y : Row) → IsLive rows x → IsLive rows y → (rekeyed_row id key x).key ≡ (rekeyed_row id key y).key → x ≡ y
    apart x y x_live y_live same = ⊎_elim
        (λ (a : x.id ≡ id). ⊎_elim
        (λ (b : y.id ≡ id). one_id rows x y x_live y_live (a ∙ sym b))
        (λ (b : y.id ≢ id). absurd (absent_key rows key y differ none y_live (ap (λ (r : Row). r.key) (sym (rekeyed_other id key y b)) ∙ sym same ∙ ap (λ (r : Row). r.key) (rekeyed_it id key x a))))
        (id_cases y.id id))
        (λ (a : x.id ≢ id). ⊎_elim
        (λ (b : y.id ≡ id). absurd (absent_key rows key x differ none x_live (ap (λ (r : Row). r.key) (sym (rekeyed_other id key x a)) ∙ same ∙ ap (λ (r : Row). r.key) (rekeyed_it id key y b))))
        (λ (b : y.id ≢ id). one_key rows x y differ x_live y_live (ap (λ (r : Row). r.key) (sym (rekeyed_other id key x a)) ∙ same ∙ ap (λ (r : Row). r.key) (rekeyed_other id key y b)))
        (id_cases y.id id))
        (id_cases x.id id)

-- as many rows pass a test as before, but for the one that changed
keeps_all : (id n : ℕ) (key : Key) (rows : List Row) → RowsFrom n rows → id < n → rekeyed id key rows ≡ rows
keeps_all id n key [] up less = refl
keeps_all id n key (x ∷ rows) up less = ap (λ (r : Row). r ∷ rekeyed id key rows) (rekeyed_other id key x (λ e. omega (arith, up.0))) ∙ ap (λ (l : List Row). x ∷ l) (keeps_all id (x.id + 1) key rows up.1 (omega (arith, up.0)))

abbrev weight : (Row → Bool) → Row → ℕ
weight test r = cond (test r) 1 0

counts_by : (test : Row → Bool) (id n : ℕ) (key : Key) (x r : Row) (rows : List Row) → RowsFrom n (x ∷ rows) → row_of (x ∷ rows) id ≡ Some r → (x.id ≡ id) ⊎ (x.id ≢ id)
    → (row_of rows id ≡ Some r → count_by test (rekeyed id key rows) + weight test r ≡ count_by test rows + weight test (rekeyed_row id key r))
    → count_by test (rekeyed id key (x ∷ rows)) + weight test r ≡ count_by test (x ∷ rows) + weight test (rekeyed_row id key r)
counts_by test id n key x r rows up found which rest =
    let one : count_by test (rekeyed id key (x ∷ rows)) ≡ weight test (rekeyed_row id key x) + count_by test (rekeyed id key rows) = sum_by-cons (weight test) (rekeyed_row id key x) (rekeyed id key rows) in
    let two : count_by test (x ∷ rows) ≡ weight test x + count_by test rows = sum_by-cons (weight test) x rows in
    ⊎_elim
    (λ (e : x.id ≡ id).
    let same : x ≡ r = some_rows x r (sym (ap (λ b. cond b (Some x) (row_of rows id)) (eq-eqb x.id id e)) ∙ found) in
    let kept : rekeyed id key rows ≡ rows = keeps_all id (x.id + 1) key rows up.1 (omega arith) in
    let a : weight test (rekeyed_row id key x) ≡ weight test (rekeyed_row id key r) = ap (λ (y : Row). weight test (rekeyed_row id key y)) same in
    let b : weight test x ≡ weight test r = ap (weight test) same in
    let c : count_by test (rekeyed id key rows) ≡ count_by test rows = ap (count_by test) kept in
    sum_same (count_by test (rekeyed id key (x ∷ rows))) (weight test (rekeyed_row id key x)) (count_by test (rekeyed id key rows)) (count_by test (x ∷ rows)) (weight test x) (count_by test rows) (weight test r) (weight test (rekeyed_row id key r)) one two a b c)
    (λ (ne : x.id ≢ id).
    let later : row_of rows id ≡ Some r = sym (ap (λ b. cond b (Some x) (row_of rows id)) (ne_eqb x.id id ne)) ∙ found in
    let a : weight test (rekeyed_row id key x) ≡ weight test x = ap (weight test) (rekeyed_other id key x ne) in
    sum_more (count_by test (rekeyed id key (x ∷ rows))) (weight test (rekeyed_row id key x)) (count_by test (rekeyed id key rows)) (count_by test (x ∷ rows)) (weight test x) (count_by test rows) (weight test r) (weight test (rekeyed_row id key r)) one two a (rest later))
    which
  where
    sum_same : (l w c l2 w2 c2 r n : ℕ) → l ≡ w + c → l2 ≡ w2 + c2 → w ≡ n → w2 ≡ r → c ≡ c2 → l + r ≡ l2 + n
    sum_same l w c l2 w2 c2 r n one two a b d = omega arith

    sum_more : (l w c l2 w2 c2 r n : ℕ) → l ≡ w + c → l2 ≡ w2 + c2 → w ≡ w2 → c + r ≡ c2 + n → l + r ≡ l2 + n
    sum_more l w c l2 w2 c2 r n one two a b = omega arith

pub count_rekeyed : (test : Row → Bool) (id n : ℕ) (key : Key) (r : Row) (rows : List Row) → RowsFrom n rows → row_of rows id ≡ Some r → count_by test (rekeyed id key rows) + weight test r ≡ count_by test rows + weight test (rekeyed_row id key r)
count_rekeyed test id n key r [] up found = cc
count_rekeyed test id n key r (x ∷ rows) up found = counts_by test id n key x r rows up found (id_cases x.id id) (count_rekeyed test id (x.id + 1) key r rows up.1)

balance : (w s new old rows news : ℕ) → w + old ≡ s → s ≡ rows → news + old ≡ rows + new → w + new ≡ news
balance w s new old rows news a b c = omega arith

-- the order without a row, and with it at the place of its new key
module _ (rows : List Row) (r : Row) (key : Key) (up : RowsFrom 0 rows) (is_live : IsLive rows r) (order : List ℕ) (ordered : Ordered rows order) (i : ℕ) (below : i < length ordered.sorted) (at_i : get_or ordered.sorted i no_row ≡ r) where
  abbrev pub left : List Row
  left = remove ordered.sorted i

  pub left_is : remove order i ≡ ids left
  left_is = ap (λ l. remove l i) ordered.is ∙ sym (ids_remove ordered.sorted i)

  pub left_live : All (IsLive rows) left
  left_live = All-append (IsLive rows) (take i ordered.sorted) (drop (suc i) ordered.sorted) (All-take (IsLive rows) i ordered.sorted ordered.live) (All-drop (IsLive rows) (suc i) ordered.sorted ordered.live)

  pub left_rising : Rising left
  left_rising = rising_remove ordered.sorted i ordered.rising

  abbrev fresh_row : Row
  fresh_row = rekeyed_row r.id key r

  fresh_is : fresh_row ≡ record { id = r.id; key = key; is_file = r.is_file }
  fresh_is = rekeyed_it r.id key r refl

  still : (x : Row) → IsLive rows x → x.key ≢ r.key → IsLive (rekeyed r.id key rows) x
  still x live ne = subst (λ (y : Row). IsLive (rekeyed r.id key rows) y) (rekeyed_other r.id key x (λ e. ne (ap (λ (y : Row). y.key) (one_id rows x r live is_live e)))) (live_map (rekeyed_row r.id key) (keeps_id r.id key) rows x live)

  module _ (j : ℕ) (within : j ≤ length left) (before : (k : ℕ) → k < j → key_cmp (get_or left k no_row).key key ≡ Less) (behind : (k : ℕ) → j ≤ k → k < length left → key_cmp (get_or left k no_row).key key ≡ Greater) where
    pub order_rekeyed : Ordered (rekeyed r.id key rows) (insert (remove order i) j r.id)
    order_rekeyed =
        let P : Row → Type 0 = IsLive (rekeyed r.id key rows) in
        let others = others_differ r no_row ordered.sorted i ordered.rising below at_i in
        let all : All P left = λ k d under. still (get_or left k d) (left_live k d under) (others k d under) in
        let new_live : P fresh_row = live_map (rekeyed_row r.id key) (keeps_id r.id key) rows r is_live in
        let new_id : fresh_row.id ≡ r.id = keeps_id r.id key r in
        let new_key : key ≡ fresh_row.key = sym (ap (λ (y : Row). y.key) fresh_is) in
        record {
          sorted = insert left j fresh_row;
          is = ap (λ l. insert l j r.id) left_is ∙ ap (λ n. insert (ids left) j n) (sym new_id) ∙ sym (ids_insert left j fresh_row);
          live = All-append P (take j left) (fresh_row ∷ drop j left) (All-take P j left all) (All-cons P fresh_row (drop j left) new_live (All-drop P j left all));
          same = λ test. let f : Row → ℕ = λ x. cond (test x) 1 0 in
              sum_by-insert f left j fresh_row
              ∙ balance (count_by test left) (count_by test ordered.sorted) (f fresh_row) (f r) (count_by test rows) (count_by test (rekeyed r.id key rows))
              (ap (λ (y : Row). count_by test left + f y) (sym at_i) ∙ sum_by-remove f ordered.sorted i no_row below) (ordered.same test) (count_rekeyed test r.id 0 key r rows up is_live);
          rising = rising_insert fresh_row no_row left j left_rising within (λ k less. ap (λ (m : Key). key_cmp (get_or left k no_row).key m) (sym new_key) ∙ before k less)
              (λ k le under. ap (λ (m : Key). key_cmp m (get_or left k no_row).key) (sym new_key) ∙ key_cmp-Greater (get_or left k no_row).key key (behind k le under));
        }

-- the slot of a row with another key
pub live_rekeyed : (n i : ℕ) (slots : List (Option Slot)) (s : Slot) (key : Key) → i < length slots → at slots i ≡ Some s → live n (set slots i (Some (record { key = key; is_file = s.is_file }))) ≡ rekeyed (n + i) key (live n slots)
live_rekeyed n i [] s key below is = absurd (omega arith)
live_rekeyed n zero (None ∷ slots) s key below is = cc
live_rekeyed n zero (Some t ∷ slots) s key below is =
    let same : t ≡ s = slot_same t s is in
    let e : n ≡ n + 0 = omega arith in
    ap (λ (x : Slot). row_with n (record { key = key; is_file = x.is_file }) ∷ live (n + 1) slots) (sym same)
    ∙ sym (ap (λ (x : Row). x ∷ rekeyed (n + 0) key (live (n + 1) slots)) (rekeyed_it (n + 0) key (row_with n t) e) ∙ ap (λ (l : List Row). row_with n (record { key = key; is_file = t.is_file }) ∷ l) (keeps_all (n + 0) (n + 1) key (live (n + 1) slots) (live_from (n + 1) slots) (omega arith)))
  where
    slot_same : (t s : Slot) → Some t ≡ Some s → t ≡ s
    slot_same t s e = cc
live_rekeyed n (suc i) (None ∷ slots) s key below is = live_rekeyed (n + 1) i slots s key (omega arith) is ∙ (let e : (n + 1) + i ≡ n + suc i = omega arith in ap (λ k. rekeyed k key (live (n + 1) slots)) e)
live_rekeyed n (suc i) (Some t ∷ slots) s key below is =
    ap (λ (l : List Row). row_with n t ∷ l) (live_rekeyed (n + 1) i slots s key (omega arith) is ∙ (let e : (n + 1) + i ≡ n + suc i = omega arith in ap (λ k. rekeyed k key (live (n + 1) slots)) e))
    ∙ sym (ap (λ (x : Row). x ∷ rekeyed (n + suc i) key (live (n + 1) slots)) (rekeyed_other (n + suc i) key (row_with n t) (λ e. omega arith)))

-- where no row has the id nothing changes
pub rekeyed_none : (id : ℕ) (key : Key) (rows : List Row) → row_of rows id ≡ None → rekeyed id key rows ≡ rows
rekeyed_none id key [] none = refl
rekeyed_none id key (x ∷ rows) none =
    let parts = none_parts (eqb x.id id) x (row_of rows id) none in
    ap (λ (r : Row). r ∷ rekeyed id key rows) (rekeyed_other id key x (eqb-false x.id id parts.0)) ∙ ap (λ (l : List Row). x ∷ l) (rekeyed_none id key rows parts.1)
  where
    none_parts : (b : Bool) (r : Row) (o : Option Row) → cond b (Some r) o ≡ None → (b ≡ false) × (o ≡ None)
    none_parts true r o e = cc
    none_parts false r o e = (refl, e)

-- rows that get the keys of their ids, one after the other, are those that get them at once
abbrev pub with_new : List ℕ → (ℕ → Key) → Row → Row
with_new ids new r = cond (has ids r.id) (record { id = r.id; key = new r.id; is_file = r.is_file }) r

once_by : (b c : Bool) (k m : Key) (r : Row) → (b ≡ true → k ≡ m)
    → cond c (record { id = (cond b (record { id = r.id; key = k; is_file = r.is_file }) r).id; key = m; is_file = (cond b (record { id = r.id; key = k; is_file = r.is_file }) r).is_file }) (cond b (record { id = r.id; key = k; is_file = r.is_file }) r)
    ≡ cond (b || c) (record { id = r.id; key = m; is_file = r.is_file }) r
once_by true true k m r e = refl
once_by true false k m r e = ap (λ (x : Key). record { id = r.id; key = x; is_file = r.is_file }) (e refl)
once_by false true k m r e = refl
once_by false false k m r e = refl

id_same : (b : Bool) (k : Key) (r : Row) (ids : List ℕ) (new : ℕ → Key) → (x : Row) → x.id ≡ r.id → cond (has ids x.id) (record { id = x.id; key = new x.id; is_file = x.is_file }) x ≡ cond (has ids r.id) (record { id = x.id; key = new r.id; is_file = x.is_file }) x
id_same b k r ids new x e = ap (λ n. cond (has ids n) (record { id = x.id; key = new n; is_file = x.is_file }) x) e

one_new : (id : ℕ) (ids : List ℕ) (new : ℕ → Key) (r : Row) → with_new ids new (rekeyed_row id (new id) r) ≡ cond ((r.id == id) || has ids r.id) (record { id = r.id; key = new r.id; is_file = r.is_file }) r
one_new id ids new r = id_same (eqb r.id id) (new id) r ids new (rekeyed_row id (new id) r) (keeps_id id (new id) r) ∙ once_by (eqb r.id id) (has ids r.id) (new id) (new r.id) r (λ e. ap new (sym (eqb-true r.id id e)))

sym_eq : (a b : ℕ) → (a == b) ≡ (b == a)
sym_eq a b = ⊎_elim (λ (e : a ≡ b). eq-eqb a b e ∙ sym (eq-eqb b a (sym e))) (λ (ne : a ≢ b). ne_eqb a b ne ∙ sym (ne_eqb b a (λ e. ne (sym e)))) (id_cases a b)

pub map_new : (id : ℕ) (ids : List ℕ) (new : ℕ → Key) (rows : List Row) → map (with_new ids new) (rekeyed id (new id) rows) ≡ map (with_new (id ∷ ids) new) rows
map_new id ids new [] = refl
map_new id ids new (r ∷ rows) =
    ap (λ (x : Row). x ∷ map (with_new ids new) (rekeyed id (new id) rows)) (one_new id ids new r ∙ ap (λ b. cond (b || has ids r.id) (record { id = r.id; key = new r.id; is_file = r.is_file }) r) (sym_eq r.id id))
    ∙ ap (λ (l : List Row). with_new (id ∷ ids) new r ∷ l) (map_new id ids new rows)

map_none : (new : ℕ → Key) (rows : List Row) → rows ≡ map (with_new [] new) rows
map_none new [] = refl
map_none new (r ∷ rows) = ap (λ (l : List Row). r ∷ l) (map_none new rows)

pub rekeyed_all_is : (ids : List ℕ) (new : ℕ → Key) (rows : List Row) → rekeyed_all ids (map new ids) rows ≡ map (with_new ids new) rows
rekeyed_all_is [] new rows = map_none new rows
rekeyed_all_is (id ∷ ids) new rows = rekeyed_all_is ids new (rekeyed id (new id) rows) ∙ map_new id ids new rows

-- rows each of which gets a key that no row has, another each time
pub record Apart (rows : List Row) (ids : List ℕ) (new : ℕ → Key) : Type 0 where
  pub there : (i : ℕ) → has ids i ≡ true → IsSome (row_of rows i)
  pub absent : (x : Row) → IsLive rows x → (i : ℕ) → has ids i ≡ true → x.key ≢ new i

pub record Distinct (ids : List ℕ) (new : ℕ → Key) : Type 0 where
  pub differ : (i j : ℕ) → has ids i ≡ true → has ids j ≡ true → new i ≡ new j → i ≡ j

later : (id i : ℕ) (ids : List ℕ) → has ids i ≡ true → has (id ∷ ids) i ≡ true
later id i ids e = by (id == i) (has ids i) e
  where
    by : (a b : Bool) → b ≡ true → (a || b) ≡ true
    by true b e = refl
    by false b e = e

no_row_at : (rows : List Row) (key : Key) → RowsFrom 0 rows → ((x : Row) → IsLive rows x → x.key ≢ key) → row_at rows key ≡ None
no_row_at rows key up none = by (row_at rows key) refl
  where
    by : (o : Option Row) → row_at rows key ≡ o → row_at rows key ≡ None
    by None e = e
    by (Some x) e = absurd (none x (found_live (λ r. same_key r.key key) 0 rows x up e) (same_key-true x.key key (found_passes (λ r. same_key r.key key) rows x e)))

some_map : (g : Row → Row) (o : Option Row) → IsSome o → IsSome (option_map g o)
some_map g None e = cc
some_map g (Some x) e = refl

false_true : (b : Bool) → b ≡ false → b ≡ true → ⊥
false_true b e f = let no : false ≡ true = sym e ∙ f in cc

pub can_rekey : (ids : List ℕ) (new : ℕ → Key) (rows : List Row) → RowsFrom 0 rows → Once ids → Distinct ids new → Apart rows ids new → CanRekey rows ids (map new ids)
can_rekey [] new rows up once distinct apart = tt
can_rekey (id ∷ ids) new rows up once distinct apart =
    let g = rekeyed_row id (new id) in
    let more = rekeyed id (new id) rows in (
      apart.there id (first_has id ids),
      no_row_at rows (new id) up (λ x live. apart.absent x live id (first_has id ids)),
      can_rekey ids new more (rows_from_map g (keeps_id id (new id)) 0 rows up) once.1
          (record { differ = λ i j a b e. distinct.differ i j (later id i ids a) (later id j ids b) e })
          (record {
            there = λ i e. subst (λ (o : Option Row). IsSome o) (sym (row_of_map g (keeps_id id (new id)) rows i)) (some_map g (row_of rows i) (apart.there i (later id i ids e)));
            absent = λ x live i e same.
                let w = was g (keeps_id id (new id)) rows up x live in
                ⊎_elim
                (λ (at : w.row.id ≡ id).
                let key_is : x.key ≡ new id = ap (λ (r : Row). r.key) (sym w.is ∙ rekeyed_it id (new id) w.row at) in
                let same_id : id ≡ i = distinct.differ id i (first_has id ids) (later id i ids e) (sym key_is ∙ same) in
                false_true (has ids id) once.0 (subst (λ (k : ℕ). has ids k ≡ true) (sym same_id) e))
                (λ (ne : w.row.id ≢ id).
                let old : w.row.key ≡ x.key = ap (λ (r : Row). r.key) (sym (rekeyed_other id (new id) w.row ne) ∙ w.is) in
                apart.absent w.row w.live i (later id i ids e) (old ∙ same))
                (id_cases w.row.id id);
          }),
    )

-- where a key would stand, none is there
pub missing_in : (slots : List (Option Slot)) (order : List ℕ) (o : Ordered (live 0 slots) order) (k : Key) (i : ℕ) → i ≤ length order
    → ((j : ℕ) → j < i → key_cmp (key_at slots (get_or order j 0)) k ≡ Less) → ((j : ℕ) → i ≤ j → j < length order → key_cmp (key_at slots (get_or order j 0)) k ≡ Greater) → row_at (live 0 slots) k ≡ None
missing_in slots order o k i within before behind =
    let p : Row → Bool = λ r. same_key r.key k in
    none_counted p (live 0 slots) (sym (o.same p) ∙ counted p no_row o.sorted 0 (omega arith) (λ j h. absurd (omega arith))
    (λ j _ less. ⊎_elim (λ l. same_key-Less (get_or o.sorted j no_row).key k (before_in slots order o.sorted o.is o.live o.rising k i within before behind j l)) (λ g. same_key-Greater (get_or o.sorted j no_row).key k (behind_in slots order o.sorted o.is o.live o.rising k i within before behind j g less)) (cases_lt j i)))

-- a row is at the place where its key ties
pub placed : (slots : List (Option Slot)) (order : List ℕ) (o : Ordered (live 0 slots) order) → Differ (live 0 slots) → (r : Row) → IsLive (live 0 slots) r → (k : Key) → k ≡ r.key → (i : ℕ) → i < length order
    → key_cmp (key_at slots (get_or order i 0)) k ≡ Equal → (i < length o.sorted) × (get_or o.sorted i no_row ≡ r)
placed slots order o differ r is_live k parts i below tie =
    let within : i < length o.sorted = omega (arith, ap (λ (l : List ℕ). length l) o.is, length-map o.sorted (λ (x : Row). x.id)) in
    let same : (get_or o.sorted i no_row).key ≡ k = key_cmp-Equal (get_or o.sorted i no_row).key k (ap (λ x. key_cmp x k) (sym (key_in slots order o.sorted o.is o.live o.rising i below)) ∙ tie) in
    (within, one_key (live 0 slots) (get_or o.sorted i no_row) r differ (o.live i no_row within) is_live (same ∙ parts))

-- a key that ties is there
pub tied_there : (slots : List (Option Slot)) (order : List ℕ) (sorted : List Row) → order ≡ ids sorted → All (IsLive (live 0 slots)) sorted → Rising sorted → Differ (live 0 slots) → (k : Key) (i : ℕ) → i < length order
    → key_cmp (key_at slots (get_or order i 0)) k ≡ Equal → row_at (live 0 slots) k ≡ None → ⊥
tied_there slots order sorted is all rising differ k i below tie none =
    let within : i < length sorted = omega (arith, ap (λ (l : List ℕ). length l) is, length-map sorted (λ (x : Row). x.id)) in
    let x : Row = get_or sorted i no_row in
    let same : x.key ≡ k = key_cmp-Equal x.key k (ap (λ m. key_cmp m k) (sym (key_in slots order sorted is all rising i below)) ∙ tie) in
    none_some none (ap (row_at (live 0 slots)) (sym same) ∙ differ x (all i no_row within))

-- more keys are to come, so more ids are
pub more_ids : (ids : List ℕ) (i : ℕ) (keys : List Key) (k : Key) (rest : List Key) → length (drop i ids) ≡ length keys → keys ≡ k ∷ rest → i < length ids
more_ids ids i keys k rest each step = omega (arith, each, ap (λ (l : List Key). length l) step, length-drop i ids)

pub first_one : (start rows : List Row) (all_ids ids : List ℕ) (all_keys keys : List Key) (i : ℕ) (k : Key) (rest : List Key) → Rekeying start all_ids all_keys rows (drop i ids) keys → keys ≡ k ∷ rest → i < length ids
    → Rekeying start all_ids all_keys rows (get_or ids i 0 ∷ drop (i + 1) ids) (k ∷ rest)
first_one start rows all_ids ids all_keys keys i k rest r step below = subst (λ (l : List ℕ). Rekeying start all_ids all_keys rows l (k ∷ rest)) (drop_more ids i 0 below) (subst (λ (l : List Key). Rekeying start all_ids all_keys rows (drop i ids) l) step r)

pub next_one : (start rows more : List Row) (all_ids ids : List ℕ) (all_keys keys : List Key) (id : ℕ) (k : Key) → Rekeying start all_ids all_keys rows (id ∷ ids) (k ∷ keys) → more ≡ rekeyed id k rows → Differ more → Rekeying start all_ids all_keys more ids keys
next_one start rows more all_ids ids all_keys keys id k r is differ =
    subst (λ (l : List Row). Rekeying start all_ids all_keys l ids keys) (sym is) (record { each = omega (arith, r.each); can = r.can.2; differ = subst (λ (l : List Row). Differ l) is differ; is = r.is })

pub gap_within : (slots : List (Option Slot)) (order : List ℕ) (sorted : List Row) → order ≡ ids sorted → (j : ℕ) → j ≤ length order → j ≤ length sorted
gap_within slots order sorted is j le = omega (arith, ap (λ (l : List ℕ). length l) is, length-map sorted (λ (x : Row). x.id))

some_by : (o : Option Slot) (id : ℕ) → IsSome (option_map (row_with id) o) → IsSome o
some_by None id e = cc
some_by (Some x) id e = refl

-- the slot of a live row
pub some_slot : (slots : List (Option Slot)) (id : ℕ) → IsSome (row_of (live 0 slots) id) → IsSome (at slots id)
some_slot slots id e = some_by (at slots id) id (subst (λ (o : Option Row). IsSome o) (row_of_live id slots) e)
