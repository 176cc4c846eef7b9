-- Keys that are added one after the other.
use Rattle.std.proofs.Common.{◌≡◌, ◌≢◌, ℕ, ◌+◌, ◌<◌, ◌^◌, ◌⊎◌, ⊎_elim, inl, inr, zero, suc, Bool, true, false, cond, eqb, List, [], ◌∷◌, ◌++◌, length, get_or, Option, Some, None, refl, sym, ap, ◌∙◌, subst, arith, append_assoc, append-nil}
use Rattle.std.specs.Prelude.{◌&&◌, not, nat_lt}
use Rattle.std.specs.List.{find, remove}
use Rattle.std.proofs.lemmas.Bool.{eqb-true, eqb-false, eq-eqb, false_from_ne_true}
use Rattle.arti_rows.specs.Key.{Key, whole_of, same_key}
use Rattle.arti_tree.specs.Ids.{IsNext, Lacks, TakesNext}
use Rattle.arti_tree.specs.Rows.{Row, ids, row_of, row_at, has_folder, folder_of, lies_in, with_row, without_row, IsLive, IsTree}
use Rattle.arti_tree.specs.Adds.{AreFree, is_end}
use Rattle.arti_tree.specs.Chains.{CanAdd, Leads, Pushes, PushesNext}
use Rattle.arti_tree.proofs.RowLists.{ids_with, find_with_no, find_with_yes, cond_none, without_none}
use Rattle.arti_tree.proofs.Rises.{found_live, found_passes}
use Rattle.arti_tree.proofs.Above.{shorter}
use Rattle.arti_tree.proofs.Growing.{Fresh, none_in_new, tree_more, long_more}
use Rattle.arti_rows.specs.KeyLaws.{same_key-true, same_key-refl}

undone_by : (b : Bool) (r x : Row) (rows w : List Row) → eqb x.id r.id ≡ false → without_row r.id rows ≡ rows → without_row r.id w ≡ rows → without_row r.id (cond b (r ∷ x ∷ rows) (x ∷ w)) ≡ x ∷ rows
undone_by true r x rows w ne kept same =
    ap (λ b. cond (not b) (r ∷ without_row r.id (x ∷ rows)) (without_row r.id (x ∷ rows))) (eq-eqb r.id r.id refl)
    ∙ ap (λ b. cond (not b) (x ∷ without_row r.id rows) (without_row r.id rows)) ne ∙ ap (λ l. x ∷ l) kept
undone_by false r x rows w ne kept same = ap (λ b. cond (not b) (x ∷ without_row r.id w) (without_row r.id w)) ne ∙ ap (λ l. x ∷ l) same

-- a row that is added and dropped
pub row_undone : (r : Row) (rows : List Row) → row_of rows r.id ≡ None → without_row r.id (with_row r rows) ≡ rows
row_undone r [] none = ap (λ b. cond (not b) (r ∷ []) []) (eq-eqb r.id r.id refl)
row_undone r (x ∷ rows) none =
    let parts = cond_none (eqb x.id r.id) x (row_of rows r.id) none in
    undone_by (nat_lt r.id x.id) r x rows (with_row r rows) parts.0 (without_none r.id rows parts.1) (row_undone r rows parts.1)

pub first_rest : (xs : List Key) (x : Key) → 0 < length xs → x ≡ get_or xs 0 x → xs ≡ x ∷ remove xs 0
first_rest [] x some is = absurd (omega arith)
first_rest (y ∷ xs) x some is = ap (λ (z : Key). z ∷ xs) (sym is)

eq_or : (b : Bool) → (b ≡ true) ⊎ (b ≡ false)
eq_or true = inl refl
eq_or false = inr refl

free_by : (rows : List Row) (r : Row) (i : ℕ) → row_of rows r.id ≡ None → row_of (with_row r rows) i ≡ None → (i ≢ r.id) × (row_of rows i ≡ None)
free_by rows r i none free = ⊎_elim
    (λ (e : eqb r.id i ≡ true).
    let same : r.id ≡ i = eqb-true r.id i e in
    let found : row_of (with_row r rows) i ≡ Some r = find_with_yes (λ y. eqb y.id i) r rows e (subst (λ (j : ℕ). row_of rows j ≡ None) same none) in
    let no : None ≡ Some r = sym free ∙ found in
    cc)
    (λ (e : eqb r.id i ≡ false). ((λ s. eqb-false r.id i e (sym s)), sym (find_with_no (λ y. eqb y.id i) r rows e) ∙ free))
    (eq_or (eqb r.id i))

-- ids that are free beside a row are free without it, and others than its own
pub free_back : (rows : List Row) (r : Row) (is : List ℕ) → row_of rows r.id ≡ None → AreFree (with_row r rows) is → Lacks is r.id × AreFree rows is
free_back rows r [] none free = ((λ k below. absurd (omega arith)), tt)
free_back rows r (i ∷ is) none free =
    let one = free_by rows r i none free.0 in
    let rest = free_back rows r is none free.2 in
    (lacks_first i is one.0 rest.0, (one.1, free.1, rest.1))
  where
    lacks_first : (i : ℕ) (is : List ℕ) → i ≢ r.id → Lacks is r.id → Lacks (i ∷ is) r.id
    lacks_first i is ne lacks zero below = ne
    lacks_first i is ne lacks (suc k) below = lacks k (omega arith)

pub pushes_none : (rows : List Row) (is_file : Bool) (before : List ℕ) → Pushes rows [] is_file before before rows
pushes_none rows is_file before = record { ids = []; pushed = sym (append-nil before); adds = record { each = refl; free = tt; added = refl } }

pub pushes_more : (rows new : List Row) (k : Key) (keys : List Key) (is_file : Bool) (before after : List ℕ) (id : ℕ) → row_of rows id ≡ None
    → Pushes (with_row (record { id = id; key = k; is_file = is_file && is_end keys }) rows) keys is_file (before ++ id ∷ []) after new → Pushes rows (k ∷ keys) is_file before after new
pushes_more rows new k keys is_file before after id none p =
    let r : Row = record { id = id; key = k; is_file = is_file && is_end keys } in
    let back = free_back rows r p.ids none p.adds.free in
    record {
      ids = id ∷ p.ids;
      pushed = p.pushed ∙ append_assoc before (id ∷ []) p.ids;
      adds = record { each = omega (arith, p.adds.each); free = (none, back.0, back.1); added = p.adds.added };
    }

pub next_none : (rows : List Row) (before : List ℕ) → PushesNext rows before before
next_none rows before = record { more = []; pushed = sym (append-nil before); next = tt }

pub next_more : (rows : List Row) (r : Row) (before after : List ℕ) → IsNext (ids rows) r.id → PushesNext (with_row r rows) (before ++ r.id ∷ []) after → PushesNext rows before after
next_more rows r before after next p = record {
  more = r.id ∷ p.more;
  pushed = p.pushed ∙ append_assoc before (r.id ∷ []) p.more;
  next = (next, subst (λ (l : List ℕ). TakesNext l p.more) (ids_with r rows) p.next);
}

-- behind none they are all
pub next_all : (rows : List Row) (after : List ℕ) → PushesNext rows [] after → TakesNext (ids rows) after
next_all rows after p = subst (λ (l : List ℕ). TakesNext (ids rows) l) (sym p.pushed) p.next

and_false : (b : Bool) → (b && false) ≡ false
and_false true = refl
and_false false = refl

module _ (rows : List Row) (tree : IsTree rows) (k : Key) (keys : List Key) (is_file : Bool) (id : ℕ) (can : CanAdd rows (k ∷ keys)) (none : row_of rows id ≡ None) (few : length rows + 1 < 2 ^ 32) where
  abbrev new : Row
  new = record { id = id; key = k; is_file = is_file && is_end keys }

  fresh : Fresh rows new
  fresh = record { is_key = can.0; no_id = none; no_key = can.2; folder = can.1; few = few }

  missing_by : (m : Key) (o : Option Row) → row_at rows m ≡ o → has_folder m ≡ true → folder_of m ≡ k → row_at rows m ≡ None
  missing_by m None is has leads = is
  missing_by m (Some x) is has leads =
      let live = found_live (λ y. same_key y.key m) 0 rows x tree.ascend is in
      let same : x.key ≡ m = same_key-true x.key m (found_passes (λ y. same_key y.key m) rows x is) in
      let f = tree.folders x live (ap has_folder same ∙ has) in
      let there : row_at rows k ≡ Some f.row = ap (row_at rows) (sym leads ∙ ap folder_of (sym same)) ∙ f.there in
      let no : None ≡ Some f.row = sym can.2 ∙ there in
      cc

  -- the keys that follow can be added then
  pub can_next : CanAdd (with_row new rows) keys
  can_next = by_keys keys can.3 refl
    where
      by_keys : (l : List Key) → Leads k l → l ≡ keys → CanAdd (with_row new rows) l
      by_keys [] leads is = tt
      by_keys (m ∷ l) leads is =
          let folder : new.is_file ≡ false = ap (λ (j : List Key). is_file && is_end j) (sym is) ∙ and_false is_file in
          let there : row_at (with_row new rows) k ≡ Some new = find_with_yes (λ y. same_key y.key k) new rows (same_key-refl k) can.2 in
          let apart : same_key k m ≡ false = false_from_ne_true (same_key k m) (λ e. let same : k ≡ m = same_key-true k m e in
          let less = shorter m leads.0 leads.1 in omega (arith, less, ap (λ (j : Key). length (whole_of j)) (leads.2 ∙ same))) in (
            leads.0,
            (λ has. record { row = new; there = ap (row_at (with_row new rows)) leads.2 ∙ there; folder = folder }),
            find_with_no (λ y. same_key y.key m) new rows apart ∙ missing_by m (row_at rows m) refl leads.1 leads.2,
            leads.3,
          )

  pub live_new : IsLive (with_row new rows) new
  live_new = find_with_yes (λ y. eqb y.id id) new rows (eq-eqb id id refl) none

  pub empty_new : find (lies_in k) (with_row new rows) ≡ None
  empty_new = none_in_new rows new tree fresh

  pub new_tree : IsTree (with_row new rows)
  new_tree = tree_more rows new tree fresh

  pub new_long : length (with_row new rows) ≡ length rows + 1
  new_long = long_more rows new tree fresh
