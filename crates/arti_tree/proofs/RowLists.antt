-- Lists of rows that ascend by id: with one row more, and without one.
use Rattle.std.proofs.Common.{◌≡◌, ◌≢◌, ℕ, ◌+◌, ◌<◌, ◌≤◌, suc, Bool, true, false, cond, eqb, List, [], ◌∷◌, length, get_or, Option, Some, None, refl, sym, ap, ◌∙◌, arith}
use Rattle.std.specs.Prelude.{nat_lt, not}
use Rattle.std.specs.List.{insert, remove, filter, find}
use Rattle.std.proofs.lemmas.Bool.{eqb-true, eqb-false, ltb-true, ltb-false, lt-ltb, ne_eqb}
use Rattle.arti_tree.specs.Ids.{AscendFrom, with_id, without_id}
use Rattle.arti_tree.specs.Rows.{Row, ids, row_of, with_row, without_row, RowsFrom}

pub lower : (m n : ℕ) (rows : List Row) → n ≤ m → RowsFrom m rows → RowsFrom n rows
lower m n [] le up = tt
lower m n (r ∷ rows) le up = (omega (arith, up.0), up.1)

pub lower_ids : (m n : ℕ) (xs : List ℕ) → n ≤ m → AscendFrom m xs → AscendFrom n xs
lower_ids m n [] le up = tt
lower_ids m n (x ∷ xs) le up = (omega (arith, up.0), up.1)

pub ids_ascend : (n : ℕ) (rows : List Row) → RowsFrom n rows → AscendFrom n (ids rows)
ids_ascend n [] up = tt
ids_ascend n (r ∷ rows) up = (up.0, ids_ascend (r.id + 1) rows up.1)

filtered_by : (b : Bool) (n : ℕ) (r : Row) (rows : List Row) → n ≤ r.id → AscendFrom (r.id + 1) (ids rows) → AscendFrom n (ids (cond b (r ∷ rows) rows))
filtered_by true n r rows le up = (le, up)
filtered_by false n r rows le up = lower_ids (r.id + 1) n (ids rows) (omega arith) up

pub filtered_ascend : (p : Row → Bool) (n : ℕ) (rows : List Row) → RowsFrom n rows → AscendFrom n (ids (filter p rows))
filtered_ascend p n [] up = tt
filtered_ascend p n (r ∷ rows) up = filtered_by (p r) n r (filter p rows) up.0 (filtered_ascend p (r.id + 1) rows up.1)

-- no row has a lesser id
pub none_below : (n : ℕ) (rows : List Row) (id : ℕ) → RowsFrom n rows → id < n → row_of rows id ≡ None
none_below n [] id up less = refl
none_below n (r ∷ rows) id up less = ap (λ b. cond b (Some r) (row_of rows id)) (ne_eqb r.id id (λ e. omega (arith, up.0))) ∙ none_below (r.id + 1) rows id up.1 (omega (arith, up.0))

pub cond_none : (b : Bool) (r : Row) (o : Option Row) → cond b (Some r) o ≡ None → (b ≡ false) × (o ≡ None)
cond_none true r o e = cc
cond_none false r o e = (refl, e)

-- with one row more

pub first_row : (n : ℕ) (r : Row) (rows : List Row) → RowsFrom n rows → r.id < n → with_row r rows ≡ r ∷ rows
first_row n r [] up less = refl
first_row n r (x ∷ rows) up less = ap (λ b. cond b (r ∷ x ∷ rows) (x ∷ with_row r rows)) (lt-ltb r.id x.id (omega (arith, up.0)))

first_id : (n id : ℕ) (xs : List ℕ) → AscendFrom n xs → id < n → with_id id xs ≡ id ∷ xs
first_id n id [] up less = refl
first_id n id (x ∷ xs) up less = ap (λ b. cond b (id ∷ x ∷ xs) (x ∷ with_id id xs)) (lt-ltb id x (omega (arith, up.0)))

find_no_by : (b : Bool) (p : Row → Bool) (r x : Row) (rows w : List Row) → p r ≡ false → find p w ≡ find p rows → find p (cond b (r ∷ x ∷ rows) (x ∷ w)) ≡ find p (x ∷ rows)
find_no_by true p r x rows w fails same = ap (λ t. cond t (Some r) (find p (x ∷ rows))) fails
find_no_by false p r x rows w fails same = ap (λ o. cond (p x) (Some x) o) same

pub find_with_no : (p : Row → Bool) (r : Row) (rows : List Row) → p r ≡ false → find p (with_row r rows) ≡ find p rows
find_with_no p r [] fails = ap (λ t. cond t (Some r) None) fails
find_with_no p r (x ∷ rows) fails = find_no_by (nat_lt r.id x.id) p r x rows (with_row r rows) fails (find_with_no p r rows fails)

find_yes_by : (b : Bool) (p : Row → Bool) (r x : Row) (rows w : List Row) → p r ≡ true → p x ≡ false → find p w ≡ Some r → find p (cond b (r ∷ x ∷ rows) (x ∷ w)) ≡ Some r
find_yes_by true p r x rows w holds fails found = ap (λ t. cond t (Some r) (find p (x ∷ rows))) holds
find_yes_by false p r x rows w holds fails found = ap (λ t. cond t (Some x) (find p w)) fails ∙ found

pub find_with_yes : (p : Row → Bool) (r : Row) (rows : List Row) → p r ≡ true → find p rows ≡ None → find p (with_row r rows) ≡ Some r
find_with_yes p r [] holds none = ap (λ t. cond t (Some r) None) holds
find_with_yes p r (x ∷ rows) holds none =
    let parts = cond_none (p x) x (find p rows) none in
    find_yes_by (nat_lt r.id x.id) p r x rows (with_row r rows) holds parts.0 (find_with_yes p r rows holds parts.1)

filter_no_by : (b : Bool) (p : Row → Bool) (r x : Row) (rows w : List Row) → p r ≡ false → filter p w ≡ filter p rows → filter p (cond b (r ∷ x ∷ rows) (x ∷ w)) ≡ filter p (x ∷ rows)
filter_no_by true p r x rows w fails same = ap (λ t. cond t (r ∷ filter p (x ∷ rows)) (filter p (x ∷ rows))) fails
filter_no_by false p r x rows w fails same = ap (λ l. cond (p x) (x ∷ l) l) same

pub filter_with_no : (p : Row → Bool) (r : Row) (rows : List Row) → p r ≡ false → filter p (with_row r rows) ≡ filter p rows
filter_with_no p r [] fails = ap (λ t. cond t (r ∷ []) []) fails
filter_with_no p r (x ∷ rows) fails = filter_no_by (nat_lt r.id x.id) p r x rows (with_row r rows) fails (filter_with_no p r rows fails)

ids_kept_by : (t b : Bool) (r x : Row) (l w : List Row) → nat_lt r.id x.id ≡ false → ids w ≡ with_id r.id (ids l) → ids (cond t (x ∷ w) w) ≡ with_id r.id (ids (cond t (x ∷ l) l))
ids_kept_by true b r x l w behind same = ap (λ (k : List ℕ). x.id ∷ k) same ∙ sym (ap (λ t. cond t (r.id ∷ x.id ∷ ids l) (x.id ∷ with_id r.id (ids l))) behind)
ids_kept_by false b r x l w behind same = same

filter_yes_by : (b : Bool) (p : Row → Bool) (n : ℕ) (r x : Row) (rows w : List Row) → nat_lt r.id x.id ≡ b → RowsFrom n (x ∷ rows) → p r ≡ true → ids (filter p w) ≡ with_id r.id (ids (filter p rows))
    → ids (filter p (cond b (r ∷ x ∷ rows) (x ∷ w))) ≡ with_id r.id (ids (filter p (x ∷ rows)))
filter_yes_by true p n r x rows w is up holds same =
    let less : r.id < x.id = ltb-true r.id x.id is in
    ap (λ t. ids (cond t (r ∷ filter p (x ∷ rows)) (filter p (x ∷ rows)))) holds ∙ sym (first_id x.id r.id (ids (filter p (x ∷ rows))) (filtered_ascend p x.id (x ∷ rows) (omega arith, up.1)) less)
filter_yes_by false p n r x rows w is up holds same = ids_kept_by (p x) false r x (filter p rows) (filter p w) is same

pub filter_with_yes : (p : Row → Bool) (n : ℕ) (r : Row) (rows : List Row) → RowsFrom n rows → p r ≡ true → ids (filter p (with_row r rows)) ≡ with_id r.id (ids (filter p rows))
filter_with_yes p n r [] up holds = ap (λ t. ids (cond t (r ∷ []) [])) holds
filter_with_yes p n r (x ∷ rows) up holds = filter_yes_by (nat_lt r.id x.id) p n r x rows (with_row r rows) refl up holds (filter_with_yes p (x.id + 1) r rows up.1 holds)

ids_with_by : (b : Bool) (r x : Row) (rows w : List Row) → ids w ≡ with_id r.id (ids rows) → ids (cond b (r ∷ x ∷ rows) (x ∷ w)) ≡ cond b (r.id ∷ x.id ∷ ids rows) (x.id ∷ with_id r.id (ids rows))
ids_with_by true r x rows w same = refl
ids_with_by false r x rows w same = ap (λ (k : List ℕ). x.id ∷ k) same

pub ids_with : (r : Row) (rows : List Row) → ids (with_row r rows) ≡ with_id r.id (ids rows)
ids_with r [] = refl
ids_with r (x ∷ rows) = ids_with_by (nat_lt r.id x.id) r x rows (with_row r rows) (ids_with r rows)

-- it stands at some place
pub record PutAt (r : Row) (rows more : List Row) : Type 0 where
  pub place : ℕ
  pub within : place ≤ length rows
  pub is : more ≡ insert rows place r

put_by : (b : Bool) (r x : Row) (rows w : List Row) → PutAt r rows w → PutAt r (x ∷ rows) (cond b (r ∷ x ∷ rows) (x ∷ w))
put_by true r x rows w h = record { place = 0; within = omega arith; is = refl }
put_by false r x rows w h = record { place = suc h.place; within = omega (arith, h.within); is = ap (λ l. x ∷ l) h.is }

pub put_at : (r : Row) (rows : List Row) → PutAt r rows (with_row r rows)
put_at r [] = record { place = 0; within = omega arith; is = refl }
put_at r (x ∷ rows) = put_by (nat_lt r.id x.id) r x rows (with_row r rows) (put_at r rows)

from_by : (b : Bool) (n : ℕ) (r x : Row) (rows w : List Row) → nat_lt r.id x.id ≡ b → RowsFrom n (x ∷ rows) → n ≤ r.id → eqb x.id r.id ≡ false → (x.id + 1 ≤ r.id → RowsFrom (x.id + 1) w) → RowsFrom n (cond b (r ∷ x ∷ rows) (x ∷ w))
from_by true n r x rows w is up le differs rest = (le, (omega (arith, ltb-true r.id x.id is), up.1))
from_by false n r x rows w is up le differs rest = (up.0, rest (let h = ltb-false r.id x.id is in let ne : x.id ≢ r.id = eqb-false x.id r.id differs in omega arith))

pub rows_from_with : (n : ℕ) (r : Row) (rows : List Row) → RowsFrom n rows → n ≤ r.id → row_of rows r.id ≡ None → RowsFrom n (with_row r rows)
rows_from_with n r [] up le none = (le, tt)
rows_from_with n r (x ∷ rows) up le none =
    let parts = cond_none (eqb x.id r.id) x (row_of rows r.id) none in
    from_by (nat_lt r.id x.id) n r x rows (with_row r rows) refl up le parts.0 (λ more. rows_from_with (x.id + 1) r rows up.1 more parts.1)

-- without a row

keep_by : (b : Bool) (x : Row) (rows w : List Row) → b ≡ true → w ≡ rows → cond b (x ∷ w) w ≡ x ∷ rows
keep_by b x rows w holds same = ap (λ t. cond t (x ∷ w) w) holds ∙ ap (λ l. x ∷ l) same

-- where all ids are greater, none is left out
pub keeps_rows : (id n : ℕ) (rows : List Row) → RowsFrom n rows → id < n → without_row id rows ≡ rows
keeps_rows id n [] up less = refl
keeps_rows id n (x ∷ rows) up less = keep_by (not (eqb x.id id)) x rows (without_row id rows) (ap not (ne_eqb x.id id (λ e. omega (arith, up.0)))) (keeps_rows id (x.id + 1) rows up.1 (omega (arith, up.0)))

-- where no row has the id, none is left out
pub without_none : (id : ℕ) (rows : List Row) → row_of rows id ≡ None → without_row id rows ≡ rows
without_none id [] none = refl
without_none id (x ∷ rows) none =
    let parts = cond_none (eqb x.id id) x (row_of rows id) none in
    keep_by (not (eqb x.id id)) x rows (without_row id rows) (ap not parts.0) (without_none id rows parts.1)

from_without_by : (b : Bool) (n : ℕ) (x : Row) (w : List Row) → n ≤ x.id → RowsFrom (x.id + 1) w → RowsFrom n (cond b (x ∷ w) w)
from_without_by true n x w le up = (le, up)
from_without_by false n x w le up = lower (x.id + 1) n w (omega arith) up

pub rows_from_without : (n id : ℕ) (rows : List Row) → RowsFrom n rows → RowsFrom n (without_row id rows)
rows_from_without n id [] up = tt
rows_from_without n id (x ∷ rows) up = from_without_by (not (eqb x.id id)) n x (without_row id rows) up.0 (rows_from_without (x.id + 1) id rows up.1)

ids_without_by : (b : Bool) (x : Row) (rows w : List Row) (id : ℕ) → eqb x.id id ≡ b → ids w ≡ without_id id (ids rows) → ids (cond (not b) (x ∷ w) w) ≡ cond (not b) (x.id ∷ without_id id (ids rows)) (without_id id (ids rows))
ids_without_by true x rows w id is same = same
ids_without_by false x rows w id is same = ap (λ (k : List ℕ). x.id ∷ k) same

pub ids_without : (id : ℕ) (rows : List Row) → ids (without_row id rows) ≡ without_id id (ids rows)
ids_without id [] = refl
ids_without id (x ∷ rows) = ids_without_by (eqb x.id id) x rows (without_row id rows) id refl (ids_without id rows)

filter_without_by : (b t : Bool) (p : Row → Bool) (x : Row) (rows w : List Row) (id : ℕ) → eqb x.id id ≡ b → p x ≡ t → ids (filter p w) ≡ without_id id (ids (filter p rows))
    → ids (filter p (cond (not b) (x ∷ w) w)) ≡ without_id id (ids (cond t (x ∷ filter p rows) (filter p rows)))
filter_without_by true true p x rows w id is passes same = same ∙ sym (ap (λ e. cond (not e) (x.id ∷ without_id id (ids (filter p rows))) (without_id id (ids (filter p rows)))) is)
filter_without_by true false p x rows w id is passes same = same
filter_without_by false true p x rows w id is passes same =
    ap (λ t. ids (cond t (x ∷ filter p w) (filter p w))) passes ∙ ap (λ (k : List ℕ). x.id ∷ k) same ∙ sym (ap (λ e. cond (not e) (x.id ∷ without_id id (ids (filter p rows))) (without_id id (ids (filter p rows)))) is)
filter_without_by false false p x rows w id is passes same = ap (λ t. ids (cond t (x ∷ filter p w) (filter p w))) passes ∙ same

pub filter_without : (p : Row → Bool) (id : ℕ) (rows : List Row) → ids (filter p (without_row id rows)) ≡ without_id id (ids (filter p rows))
filter_without p id [] = refl
filter_without p id (x ∷ rows) = filter_without_by (eqb x.id id) (p x) p x rows (without_row id rows) id refl refl (filter_without p id rows)

-- it stood at some place
pub record TakenAt (r : Row) (rows less : List Row) : Type 0 where
  pub place : ℕ
  pub within : place < length rows
  pub there : get_or rows place r ≡ r
  pub is : less ≡ remove rows place

taken_by : (b : Bool) (id n : ℕ) (r x : Row) (rows : List Row) → eqb x.id id ≡ b → RowsFrom n (x ∷ rows) → cond b (Some x) (row_of rows id) ≡ Some r → (row_of rows id ≡ Some r → TakenAt r rows (without_row id rows))
    → TakenAt r (x ∷ rows) (cond (not b) (x ∷ without_row id rows) (without_row id rows))
taken_by true id n r x rows is up found rest = record {
  place = 0;
  within = omega arith;
  there = let same : x ≡ r = cc in same;
  is = keeps_rows id (x.id + 1) rows up.1 (omega (arith, eqb-true x.id id is));
}
taken_by false id n r x rows is up found rest =
    let h = rest found in
    record { place = suc h.place; within = omega (arith, h.within); there = h.there; is = ap (λ l. x ∷ l) h.is }

pub taken_at : (id n : ℕ) (r : Row) (rows : List Row) → RowsFrom n rows → row_of rows id ≡ Some r → TakenAt r rows (without_row id rows)
taken_at id n r [] up found = cc
taken_at id n r (x ∷ rows) up found = taken_by (eqb x.id id) id n r x rows refl up found (taken_at id (x.id + 1) r rows up.1)

find_without_by : (b t : Bool) (p : Row → Bool) (x y : Row) (rows w : List Row) → p x ≡ t → (t ≡ true → x ≡ y → b ≡ false) → cond t (Some x) (find p rows) ≡ Some y → (find p rows ≡ Some y → find p w ≡ Some y) → find p (cond (not b) (x ∷ w) w) ≡ Some y
find_without_by true true p x y rows w passes ne found rest = let same : x ≡ y = cc in cc (ne refl same)
find_without_by true false p x y rows w passes ne found rest = rest found
find_without_by false true p x y rows w passes ne found rest = ap (λ t. cond t (Some x) (find p w)) passes ∙ found
find_without_by false false p x y rows w passes ne found rest = ap (λ t. cond t (Some x) (find p w)) passes ∙ rest found

-- another row is still found
pub find_without : (p : Row → Bool) (id : ℕ) (y : Row) (rows : List Row) → find p rows ≡ Some y → y.id ≢ id → find p (without_row id rows) ≡ Some y
find_without p id y [] found ne = cc
find_without p id y (x ∷ rows) found ne =
    find_without_by (eqb x.id id) (p x) p x y rows (without_row id rows) refl (λ _ same. ne_eqb x.id id (λ e. ne (ap (λ (r : Row). r.id) (sym same) ∙ e))) found (λ rest. find_without p id y rows rest ne)

none_without_by : (b : Bool) (p : Row → Bool) (x : Row) (w : List Row) → (b ≡ false → p x ≡ false) → find p w ≡ None → find p (cond (not b) (x ∷ w) w) ≡ None
none_without_by true p x w fails none = none
none_without_by false p x w fails none = ap (λ t. cond t (Some x) (find p w)) (fails refl) ∙ none

-- nothing is found where nothing was
pub still_none : (p : Row → Bool) (id : ℕ) (rows : List Row) → find p rows ≡ None → find p (without_row id rows) ≡ None
still_none p id [] none = refl
still_none p id (x ∷ rows) none =
    let parts = cond_none (p x) x (find p rows) none in
    none_without_by (eqb x.id id) p x (without_row id rows) (λ _. parts.0) (still_none p id rows parts.1)

-- the row of the id is gone
pub gone : (id : ℕ) (rows : List Row) → row_of (without_row id rows) id ≡ None
gone id [] = refl
gone id (x ∷ rows) = none_without_by (eqb x.id id) (λ r. eqb r.id id) x (without_row id rows) (λ e. e) (gone id rows)

skips_by : (b : Bool) (p : Row → Bool) (id n : ℕ) (r x : Row) (rows : List Row) → eqb x.id id ≡ b → RowsFrom n (x ∷ rows) → cond b (Some x) (row_of rows id) ≡ Some r → p r ≡ false → (row_of rows id ≡ Some r → filter p (without_row id rows) ≡ filter p rows)
    → filter p (cond (not b) (x ∷ without_row id rows) (without_row id rows)) ≡ filter p (x ∷ rows)
skips_by true p id n r x rows is up found fails rest =
    let same : x ≡ r = cc in
    ap (filter p) (keeps_rows id (x.id + 1) rows up.1 (omega (arith, eqb-true x.id id is))) ∙ sym (ap (λ t. cond t (x ∷ filter p rows) (filter p rows)) (ap p same ∙ fails))
skips_by false p id n r x rows is up found fails rest = ap (λ l. cond (p x) (x ∷ l) l) (rest found)

-- a row that doesn't pass is not missed
pub filter_skips : (p : Row → Bool) (id n : ℕ) (r : Row) (rows : List Row) → RowsFrom n rows → row_of rows id ≡ Some r → p r ≡ false → filter p (without_row id rows) ≡ filter p rows
filter_skips p id n r [] up found fails = cc
filter_skips p id n r (x ∷ rows) up found fails = skips_by (eqb x.id id) p id n r x rows refl up found fails (λ rest. filter_skips p id (x.id + 1) r rows up.1 rest fails)
