-- The default order of rows as some come, go, or get other keys.
use Rattle.std.proofs.Common.{◌≡◌, ℕ, ◌+◌, ◌≤◌, Bool, true, false, cond, eqb, List, [], ◌∷◌, ◌++◌, refl, sym, ap, ◌∙◌, arith, Ordering, Less, Equal, Greater}
use Rattle.std.specs.Prelude.{All, ◌&&◌, not, nat_lt, map}
use Rattle.std.specs.List.{filter, count_by}
use Rattle.std.specs.Ordering.{is_lt}
use Rattle.std.proofs.lemmas.Bool.{eqb-true, eq-eqb, and_parts, and_from}
use Rattle.std.proofs.lemmas.List.Elements.{All-head, All-tail, All-cons, All-nil, All-append, All-filter, All-weaker, filter_passes}
use Rattle.std.proofs.lemmas.List.Sums.{sum_by-cons}
use Rattle.arti_rows.specs.Key.{Key, key_of, key_cmp, same_key}
use Rattle.arti_rows.specs.KeyLaws.{key_cmp-total, key_cmp-Less, key_cmp-Greater, key_cmp-Equal, same_key-Greater, same_key-Equal, same_key-refl, same_key-true}
use Rattle.arti_tree.specs.Rows.{Row, with_row}
use Rattle.arti_tree.specs.Adds.{with_rows}
use Rattle.arti_tree.specs.Renames.{is_within, moved_row, moved_whole}
use Rattle.arti_tree.specs.Kept.{Rising}
use Rattle.arti_tree.specs.ByKey.{put_row, put_rows, by_key, KeysOnce}

-- ---- counts

abbrev one : Bool → ℕ
one b = cond b 1 0

count-cons : (t : Row → Bool) (x : Row) (rows : List Row) → count_by t (x ∷ rows) ≡ one (t x) + count_by t rows
count-cons t x rows = sum_by-cons (λ r. cond (t r) 1 0) x rows

count-append : (t : Row → Bool) (xs ys : List Row) → count_by t (xs ++ ys) ≡ count_by t xs + count_by t ys
count-append t [] ys = no_more (count_by t ys)
  where
    no_more : (n : ℕ) → n ≡ 0 + n
    no_more n = omega arith
count-append t (x ∷ xs) ys = omega (arith, count-cons t x (xs ++ ys), count-cons t x xs, count-append t xs ys)

one-cases : (b : Bool) → one b ≤ 1
one-cases true = omega arith
one-cases false = omega arith

none_counted : (t : Row → Bool) (rows : List Row) → All (λ r. t r ≡ false) rows → count_by t rows ≡ 0
none_counted t [] none = refl
none_counted t (x ∷ rows) none =
    omega (arith, count-cons t x rows, ap one (All-head (λ r. t r ≡ false) x rows none), none_counted t rows (All-tail (λ r. t r ≡ false) x rows none))

filtered_by : (t p : Row → Bool) (b : Bool) (x : Row) (rows : List Row) → p x ≡ b → count_by t (filter p rows) ≡ count_by (λ r. t r && p r) rows → count_by t (cond b (x ∷ filter p rows) (filter p rows)) ≡ one (t x && b) + count_by (λ r. t r && p r) rows
filtered_by t p true x rows is e = omega (arith, count-cons t x (filter p rows), ap one (and_true (t x)), e)
  where
    and_true : (b : Bool) → (b && true) ≡ b
    and_true true = refl
    and_true false = refl
filtered_by t p false x rows is e = omega (arith, ap one (and_false (t x)), e)
  where
    and_false : (b : Bool) → (b && false) ≡ false
    and_false true = refl
    and_false false = refl

-- those that pass, counted
pub count-filter : (t p : Row → Bool) (rows : List Row) → count_by t (filter p rows) ≡ count_by (λ r. t r && p r) rows
count-filter t p [] = refl
count-filter t p (x ∷ rows) =
    ap (λ b. count_by t (cond b (x ∷ filter p rows) (filter p rows))) refl ∙ filtered_by t p (p x) x rows refl (count-filter t p rows) ∙ sym (count-cons (λ r. t r && p r) x rows)

-- ---- rows that rise

rising_append : (xs ys : List Row) (new : Row) → Rising xs → Rising ys → All (λ x. key_cmp x.key new.key ≡ Less) xs → All (λ y. key_cmp new.key y.key ≡ Less) ys → Rising (xs ++ new ∷ ys)
rising_append [] ys new up_x up_y below above = (above, up_y)
rising_append (x ∷ xs) ys new up_x up_y below above =
    let P : Row → Type 0 = λ y. key_cmp x.key y.key ≡ Less in
    let first : key_cmp x.key new.key ≡ Less = All-head (λ x. key_cmp x.key new.key ≡ Less) x xs below in (
      All-append P xs (new ∷ ys) up_x.0 (All-cons P new ys first (All-weaker (λ y. key_cmp new.key y.key ≡ Less) P (λ y more. key_cmp-total.trans x.key new.key y.key first more) ys above)),
      rising_append xs ys new up_x.1 up_y (All-tail (λ x. key_cmp x.key new.key ≡ Less) x xs below) above,
    )

rising_by : (b : Bool) (x : Row) (rows : List Row) → All (λ y. key_cmp x.key y.key ≡ Less) rows → Rising rows → Rising (cond b (x ∷ rows) rows)
rising_by true x rows all up = (all, up)
rising_by false x rows all up = up

pub rising_filter : (p : Row → Bool) (rows : List Row) → Rising rows → Rising (filter p rows)
rising_filter p [] up = tt
rising_filter p (x ∷ rows) up = rising_by (p x) x (filter p rows) (All-filter p (λ y. key_cmp x.key y.key ≡ Less) rows up.0) (rising_filter p rows up.1)

less_is : (o : Ordering) → is_lt o ≡ true → o ≡ Less
less_is Less e = refl
less_is Equal e = cc
less_is Greater e = cc

put_rising : (r : Row) (rows : List Row) → Rising rows → Rising (put_row r rows)
put_rising r rows up =
    let low : Row → Bool = λ x. is_lt (key_cmp x.key r.key) in
    let high : Row → Bool = λ x. is_lt (key_cmp r.key x.key) in
    rising_append (filter low rows) (filter high rows) r (rising_filter low rows up) (rising_filter high rows up)
    (All-weaker (λ x. low x ≡ true) (λ x. key_cmp x.key r.key ≡ Less) (λ x h. less_is (key_cmp x.key r.key) h) (filter low rows) (filter_passes low rows))
    (All-weaker (λ x. high x ≡ true) (λ x. key_cmp r.key x.key ≡ Less) (λ x h. less_is (key_cmp r.key x.key) h) (filter high rows) (filter_passes high rows))

pub by_key_rising : (rows : List Row) → Rising (by_key rows)
by_key_rising [] = tt
by_key_rising (r ∷ rows) = put_rising r (by_key rows) (by_key_rising rows)

pub put_rows_rising : (more rows : List Row) → Rising rows → Rising (put_rows more rows)
put_rows_rising [] rows up = up
put_rows_rising (r ∷ more) rows up = put_rows_rising more (put_row r rows) (put_rising r rows up)

-- ---- the same rows

-- with the rows below a key and those above it, all are counted where none has the key
three : (t : Row → Bool) (k : Key) (x : Row) → same_key x.key k ≡ false → one (t x && is_lt (key_cmp x.key k)) + one (t x && is_lt (key_cmp k x.key)) ≡ one (t x)
three t k x other = by (t x) (key_cmp x.key k) refl
  where
    by : (b : Bool) (o : Ordering) → key_cmp x.key k ≡ o → one (b && is_lt (key_cmp x.key k)) + one (b && is_lt (key_cmp k x.key)) ≡ one b
    by false o is = omega arith
    by true Less is = let e = ap is_lt is in let f = ap is_lt (key_cmp-Less x.key k is) in omega (arith, ap one e, ap one f)
    by true Greater is = let e = ap is_lt is in let f = ap is_lt (key_cmp-Greater x.key k is) in omega (arith, ap one e, ap one f)
    by true Equal is = absurd (no (sym other ∙ same_key-Equal x.key k is))
      where
        no : false ≡ true → ⊥
        no e = cc

two_parts : (t : Row → Bool) (k : Key) (rows : List Row) → All (λ x. same_key x.key k ≡ false) rows
    → count_by (λ r. t r && is_lt (key_cmp r.key k)) rows + count_by (λ r. t r && is_lt (key_cmp k r.key)) rows ≡ count_by t rows
two_parts t k [] apart = refl
two_parts t k (x ∷ rows) apart =
    omega (
      arith,
      count-cons (λ r. t r && is_lt (key_cmp r.key k)) x rows,
      count-cons (λ r. t r && is_lt (key_cmp k r.key)) x rows,
      count-cons t x rows,
      three t k x (All-head (λ x. same_key x.key k ≡ false) x rows apart),
      two_parts t k rows (All-tail (λ x. same_key x.key k ≡ false) x rows apart),
    )

none_by : (b : Bool) (n m : ℕ) → m ≡ one b + n → m ≡ 0 → (b ≡ false) × (n ≡ 0)
none_by true n m is e = absurd (omega (arith, is, e))
none_by false n m is e = (refl, omega (arith, is, e))

all_fail : (t : Row → Bool) (rows : List Row) → count_by t rows ≡ 0 → All (λ r. t r ≡ false) rows
all_fail t [] e = All-nil (λ r. t r ≡ false)
all_fail t (x ∷ rows) e =
    let p = none_by (t x) (count_by t rows) (count_by t (x ∷ rows)) (count-cons t x rows) e in
    All-cons (λ r. t r ≡ false) x rows p.0 (all_fail t rows p.1)

put_counts : (t : Row → Bool) (r : Row) (rows : List Row) → count_by (λ x. same_key x.key r.key) rows ≡ 0 → count_by t (put_row r rows) ≡ one (t r) + count_by t rows
put_counts t r rows none =
    let low : Row → Bool = λ x. is_lt (key_cmp x.key r.key) in
    let high : Row → Bool = λ x. is_lt (key_cmp r.key x.key) in
    omega (
      arith,
      count-append t (filter low rows) (r ∷ filter high rows),
      count-cons t r (filter high rows),
      count-filter t low rows,
      count-filter t high rows,
      two_parts t r.key rows (all_fail (λ x. same_key x.key r.key) rows none),
    )

-- a first row, and the others, of which none has its key
first_once : (r : Row) (rows : List Row) → KeysOnce (r ∷ rows) → (count_by (λ x. same_key x.key r.key) rows ≡ 0) × KeysOnce rows
first_once r rows once = (
  omega (arith, once r.key, count-cons (λ x. same_key x.key r.key) r rows, ap one (same_key-refl r.key)),
  λ k. omega (arith, once k, count-cons (λ x. same_key x.key k) r rows),
)

pub by_key_counts : (rows : List Row) → KeysOnce rows → (t : Row → Bool) → count_by t (by_key rows) ≡ count_by t rows
by_key_counts [] once t = refl
by_key_counts (r ∷ rows) once t =
    let f = first_once r rows once in
    let none : count_by (λ x. same_key x.key r.key) (by_key rows) ≡ 0 = by_key_counts rows f.1 (λ x. same_key x.key r.key) ∙ f.0 in
    omega (arith, put_counts t r (by_key rows) none, by_key_counts rows f.1 t, count-cons t r rows)

-- as many of each key, one after the other
put_rows_counts : (more rows : List Row) → KeysOnce (more ++ rows) → (t : Row → Bool) → count_by t (put_rows more rows) ≡ count_by t (more ++ rows)
put_rows_counts [] rows once t = refl
put_rows_counts (r ∷ more) rows once t =
    let f = first_once r (more ++ rows) once in
    let same : Row → Bool = λ x. same_key x.key r.key in
    let none : count_by same rows ≡ 0 = omega (arith, f.0, count-append same more rows) in
    let next : (s : Row → Bool) → count_by s (more ++ put_row r rows) ≡ one (s r) + count_by s (more ++ rows) = λ s. omega (arith, count-append s more (put_row r rows), put_counts s r rows none, count-append s more rows) in
    let still : KeysOnce (more ++ put_row r rows) = λ k. omega (arith, next (λ x. same_key x.key k), once k, count-cons (λ x. same_key x.key k) r (more ++ rows)) in
    omega (arith, put_rows_counts more (put_row r rows) still t, next t, count-cons t r (more ++ rows))

-- ---- one list alone rises

abbrev same_bool : Bool → Bool → Bool
same_bool true b = b
same_bool false b = not b

bool_refl : (b : Bool) → same_bool b b ≡ true
bool_refl true = refl
bool_refl false = refl

bool_is : (a b : Bool) → same_bool a b ≡ true → a ≡ b
bool_is true b e = sym e
bool_is false true e = cc
bool_is false false e = refl

-- a row is this one
abbrev is_row : Row → Row → Bool
is_row r x = same_key x.key r.key && (eqb x.id r.id && same_bool x.is_file r.is_file)

row_is : (a b : Row) → is_row b a ≡ true → a ≡ b
row_is a b e =
    let p = and_parts (same_key a.key b.key) (eqb a.id b.id && same_bool a.is_file b.is_file) e in
    let q = and_parts (eqb a.id b.id) (same_bool a.is_file b.is_file) p.1 in
    let m : Row = record { id = a.id; key = b.key; is_file = a.is_file } in
    let n : Row = record { id = b.id; key = b.key; is_file = a.is_file } in
    let one_step : a ≡ m = ap (λ (k : Key). record { id = a.id; key = k; is_file = a.is_file }) (same_key-true a.key b.key p.0) in
    let two_steps : m ≡ n = ap (λ (i : ℕ). record { id = i; key = b.key; is_file = a.is_file }) (eqb-true a.id b.id q.0) in
    let three_steps : n ≡ b = ap (λ (f : Bool). record { id = b.id; key = b.key; is_file = f }) (bool_is a.is_file b.is_file q.1) in
    one_step ∙ two_steps ∙ three_steps

row_refl : (r : Row) → is_row r r ≡ true
row_refl r = and_from (same_key r.key r.key) (eqb r.id r.id && same_bool r.is_file r.is_file) (same_key-refl r.key) (and_from (eqb r.id r.id) (same_bool r.is_file r.is_file) (eq-eqb r.id r.id refl) (bool_refl r.is_file))

and_no : (a b : Bool) → a ≡ false → (a && b) ≡ false
and_no a b e = ap (λ t. t && b) e

-- the first of a list that rises comes before another's first: then its key stands in that list nowhere
none_above : (k : Key) (y : Row) (ys : List Row) → Rising (y ∷ ys) → key_cmp k y.key ≡ Less → All (λ r. same_key r.key k ≡ false) (y ∷ ys)
none_above k y ys up less =
    All-cons (λ r. same_key r.key k ≡ false) y ys (same_key-Greater y.key k (key_cmp-Less k y.key less))
    (All-weaker (λ z. key_cmp y.key z.key ≡ Less) (λ r. same_key r.key k ≡ false) (λ z more. same_key-Greater z.key k (key_cmp-Less k z.key (key_cmp-total.trans k y.key z.key less more))) ys up.0)

not_less : (x y : Row) (xs ys : List Row) → Rising (y ∷ ys) → ((t : Row → Bool) → count_by t (x ∷ xs) ≡ count_by t (y ∷ ys)) → key_cmp x.key y.key ≡ Less → ⊥
not_less x y xs ys up same less =
    let t : Row → Bool = λ r. same_key r.key x.key in
    omega (arith, count-cons t x xs, ap one (same_key-refl x.key), same t, none_counted t (y ∷ ys) (none_above x.key y ys up less))

first_same : (x y : Row) (xs ys : List Row) → Rising (y ∷ ys) → ((t : Row → Bool) → count_by t (x ∷ xs) ≡ count_by t (y ∷ ys)) → key_cmp x.key y.key ≡ Equal → y ≡ x
first_same x y xs ys up same tie =
    let t : Row → Bool = is_row x in
    let key : x.key ≡ y.key = key_cmp-Equal x.key y.key tie in
    let rest : count_by t ys ≡ 0 = none_counted t ys (All-weaker (λ z. key_cmp y.key z.key ≡ Less) (λ r. t r ≡ false) (λ z more. and_no (same_key z.key x.key) (eqb z.id x.id && same_bool z.is_file x.is_file) (ap (same_key z.key) key ∙ same_key-Greater z.key y.key (key_cmp-Less y.key z.key more))) ys up.0) in
    row_is y x (by (t y) refl (omega (arith, count-cons t x xs, ap one (row_refl x), same t, count-cons t y ys, rest)))
  where
    by : (b : Bool) → is_row x y ≡ b → 1 ≤ one (is_row x y) → is_row x y ≡ true
    by true e some = e
    by false e some = absurd (omega (arith, some, ap one e))

-- rows that rise are the same list where they are the same rows
pub same_rising : (xs ys : List Row) → Rising xs → Rising ys → ((t : Row → Bool) → count_by t xs ≡ count_by t ys) → xs ≡ ys
same_rising [] [] up to same = refl
same_rising [] (y ∷ ys) up to same = absurd (omega (arith, same (λ _. true), count-cons (λ _. true) y ys))
same_rising (x ∷ xs) [] up to same = absurd (omega (arith, same (λ _. true), count-cons (λ _. true) x xs))
same_rising (x ∷ xs) (y ∷ ys) up to same = by (key_cmp x.key y.key) refl (λ counts. same_rising xs ys up.1 to.1 counts)
  where
    by : (o : Ordering) → key_cmp x.key y.key ≡ o → (((t : Row → Bool) → count_by t xs ≡ count_by t ys) → xs ≡ ys) → x ∷ xs ≡ y ∷ ys
    by Less is more = absurd (not_less x y xs ys to same is)
    by Greater is more = absurd (not_less y x ys xs up (λ t. sym (same t)) (key_cmp-Greater x.key y.key is))
    by Equal is more =
        let e = first_same x y xs ys to same is in
        let rest = more (λ t. omega (arith, same t, count-cons t x xs, count-cons t y ys, ap (λ r. one (t r)) e)) in
        ap (λ (l : List Row). x ∷ l) rest ∙ ap (λ (r : Row). r ∷ ys) (sym e)

-- ---- what put, remove and rename do

with_counts_by : (t : Row → Bool) (b : Bool) (r x : Row) (rows w : List Row) → count_by t w ≡ one (t r) + count_by t rows → count_by t (cond b (r ∷ x ∷ rows) (x ∷ w)) ≡ one (t r) + count_by t (x ∷ rows)
with_counts_by t true r x rows w e = count-cons t r (x ∷ rows)
with_counts_by t false r x rows w e = omega (arith, count-cons t x w, count-cons t x rows, e)

with_counts : (t : Row → Bool) (r : Row) (rows : List Row) → count_by t (with_row r rows) ≡ one (t r) + count_by t rows
with_counts t r [] = count-cons t r []
with_counts t r (x ∷ rows) = with_counts_by t (nat_lt r.id x.id) r x rows (with_row r rows) (with_counts t r rows)

-- a row that comes stands at its place
pub by_key-with_row : (r : Row) (rows : List Row) → KeysOnce (with_row r rows) → by_key (with_row r rows) ≡ put_row r (by_key rows)
by_key-with_row r rows once =
    let same : Row → Bool = λ x. same_key x.key r.key in
    let less : KeysOnce rows = λ k. omega (arith, once k, with_counts (λ x. same_key x.key k) r rows) in
    let none : count_by same (by_key rows) ≡ 0 = omega (arith, by_key_counts rows less same, once r.key, with_counts same r rows, ap one (same_key-refl r.key)) in
    same_rising (by_key (with_row r rows)) (put_row r (by_key rows)) (by_key_rising (with_row r rows)) (put_rising r (by_key rows) (by_key_rising rows))
    (λ t. omega (arith, by_key_counts (with_row r rows) once t, with_counts t r rows, put_counts t r (by_key rows) none, by_key_counts rows less t))

-- and rows that go leave the others in order
pub by_key-filter : (p : Row → Bool) (rows : List Row) → KeysOnce rows → by_key (filter p rows) ≡ filter p (by_key rows)
by_key-filter p rows once =
    let fewer : KeysOnce (filter p rows) = λ k. omega (arith, once k, count-filter (λ x. same_key x.key k) p rows, count-fewer (λ x. same_key x.key k) p rows) in
    same_rising (by_key (filter p rows)) (filter p (by_key rows)) (by_key_rising (filter p rows)) (rising_filter p (by_key rows) (by_key_rising rows))
    (λ t. omega (arith, by_key_counts (filter p rows) fewer t, count-filter t p rows, count-filter t p (by_key rows), by_key_counts rows once (λ r. t r && p r)))
  where
    and_less : (a b : Bool) → one (a && b) ≤ one a
    and_less true b = one-cases b
    and_less false b = omega arith

    count-fewer : (t q : Row → Bool) (l : List Row) → count_by (λ r. t r && q r) l ≤ count_by t l
    count-fewer t q [] = omega arith
    count-fewer t q (x ∷ l) = omega (arith, count-cons (λ r. t r && q r) x l, count-cons t x l, and_less (t x) (q x), count-fewer t q l)

count-map : (t : Row → Bool) (f : Row → Row) (rows : List Row) → count_by t (map f rows) ≡ count_by (λ r. t (f r)) rows
count-map t f [] = refl
count-map t f (x ∷ rows) = omega (arith, count-cons t (f x) (map f rows), count-cons (λ r. t (f r)) x rows, count-map t f rows)

module _ (f : Row → Row) (w : Row → Bool) (rest : (r : Row) → w r ≡ false → f r ≡ r) where
  -- those that change and the others
  moved_counts : (t : Row → Bool) (rows : List Row) → count_by t (map f (filter w rows) ++ filter (λ r. not (w r)) rows) ≡ count_by (λ r. t (f r)) rows
  moved_counts t [] = refl
  moved_counts t (x ∷ rows) = by (w x) refl (moved_counts t rows)
    where
      by : (b : Bool) → w x ≡ b → count_by t (map f (filter w rows) ++ filter (λ r. not (w r)) rows) ≡ count_by (λ r. t (f r)) rows → count_by t (map f (cond b (x ∷ filter w rows) (filter w rows)) ++ cond (not b) (x ∷ filter (λ r. not (w r)) rows) (filter (λ r. not (w r)) rows)) ≡ count_by (λ r. t (f r)) (x ∷ rows)
      by true is more = omega (arith, count-cons t (f x) (map f (filter w rows) ++ filter (λ r. not (w r)) rows), count-cons (λ r. t (f r)) x rows, more)
      by false is more =
          omega (
            arith,
            count-append t (map f (filter w rows)) (x ∷ filter (λ r. not (w r)) rows),
            count-append t (map f (filter w rows)) (filter (λ r. not (w r)) rows),
            count-cons t x (filter (λ r. not (w r)) rows),
            count-cons (λ r. t (f r)) x rows,
            ap (λ r. one (t r)) (rest x is),
            more,
          )

  -- rows that get other keys are put among the others
  pub by_key-map : (rows : List Row) → KeysOnce rows → KeysOnce (map f rows) → by_key (map f rows) ≡ put_rows (map f (filter w (by_key rows))) (filter (λ r. not (w r)) (by_key rows))
  by_key-map rows once after =
      let moved = map f (filter w (by_key rows)) in
      let others = filter (λ r. not (w r)) (by_key rows) in
      let counts : (t : Row → Bool) → count_by t (moved ++ others) ≡ count_by t (map f rows) = λ t. moved_counts t (by_key rows) ∙ by_key_counts rows once (λ r. t (f r)) ∙ sym (count-map t f rows) in
      let still : KeysOnce (moved ++ others) = λ k. omega (arith, counts (λ x. same_key x.key k), after k) in
      same_rising (by_key (map f rows)) (put_rows moved others) (by_key_rising (map f rows)) (put_rows_rising moved others (rising_filter (λ r. not (w r)) (by_key rows) (by_key_rising rows)))
      (λ t. omega (arith, by_key_counts (map f rows) after t, put_rows_counts moved others still t, counts t))

rising_one : (b : Bool) (k : Key) (x : Row) (rows : List Row) → Rising (x ∷ rows) → same_key x.key k ≡ b → count_by (λ r. same_key r.key k) rows ≤ 1 → one b + count_by (λ r. same_key r.key k) rows ≤ 1
rising_one false k x rows up is few = omega (arith, few)
rising_one true k x rows up is few =
    let t : Row → Bool = λ r. same_key r.key k in
    let none : count_by t rows ≡ 0 = none_counted t rows (All-weaker (λ y. key_cmp x.key y.key ≡ Less) (λ r. t r ≡ false) (λ y more. ap (same_key y.key) (sym (same_key-true x.key k is)) ∙ same_key-Greater y.key x.key (key_cmp-Less x.key y.key more)) rows up.0) in
    omega (arith, none)

-- rows whose keys rise have each key once
pub rising_once : (rows : List Row) → Rising rows → KeysOnce rows
rising_once [] up k = omega arith
rising_once (x ∷ rows) up k = omega (arith, count-cons (λ r. same_key r.key k) x rows, rising_one (same_key x.key k) k x rows up refl (rising_once rows up.1 k))

with_rows_counts : (t : Row → Bool) (more rows : List Row) → count_by t (with_rows more rows) ≡ count_by t more + count_by t rows
with_rows_counts t [] rows = no_more (count_by t rows)
  where
    no_more : (n : ℕ) → n ≡ 0 + n
    no_more n = omega arith
with_rows_counts t (r ∷ more) rows = omega (arith, with_rows_counts t more (with_row r rows), with_counts t r rows, count-cons t r more)

-- several rows that come
pub by_key-with_rows : (more rows : List Row) → KeysOnce (with_rows more rows) → by_key (with_rows more rows) ≡ put_rows more (by_key rows)
by_key-with_rows [] rows once = refl
by_key-with_rows (r ∷ more) rows once =
    let first : KeysOnce (with_row r rows) = λ k. omega (arith, once k, with_rows_counts (λ x. same_key x.key k) more (with_row r rows)) in
    by_key-with_rows more (with_row r rows) once ∙ ap (put_rows more) (by_key-with_row r rows first)

-- the rows within a key that gets another
pub by_key-moved : (from to : Key) (rows : List Row) → KeysOnce rows → KeysOnce (map (moved_row from to) rows)
    → by_key (map (moved_row from to) rows) ≡ put_rows (map (moved_row from to) (filter (λ r. is_within from r.key) (by_key rows))) (filter (λ r. not (is_within from r.key)) (by_key rows))
by_key-moved from to rows once after =
    by_key-map (moved_row from to) (λ r. is_within from r.key) (λ r out. ap (λ (k : Key). record { id = r.id; key = k; is_file = r.is_file }) (ap (λ b. cond b (key_of to.repo (moved_whole from to r.key)) r.key) out)) rows once after
