-- The rows within a key, found level by level from the row of the key on.
use Rattle.std.proofs.Common.{◌≡◌, ◌≢◌, ℕ, ◌+◌, ◌<◌, ◌≤◌, ⊎_elim, zero, suc, Bool, true, false, cond, eqb, List, [], ◌∷◌, ◌++◌, length, get_or, take, Option, Some, None, option_map, refl, sym, ap, ◌∙◌, subst, arith, length-append}
use Rattle.std.specs.Prelude.{◌||◌, ◌==◌}
use Rattle.std.specs.Option.{option_map_or}
use Rattle.std.specs.List.{filter}
use Rattle.std.proofs.Math.Seq.{take-length}
use Rattle.std.proofs.lemmas.Bool.{eqb-true, eqb-false, eq-eqb, ne_eqb, false_from_ne_true, or_cases, or_right, cases_Bool}
use Rattle.std.proofs.lemmas.List.{length-map}
use Rattle.arti_rows.specs.Key.{Key, whole_of, same_key}
use Rattle.arti_rows.specs.Names.{IsKey}
use Rattle.arti_tree.specs.Rows.{Row, ids, row_of, folder_of, lies_in, IsLive, IsTree, RowsFrom}
use Rattle.arti_tree.specs.Renames.{is_within, has, Once, AreWithin}
use Rattle.arti_tree.proofs.RowLists.{filtered_ascend}
use Rattle.arti_tree.proofs.Rises.{found_live, found_passes}
use Rattle.arti_tree.proofs.Folders.{lying, lies}
use Rattle.arti_tree.proofs.Above.{shorter, folder_key}
use Rattle.arti_tree.proofs.Under.{Under, Within, Path, within_cases, within_is, within_itself, under_within, within_folder, path_under, folder_in}
use Rattle.arti_tree.proofs.Members.{once, has_rows, first_has, false_true}
use Rattle.arti_tree.proofs.Mapped.{one_id, one_key, both_ways}
use Rattle.arti_rows.specs.KeyLaws.{same_key-true}

-- the row of an id is within a key
pub record Found (rows : List Row) (from : Key) (i : ℕ) : Type 0 where
  pub row : Row
  pub live : IsLive rows row
  pub is : row.id ≡ i
  pub of : row_of rows i ≡ Some row
  pub within : is_within from row.key ≡ true

-- the row of one of the ids is the folder that a row lies in
pub record Parent (rows : List Row) (ids : List ℕ) (x : Row) : Type 0 where
  pub row : Row
  pub live : IsLive rows row
  pub has_it : has ids row.id ≡ true
  pub lies : lies_in row.key x ≡ true

-- ids of rows within a key: what lies in the first n is among them, and they came by that
pub record FindsWithin (rows : List Row) (from : Key) (id : ℕ) (found : List ℕ) (n : ℕ) : Type 0 where
  pub within : n ≤ length found
  pub once : Once found
  pub sound : (i : ℕ) → has found i ≡ true → Found rows from i
  pub top : has found id ≡ true
  pub closed : (x f : Row) → IsLive rows x → IsLive rows f → lies_in f.key x ≡ true → has (take n found) f.id ≡ true → has found x.id ≡ true
  pub parents : (x : Row) → IsLive rows x → has found x.id ≡ true → x.id ≢ id → Parent rows (take n found) x

or_left : (a b : Bool) → a ≡ true → (a || b) ≡ true
or_left true b e = refl
or_left false b e = cc

none_of_both : (a b : Bool) → a ≡ false → b ≡ false → (a || b) ≡ false
none_of_both true b e f = cc
none_of_both false b e f = f

or_assoc : (a b c : Bool) → (a || b) || c ≡ a || (b || c)
or_assoc true b c = refl
or_assoc false b c = refl

pub has_append : (xs ys : List ℕ) (i : ℕ) → has (xs ++ ys) i ≡ (has xs i || has ys i)
has_append [] ys i = refl
has_append (x ∷ xs) ys i = ap (λ b. (x == i) || b) (has_append xs ys i) ∙ sym (or_assoc (x == i) (has xs i) (has ys i))

once_append : (xs ys : List ℕ) → Once xs → Once ys → ((i : ℕ) → has xs i ≡ true → has ys i ≡ false) → Once (xs ++ ys)
once_append [] ys a b apart = b
once_append (x ∷ xs) ys a b apart = (
  has_append xs ys x ∙ none_of_both (has xs x) (has ys x) a.0 (apart x (first_has x xs)),
  once_append xs ys a.1 b (λ i e. apart i (or_right (x == i) (has xs i) e)),
)

-- one more of the first ones
has_next : (xs : List ℕ) (n i : ℕ) → n < length xs → has (take (n + 1) xs) i ≡ (has (take n xs) i || (get_or xs n 0 == i))
has_next [] n i below = absurd (omega arith)
has_next (x ∷ xs) zero i below = by (x == i)
  where
    by : (b : Bool) → b || false ≡ b
    by true = refl
    by false = refl
has_next (x ∷ xs) (suc n) i below =
    let e : suc n + 1 ≡ suc (n + 1) = omega arith in
    ap (λ m. has (take m (x ∷ xs)) i) e ∙ ap (λ b. (x == i) || b) (has_next xs n i (omega arith)) ∙ sym (or_assoc (x == i) (has (take n xs) i) (get_or xs n 0 == i))

take_front : (xs ys : List ℕ) (n : ℕ) → n ≤ length xs → take n (xs ++ ys) ≡ take n xs
take_front xs ys zero le = refl
take_front [] ys (suc n) le = absurd (omega arith)
take_front (x ∷ xs) ys (suc n) le = ap (λ (l : List ℕ). x ∷ l) (take_front xs ys n (omega arith))

at_has : (xs : List ℕ) (n : ℕ) → n < length xs → has xs (get_or xs n 0) ≡ true
at_has [] n below = absurd (omega arith)
at_has (x ∷ xs) zero below = first_has x xs
at_has (x ∷ xs) (suc n) below = or_right (x == get_or xs n 0) (has xs (get_or xs n 0)) (at_has xs n (omega arith))

-- an id isn't among those before it
once_before : (xs : List ℕ) (n : ℕ) → Once xs → n < length xs → has (take n xs) (get_or xs n 0) ≡ false
once_before [] n a below = absurd (omega arith)
once_before (x ∷ xs) zero a below = refl
once_before (x ∷ xs) (suc n) a below =
    none_of_both (x == get_or xs n 0) (has (take n xs) (get_or xs n 0))
    (ne_eqb x (get_or xs n 0) (λ e. false_true (has xs x) a.0 (ap (has xs) e ∙ at_has xs n (omega arith)))) (once_before xs n a.1 (omega arith))

-- without the first of an id
less : ℕ → List ℕ → List ℕ
less x [] = []
less x (y ∷ ys) = cond (y == x) ys (y ∷ less x ys)

less_long : (b : Bool) (x y : ℕ) (ys : List ℕ) → (y == x) ≡ b → has (y ∷ ys) x ≡ true → (has ys x ≡ true → length ys ≡ length (less x ys) + 1) → length (y ∷ ys) ≡ length (cond b ys (y ∷ less x ys)) + 1
less_long true x y ys is e rest = omega arith
less_long false x y ys is e rest = omega (arith, rest (sym (ap (λ b. b || has ys x) is) ∙ e))

long_less : (x : ℕ) (ys : List ℕ) → has ys x ≡ true → length ys ≡ length (less x ys) + 1
unfolding less
long_less x [] e = cc
long_less x (y ∷ ys) e = less_long (y == x) x y ys refl e (long_less x ys)

less_by : (b : Bool) (x y i : ℕ) (ys w : List ℕ) → (y == x) ≡ b → x ≢ i → has w i ≡ has ys i → has (cond b ys (y ∷ w)) i ≡ has (y ∷ ys) i
less_by true x y i ys w is ne e = sym (ap (λ b. b || has ys i) (ne_eqb y i (λ s. ne (sym (eqb-true y x is) ∙ s))))
less_by false x y i ys w is ne e = ap (λ b. (y == i) || b) e

has_less : (x i : ℕ) (ys : List ℕ) → x ≢ i → has (less x ys) i ≡ has ys i
unfolding less
has_less x i [] ne = refl
has_less x i (y ∷ ys) ne = less_by (y == x) x y i ys (less x ys) refl ne (has_less x i ys ne)

-- ids that differ and are all in a list are no more than it has
once_few : (xs ys : List ℕ) → Once xs → ((i : ℕ) → has xs i ≡ true → has ys i ≡ true) → length xs ≤ length ys
once_few [] ys a all = omega arith
once_few (x ∷ xs) ys a all =
    let one : length ys ≡ length (less x ys) + 1 = long_less x ys (all x (first_has x xs)) in
    let rest : length xs ≤ length (less x ys) = once_few xs (less x ys) a.1 (λ i e. has_less x i ys (λ same. false_true (has xs x) a.0 (ap (has xs) same ∙ e)) ∙ all i (or_right (x == i) (has xs i) e)) in
    omega arith

pub has_id : (rows : List Row) (i : ℕ) (x : Row) → row_of rows i ≡ Some x → has (ids rows) i ≡ true
has_id [] i x e = cc
has_id (y ∷ rows) i x e = by (eqb y.id i) (row_of rows i) e (has_id rows i x)
  where
    by : (b : Bool) (o : Option Row) → cond b (Some y) o ≡ Some x → (o ≡ Some x → has (ids rows) i ≡ true) → (b || has (ids rows) i) ≡ true
    by true o e rest = refl
    by false o e rest = rest e

pub found_by : (rows : List Row) (p : Row → Bool) (i : ℕ) (o : Option Row) → RowsFrom 0 rows → row_of rows i ≡ o → option_map_or p o false ≡ true → (x : Row) × IsLive rows x × (x.id ≡ i) × (row_of rows i ≡ Some x) × (p x ≡ true)
found_by rows p i None up is e = cc
found_by rows p i (Some x) up is e = (x, found_live (λ r. eqb r.id i) 0 rows x up is, eqb-true x.id i (found_passes (λ r. eqb r.id i) rows x is), is, e)

-- the row of an id that stands among those within a key
pub found_at : (rows : List Row) (from : Key) (w : List ℕ) (n : ℕ) → RowsFrom 0 rows → AreWithin rows from w → n < length w → Found rows from (get_or w n 0)
found_at rows from w n up is_w below =
    let i : ℕ = get_or w n 0 in
    let x = found_by rows (λ r. is_within from r.key) i (row_of rows i) up refl (sym (is_w.each i) ∙ at_has w n below) in
    record { row = x.0; live = x.1; is = x.2; of = x.3; within = x.4 }

module _ (rows : List Row) (from : Key) (tree : IsTree rows) (from_is : IsKey from) (r : Row) (r_live : IsLive rows r) (r_key : r.key ≡ from) where
  -- a row within isn't the folder of the top one
  not_above : (p : Row) → IsLive rows p → is_within from p.key ≡ true → lies_in p.key r ≡ true → ⊥
  not_above p live e lay =
      let l = lying p.key r lay in
      let w : Within from p.key = within_is from p.key (tree.keys p live) e in
      let less : length (whole_of (folder_of r.key)) < length (whole_of r.key) = shorter r.key (tree.keys r r_live) l.0 in
      let a : length (whole_of (folder_of r.key)) ≡ length (whole_of p.key) = ap (λ (k : Key). length (whole_of k)) l.1 in
      let b : length (whole_of r.key) ≡ length (whole_of from) = ap (λ (k : Key). length (whole_of k)) r_key in
      let c : length (whole_of p.key) ≡ length (whole_of from ++ w.rest) = ap (λ (s : List ℕ). length s) w.whole in
      omega (arith, length-append (whole_of from) w.rest)

  -- what lies in a row within is within
  into : (p x : Row) → IsLive rows x → is_within from p.key ≡ true → lies_in p.key x ≡ true → is_within from x.key ≡ true
  into p x live e lay =
      let l = lying p.key x lay in
      let is = tree.keys x live in
      under_within from x.key from_is (within_folder from x.key from_is is l.0 (ap (is_within from) l.1 ∙ e) (folder_key x.key is l.0))

  -- two folders of a row are one
  one_folder : (f p x : Row) → IsLive rows f → IsLive rows p → lies_in f.key x ≡ true → lies_in p.key x ≡ true → f ≡ p
  one_folder f p x f_live p_live a b = one_key rows f p tree.differ f_live p_live (sym (lying f.key x a).1 ∙ (lying p.key x b).1)

  pub start : FindsWithin rows from r.id (r.id ∷ []) 0
  start = record {
    within = omega arith;
    once = (refl, tt);
    sound = λ i e. let same : r.id ≡ i = eqb-true r.id i (only i e) in record { row = r; live = r_live; is = same; of = ap (row_of rows) (sym same) ∙ r_live; within = ap (is_within from) r_key ∙ within_itself from };
    top = first_has r.id [];
    closed = λ x f x_live f_live lay e. cc;
    parents = λ x live e ne. absurd (ne (sym (eqb-true r.id x.id (only x.id e))));
  }
    where
      only : (i : ℕ) → has (r.id ∷ []) i ≡ true → eqb r.id i ≡ true
      only i e = by (eqb r.id i) e
        where
          by : (b : Bool) → b || false ≡ true → b ≡ true
          by true e = refl
          by false e = cc

  module _ (found : List ℕ) (n : ℕ) (s : FindsWithin rows from r.id found n) (below : n < length found) (p : Row) (p_live : IsLive rows p) (p_id : p.id ≡ get_or found n 0) where
    inside : List ℕ
    inside = ids (filter (lies_in p.key) rows)

    p_within : is_within from p.key ≡ true
    p_within =
        let f = s.sound (get_or found n 0) (at_has found n below) in
        let same : f.row ≡ p = one_id rows f.row p f.live p_live (f.is ∙ sym p_id) in
        ap (λ (x : Row). is_within from x.key) (sym same) ∙ f.within

    in_it : (i : ℕ) → has (ids (filter (lies_in p.key) rows)) i ≡ true → (x : Row) × IsLive rows x × (x.id ≡ i) × (row_of rows i ≡ Some x) × (lies_in p.key x ≡ true)
    in_it i e = found_by rows (lies_in p.key) i (row_of rows i) tree.ascend refl (sym (has_rows (lies_in p.key) 0 rows i tree.ascend) ∙ e)

    lies_has : (x : Row) → IsLive rows x → lies_in p.key x ≡ true → has (ids (filter (lies_in p.key) rows)) x.id ≡ true
    lies_has x live e = has_rows (lies_in p.key) 0 rows x.id tree.ascend ∙ ap (λ o. option_map_or (lies_in p.key) o false) live ∙ e

    first_ones : (i : ℕ) → has (take (n + 1) (found ++ ids (filter (lies_in p.key) rows))) i ≡ (has (take n found) i || (p.id == i))
    first_ones i =
        ap (λ (l : List ℕ). has l i) (take_front found (ids (filter (lies_in p.key) rows)) (n + 1) (omega arith)) ∙ has_next found n i below ∙ ap (λ m. has (take n found) i || (m == i)) (sym p_id)

    apart : (i : ℕ) → has found i ≡ true → has (ids (filter (lies_in p.key) rows)) i ≡ false
    apart i e = false_from_ne_true (has (ids (filter (lies_in p.key) rows)) i) (λ c.
        let x = in_it i c in
        ⊎_elim
        (λ (a : eqb x.0.id r.id ≡ true).
        let same : x.0 ≡ r = one_id rows x.0 r x.1 r_live (eqb-true x.0.id r.id a) in
        not_above p p_live p_within (ap (lies_in p.key) (sym same) ∙ x.4))
        (λ (a : eqb x.0.id r.id ≡ false).
        let q = s.parents x.0 x.1 (ap (has found) x.2 ∙ e) (eqb-false x.0.id r.id a) in
        let same : q.row ≡ p = one_folder q.row p x.0 q.live p_live q.lies x.4 in
        false_true (has (take n found) (get_or found n 0)) (once_before found n s.once below) (ap (has (take n found)) (sym (ap (λ (y : Row). y.id) same ∙ p_id)) ∙ q.has_it))
        (cases_Bool (eqb x.0.id r.id)))

    pub next : FindsWithin rows from r.id (found ++ ids (filter (lies_in p.key) rows)) (n + 1)
    next =
        let more : List ℕ = ids (filter (lies_in p.key) rows) in
        record {
          within = omega (arith, length-append found more);
          once = once_append found more s.once (once 0 more (filtered_ascend (lies_in p.key) 0 rows tree.ascend)) apart;
          sound = λ i e. ⊎_elim
              (λ (a : has found i ≡ true). s.sound i a)
              (λ (b : has more i ≡ true). let x = in_it i b in let f : Found rows from i = record { row = x.0; live = x.1; is = x.2; of = x.3; within = into p x.0 x.1 p_within x.4 } in f)
              (or_cases (has found i) (has more i) (sym (has_append found more i) ∙ e));
          top = has_append found more r.id ∙ or_left (has found r.id) (has more r.id) s.top;
          closed = λ x f x_live f_live lay e. has_append found more x.id ∙ ⊎_elim
              (λ (a : has (take n found) f.id ≡ true). or_left (has found x.id) (has more x.id) (s.closed x f x_live f_live lay a))
              (λ (b : eqb p.id f.id ≡ true).
              let same : f ≡ p = one_id rows f p f_live p_live (sym (eqb-true p.id f.id b)) in
              or_right (has found x.id) (has more x.id) (lies_has x x_live (ap (λ (y : Row). lies_in y.key x) (sym same) ∙ lay)))
              (or_cases (has (take n found) f.id) (p.id == f.id) (sym (first_ones f.id) ∙ e));
          parents = λ x live e ne. ⊎_elim
              (λ (a : has found x.id ≡ true). let q = s.parents x live a ne in let f : Parent rows (take (n + 1) (found ++ more)) x = record { row = q.row; live = q.live; has_it = first_ones q.row.id ∙ or_left (has (take n found) q.row.id) (p.id == q.row.id) q.has_it; lies = q.lies } in f)
              (λ (b : has more x.id ≡ true).
              let y = in_it x.id b in
              let same : y.0 ≡ x = one_id rows y.0 x y.1 live y.2 in
              let f : Parent rows (take (n + 1) (found ++ more)) x = record { row = p; live = p_live; has_it = first_ones p.id ∙ or_right (has (take n found) p.id) (p.id == p.id) (eq-eqb p.id p.id refl); lies = ap (lies_in p.key) (sym same) ∙ y.4 } in f)
              (or_cases (has found x.id) (has more x.id) (sym (has_append found more x.id) ∙ e));
        }

  -- no more are found than there are rows
  pub few : (found : List ℕ) (n : ℕ) → FindsWithin rows from r.id found n → length found ≤ length rows
  few found n s =
      let le : length found ≤ length (ids rows) = once_few found (ids rows) s.once (λ i e. let f = s.sound i e in has_id rows i f.row f.of) in
      omega (arith, length-map rows (λ (x : Row). x.id))

  complete : (found : List ℕ) (n m : ℕ) (x : Row) → FindsWithin rows from r.id found n → take n found ≡ found → length (whole_of x.key) < m → IsLive rows x → is_within from x.key ≡ true → has found x.id ≡ true
  complete found n zero x s all short live e = absurd (omega arith)
  complete found n (suc m) x s all short live e = ⊎_elim
      (λ (top : x.key ≡ from). let same : r ≡ x = one_key rows r x tree.differ r_live live (r_key ∙ sym top) in ap (λ (y : Row). has found y.id) (sym same) ∙ s.top)
      (λ (u : Under from x.key).
      let is = tree.keys x live in
      let p : Path from x.key = path_under from x.key is u in
      let f = tree.folders x live p.has in
      let f_live : IsLive rows f.row = found_live (λ y. same_key y.key (folder_of x.key)) 0 rows f.row tree.ascend f.there in
      let f_key : f.row.key ≡ folder_of x.key = same_key-true f.row.key (folder_of x.key) (found_passes (λ y. same_key y.key (folder_of x.key)) rows f.row f.there) in
      let less : length (whole_of f.row.key) < m = omega (arith, ap (λ (k : Key). length (whole_of k)) f_key, shorter x.key is p.has, short) in
      let there : has found f.row.id ≡ true = complete found n m f.row s all less f_live (ap (is_within from) f_key ∙ folder_in from x.key from_is is p u.repo) in
      s.closed x f.row live f_live (ap (λ (k : Key). lies_in k x) f_key ∙ lies x p.has) (ap (λ (l : List ℕ). has l f.row.id) all ∙ there))
      (within_cases from x.key (tree.keys x live) e)

  -- at the end they are all
  pub all_found : (found : List ℕ) (n : ℕ) → FindsWithin rows from r.id found n → length found ≤ n → AreWithin rows from found
  all_found found n s le =
      let same : n ≡ length found = omega (arith, s.within) in
      let all : take n found ≡ found = ap (λ m. take m found) same ∙ take-length found in
      record {
        once = s.once;
        each = λ i. both_ways (has found i) (option_map_or (λ x. is_within from x.key) (row_of rows i) false)
            (λ e. let f = s.sound i e in ap (λ o. option_map_or (λ (x : Row). is_within from x.key) o false) f.of ∙ f.within)
            (λ e. let x = found_by rows (λ x. is_within from x.key) i (row_of rows i) tree.ascend refl e in ap (has found) (sym x.2) ∙ complete found n (length (whole_of x.0.key) + 1) x.0 s all (omega arith) x.1 x.4);
      }

-- the row of an id and a key
pub record Top (rows : List Row) (id : ℕ) (from : Key) : Type 0 where
  pub row : Row
  pub live : IsLive rows row
  pub is : row.id ≡ id
  pub key : row.key ≡ from

top_by : (rows : List Row) (id : ℕ) (from : Key) (o : Option Row) → RowsFrom 0 rows → row_of rows id ≡ o → option_map (λ (r : Row). r.key) o ≡ Some from → Top rows id from
top_by rows id from None up is e = cc
top_by rows id from (Some r) up is e = record {
  row = r;
  live = found_live (λ x. eqb x.id id) 0 rows r up is;
  is = eqb-true r.id id (found_passes (λ x. eqb x.id id) rows r is);
  key = let same : r.key ≡ from = cc in same;
}

pub top_of : (rows : List Row) (id : ℕ) (from : Key) → RowsFrom 0 rows → option_map (λ (r : Row). r.key) (row_of rows id) ≡ Some from → Top rows id from
top_of rows id from up e = top_by rows id from (row_of rows id) up refl e

-- one of the ids of the rows that pass
pub record Member (rows : List Row) (p : Row → Bool) (id : ℕ) : Type 0 where
  pub row : Row
  pub live : IsLive rows row
  pub is : row.id ≡ id
  pub of : row_of rows id ≡ Some row
  pub passes : p row ≡ true

pub member : (rows : List Row) (p : Row → Bool) (list : List ℕ) (i : ℕ) → RowsFrom 0 rows → list ≡ ids (filter p rows) → i < length list → Member rows p (get_or list i 0)
member rows p list i up is below =
    let there : has (ids (filter p rows)) (get_or list i 0) ≡ true = ap (λ (l : List ℕ). has l (get_or list i 0)) (sym is) ∙ at_has list i below in
    let x = found_by rows p (get_or list i 0) (row_of rows (get_or list i 0)) up refl (sym (has_rows p 0 rows (get_or list i 0) up) ∙ there) in
    record { row = x.0; live = x.1; is = x.2; of = x.3; passes = x.4 }

-- what lies in a row within is within
pub lies_within : (rows : List Row) (from k : Key) → IsTree rows → IsKey from → is_within from k ≡ true → (x : Row) → IsLive rows x → lies_in k x ≡ true → is_within from x.key ≡ true
lies_within rows from k tree from_is e x live lay =
    let l = lying k x lay in
    let is = tree.keys x live in
    under_within from x.key from_is (within_folder from x.key from_is is l.0 (ap (is_within from) l.1 ∙ e) (folder_key x.key is l.0))

module _ (rows : List Row) (from : Key) (tree : IsTree rows) (from_is : IsKey from) (id : ℕ) (t : Top rows id from) where
  pub start_of : FindsWithin rows from id (id ∷ []) 0
  start_of = subst (λ (m : ℕ). FindsWithin rows from m (m ∷ []) 0) t.is (start rows from tree from_is t.row t.live t.key)

  back : (found : List ℕ) (n : ℕ) → FindsWithin rows from id found n → FindsWithin rows from t.row.id found n
  back found n s = subst (λ (m : ℕ). FindsWithin rows from m found n) (sym t.is) s

  pub next_of : (found : List ℕ) (n : ℕ) → FindsWithin rows from id found n → n < length found → (p : Row) → IsLive rows p → p.id ≡ get_or found n 0 → FindsWithin rows from id (found ++ ids (filter (lies_in p.key) rows)) (n + 1)
  next_of found n s below p live is = subst (λ (m : ℕ). FindsWithin rows from m (found ++ ids (filter (lies_in p.key) rows)) (n + 1)) t.is (next rows from tree from_is t.row t.live t.key found n (back found n s) below p live is)

  pub few_of : (found : List ℕ) (n : ℕ) → FindsWithin rows from id found n → length found ≤ length rows
  few_of found n s = few rows from tree from_is t.row t.live t.key found n (back found n s)

  pub all_of : (found : List ℕ) (n : ℕ) → FindsWithin rows from id found n → length found ≤ n → AreWithin rows from found
  all_of found n s le = all_found rows from tree from_is t.row t.live t.key found n (back found n s) le

  -- the row at a place
  pub row_at_place : (found : List ℕ) (n : ℕ) → FindsWithin rows from id found n → n < length found → Found rows from (get_or found n 0)
  row_at_place found n s below = s.sound (get_or found n 0) (at_has found n below)

-- an id that a list has stands at some place
pub place_of_id : (xs : List ℕ) (i : ℕ) → has xs i ≡ true → (k : ℕ) × (k < length xs) × (get_or xs k 0 ≡ i)
place_of_id [] i e = cc
place_of_id (x ∷ xs) i e = ⊎_elim
    (λ (a : eqb x i ≡ true). let p : (k : ℕ) × (k < length (x ∷ xs)) × (get_or (x ∷ xs) k 0 ≡ i) = (0, omega arith, eqb-true x i a) in p)
    (λ (b : has xs i ≡ true). let q = place_of_id xs i b in let p : (k : ℕ) × (k < length (x ∷ xs)) × (get_or (x ∷ xs) k 0 ≡ i) = (suc q.0, omega (arith, q.1), q.2) in p)
    (or_cases (x == i) (has xs i) e)
