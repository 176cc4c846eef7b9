-- A row that goes with all rows beneath it, those beneath it first.
use Rattle.std.proofs.Common.{◌≡◌, ℕ, ◌+◌, ◌<◌, ◌≤◌, ⊎_elim, Bool, true, false, cond, eqb, List, [], ◌∷◌, length, Option, Some, None, refl, sym, ap, ◌∙◌, subst, arith}
use Rattle.std.specs.Prelude.{◌&&◌, ◌||◌, not}
use Rattle.std.specs.List.{filter, find, list_any}
use Rattle.std.proofs.lemmas.Bool.{eqb-true, eq-eqb, ne_eqb, or_cases, false_from_ne_true}
use Rattle.arti_rows.specs.Key.{Key, whole_of, folders_above, same_key}
use Rattle.arti_rows.specs.KeyLaws.{same_key-true, same_key-refl}
use Rattle.arti_tree.specs.Rows.{Row, row_of, row_at, lies_in, lies_beneath, without_row, IsLive, IsTree, RowsFrom}
use Rattle.arti_tree.specs.Renames.{is_within}
use Rattle.arti_tree.proofs.RowLists.{none_below}
use Rattle.arti_tree.proofs.Rises.{found_live, found_passes}
use Rattle.arti_tree.proofs.Folders.{none_passes}
use Rattle.arti_tree.proofs.Under.{Under, beneath_under, within_itself}
use Rattle.arti_tree.proofs.Staying.{leads, in_beneath, beneath_both}
use Rattle.std.proofs.lemmas.List.{length-append}

-- ---- filtered rows

twice_by : (a b : Bool) (p : Row → Bool) (x : Row) (l m : List Row) → p x ≡ b → filter p l ≡ m → filter p (cond a (x ∷ l) l) ≡ cond (a && b) (x ∷ m) m
twice_by true b p x l m is e = ap (λ t. cond t (x ∷ filter p l) (filter p l)) is ∙ ap (λ (k : List Row). cond b (x ∷ k) k) e
twice_by false b p x l m is e = e

pub filter_twice : (p q : Row → Bool) (rows : List Row) → filter q (filter p rows) ≡ filter (λ r. p r && q r) rows
filter_twice p q [] = refl
filter_twice p q (x ∷ rows) = twice_by (p x) (q x) q x (filter p rows) (filter (λ r. p r && q r) rows) refl (filter_twice p q rows)

-- a row behind the first is live there
live_behind : (x y : Row) (rows : List Row) → RowsFrom (x.id + 1) rows → row_of rows y.id ≡ Some y → row_of (x ∷ rows) y.id ≡ Some y
live_behind x y rows up live = ap (λ b. cond b (Some x) (row_of rows y.id)) (ne_eqb x.id y.id (λ e.
    let none : row_of rows y.id ≡ None = none_below (x.id + 1) rows y.id up (omega (arith, e)) in
    let never : None ≡ Some y = sym none ∙ live in cc)) ∙ live

agree_by : (a b : Bool) (x : Row) (l m : List Row) → a ≡ b → l ≡ m → cond a (x ∷ l) l ≡ cond b (x ∷ m) m
agree_by a b x l m e f = ap (λ t. cond t (x ∷ l) l) e ∙ ap (λ (k : List Row). cond b (x ∷ k) k) f

pub filter_agree : (p q : Row → Bool) (n : ℕ) (rows : List Row) → RowsFrom n rows → ((x : Row) → row_of rows x.id ≡ Some x → p x ≡ q x) → filter p rows ≡ filter q rows
filter_agree p q n [] up same = refl
filter_agree p q n (x ∷ rows) up same =
    agree_by (p x) (q x) x (filter p rows) (filter q rows) (same x (ap (λ b. cond b (Some x) (row_of rows x.id)) (eq-eqb x.id x.id refl)))
    (filter_agree p q (x.id + 1) rows up.1 (λ y live. same y (live_behind x y rows up.1 live)))

none_by : (b : Bool) (i : ℕ) (x : Row) (l : List Row) → (eqb x.id i ≡ false) → row_of l i ≡ None → row_of (cond b (x ∷ l) l) i ≡ None
none_by true i x l other none = ap (λ t. cond t (Some x) (row_of l i)) other ∙ none
none_by false i x l other none = none

none_left_by : (b : Bool) (p : Row → Bool) (i : ℕ) (x : Row) (rows : List Row) → eqb x.id i ≡ b → cond b (Some x) (row_of rows i) ≡ None → (row_of rows i ≡ None → row_of (filter p rows) i ≡ None) → row_of (cond (p x) (x ∷ filter p rows) (filter p rows)) i ≡ None
none_left_by true p i x rows is e more = cc
none_left_by false p i x rows is e more = none_by (p x) i x (filter p rows) is (more e)

none_left : (p : Row → Bool) (i : ℕ) (rows : List Row) → row_of rows i ≡ None → row_of (filter p rows) i ≡ None
none_left p i [] none = refl
none_left p i (x ∷ rows) none = none_left_by (eqb x.id i) p i x rows refl none (none_left p i rows)

-- what is left under an id
pub left_of : (p : Row → Bool) (n i : ℕ) (rows : List Row) (x : Row) → RowsFrom n rows → row_of rows i ≡ Some x → row_of (filter p rows) i ≡ cond (p x) (Some x) None
left_of p n i [] x up live = cc
left_of p n i (y ∷ rows) x up live = by (eqb y.id i) (p y) refl refl live (λ l. left_of p (y.id + 1) i rows x up.1 l)
  where
    by : (b t : Bool) → eqb y.id i ≡ b → p y ≡ t → cond b (Some y) (row_of rows i) ≡ Some x → (row_of rows i ≡ Some x → row_of (filter p rows) i ≡ cond (p x) (Some x) None) → row_of (cond t (y ∷ filter p rows) (filter p rows)) i ≡ cond (p x) (Some x) None
    by true true is passes e more =
        let same : y ≡ x = cc in
        ap (λ b. cond b (Some y) (row_of (filter p rows) i)) is ∙ ap Some same ∙ sym (ap (λ b. cond b (Some x) None) (sym (ap p same) ∙ passes))
    by true false is fails e more =
        let same : y ≡ x = cc in
        none_left p i rows (none_below (y.id + 1) rows i up.1 (omega (arith, eqb-true y.id i is))) ∙ sym (ap (λ b. cond b (Some x) None) (sym (ap p same) ∙ fails))
    by false true is passes e more = ap (λ b. cond b (Some y) (row_of (filter p rows) i)) is ∙ more e
    by false false is fails e more = more e

-- and what is left was there
pub was_there : (p : Row → Bool) (i : ℕ) (rows : List Row) (x : Row) → RowsFrom 0 rows → row_of (filter p rows) i ≡ Some x → row_of rows i ≡ Some x
was_there p i rows x up left = by (row_of rows i) refl
  where
    some_by : (b : Bool) (y : Row) → cond b (Some y) None ≡ Some x → y ≡ x
    some_by true y e = cc
    some_by false y e = cc

    by : (o : Option Row) → row_of rows i ≡ o → row_of rows i ≡ Some x
    by None is = let never : None ≡ Some x = sym (none_left p i rows is) ∙ left in cc
    by (Some y) is = is ∙ ap Some (some_by (p y) y (sym (left_of p 0 i rows y up is) ∙ left))

shorter_by : (b : Bool) (x : Row) (l m : List Row) → length l ≤ length m → length (cond b (x ∷ l) l) ≤ length (x ∷ m)
shorter_by true x l m le = omega (arith, le)
shorter_by false x l m le = omega (arith, le)

not_longer : (p : Row → Bool) (rows : List Row) → length (filter p rows) ≤ length rows
not_longer p [] = omega arith
not_longer p (x ∷ rows) = shorter_by (p x) x (filter p rows) rows (not_longer p rows)

less_by : (b t : Bool) (p : Row → Bool) (x y : Row) (l m : List Row) → cond b (Some y) (row_of m x.id) ≡ Some x → p x ≡ false → p y ≡ t → length l ≤ length m → (row_of m x.id ≡ Some x → length l < length m) → length (cond t (y ∷ l) l) < length (y ∷ m)
less_by true true p x y l m e out is le more = let same : y ≡ x = cc in let never : false ≡ true = sym out ∙ ap p (sym same) ∙ is in cc
less_by true false p x y l m e out is le more = omega (arith, le)
less_by false true p x y l m e out is le more = omega (arith, more e)
less_by false false p x y l m e out is le more = omega (arith, le)

-- one that goes makes them fewer
pub filter_fewer : (p : Row → Bool) (rows : List Row) (x : Row) → row_of rows x.id ≡ Some x → p x ≡ false → length (filter p rows) < length rows
filter_fewer p [] x live out = cc
filter_fewer p (y ∷ rows) x live out = less_by (eqb y.id x.id) (p y) p x y (filter p rows) rows live out refl (not_longer p rows) (λ l. filter_fewer p rows x l out)

pub fewer : (rows more : List Row) (x : Row) → IsLive rows x → more ≡ filter (λ r. not (is_within x.key r.key)) rows → length more < length rows
fewer rows more x live e =
    let less = filter_fewer (λ r. not (is_within x.key r.key)) rows x live (ap not (within_itself x.key)) in
    omega (arith, ap (λ (l : List Row). length l) e, less)

-- ---- what is left as the rows beneath one go

pub record Left (old : List Row) (id : ℕ) (now : List Row) : Type 0 where
  pub kept : Row → Bool
  pub is : now ≡ filter kept old
  pub others : (top x : Row) → row_of old id ≡ Some top → IsLive old x → lies_beneath top.key x ≡ false → kept x ≡ true

keep_all : (rows : List Row) → filter (λ _. true) rows ≡ rows
keep_all [] = refl
keep_all (x ∷ rows) = ap (λ (l : List Row). x ∷ l) (keep_all rows)

pub left_all : (old : List Row) (id : ℕ) → Left old id old
left_all old id = record { kept = λ _. true; is = sym (keep_all old); others = λ top x at live out. refl }

module _ (old : List Row) (tree : IsTree old) (id : ℕ) (top : Row) (at : row_of old id ≡ Some top) where
  live_top : IsLive old top
  live_top = found_live (λ r. eqb r.id id) 0 old top tree.ascend at

  -- a key isn't beneath itself
  not_itself : lies_beneath top.key top ≡ false
  not_itself = false_from_ne_true (lies_beneath top.key top) (λ e. let u : Under top.key top.key = beneath_under top.key top.key (tree.keys top live_top) e in omega (arith, ap (λ (l : List ℕ). length l) u.whole, length-append (whole_of top.key) (47 ∷ u.tail)))

  pub top_left : (now : List Row) → Left old id now → row_of now id ≡ Some top
  top_left now l =
      ap (λ (rows : List Row). row_of rows id) l.is ∙ left_of l.kept 0 id old top tree.ascend at ∙ ap (λ b. cond b (Some top) None) (l.others top top at live_top not_itself)

  both_out : (a b : Bool) → a ≡ true → b ≡ false → (a && not b) ≡ true
  both_out a b e f = ap (λ t. t && not b) e ∙ ap not f

  no_true : (b : Bool) → b ≡ false → b ≡ true → ⊥
  no_true b e f = let never : false ≡ true = sym e ∙ f in cc

  -- without one that lies in it, and all beneath that
  pub left_next : (now more : List Row) (c : Row) → Left old id now → row_of now c.id ≡ Some c → lies_in top.key c ≡ true → more ≡ filter (λ r. not (is_within c.key r.key)) now → Left old id more
  left_next now more c l live lies e =
      let c_live : IsLive old c = was_there l.kept c.id old c tree.ascend (sym (ap (λ (rows : List Row). row_of rows c.id) l.is) ∙ live) in
      let c_in = in_beneath old tree top.key c c_live lies in
      record {
        kept = λ r. l.kept r && not (is_within c.key r.key);
        is = e ∙ ap (filter (λ r. not (is_within c.key r.key))) l.is ∙ filter_twice l.kept (λ r. not (is_within c.key r.key)) old;
        others = λ t x t_at x_live out.
            let same : t ≡ top = one_row (row_of old id) t top t_at at in
            let out_top : lies_beneath top.key x ≡ false = ap (λ (r : Row). lies_beneath r.key x) (sym same) ∙ out in
            both_out (l.kept x) (is_within c.key x.key) (l.others t x t_at x_live out) (false_from_ne_true (is_within c.key x.key) (λ w. ⊎_elim
            (λ (same_c : same_key x.key c.key ≡ true). no_true (lies_beneath top.key x) out_top (under_key x c top.key (same_key-true x.key c.key same_c) c_in))
            (λ (below : lies_beneath c.key x ≡ true). no_true (lies_beneath top.key x) out_top (beneath_both old tree (length (whole_of x.key) + 1) top.key c x (omega arith) c_live x_live c_in below))
            (or_cases (same_key x.key c.key) (lies_beneath c.key x) w)));
      }
    where
      one_row : (o : Option Row) (x y : Row) → o ≡ Some x → o ≡ Some y → x ≡ y
      one_row o x y a b = let both : Some x ≡ Some y = sym a ∙ b in cc

      under_key : (x c : Row) (k : Key) → x.key ≡ c.key → lies_beneath k c ≡ true → lies_beneath k x ≡ true
      under_key x c k same e = subst (λ (j : Key). list_any (λ f. same_key f k) (folders_above j) ≡ true) (sym same) e

  one_of : (x : Row) → IsLive old x → x.key ≡ top.key → x ≡ top
  one_of x live same =
      let a : row_at old x.key ≡ Some x = tree.differ x live in
      let b : row_at old x.key ≡ Some top = ap (row_at old) same ∙ tree.differ top live_top in
      let both : Some x ≡ Some top = sym a ∙ b in cc

  by_id : (x : Row) → IsLive old x → eqb x.id id ≡ true → x ≡ top
  by_id x live e =
      let both : Some x ≡ Some top = sym live ∙ ap (row_of old) (eqb-true x.id id e) ∙ at in cc

  -- once nothing lies in it, it goes too
  pub left_none : (now more : List Row) → Left old id now → IsTree now → find (lies_in top.key) now ≡ None → more ≡ without_row id now → more ≡ filter (λ r. not (is_within top.key r.key)) old
  left_none now more l now_tree none e =
      e ∙ ap (without_row id) l.is ∙ filter_twice l.kept (λ r. not (eqb r.id id)) old ∙ filter_agree (λ r. l.kept r && not (eqb r.id id)) (λ r. not (is_within top.key r.key)) 0 old tree.ascend (λ x live. by x live (eqb x.id id) (lies_beneath top.key x) refl refl)
    where
      gone : (x : Row) → IsLive old x → lies_beneath top.key x ≡ true → l.kept x ≡ false
      gone x live below = false_from_ne_true (l.kept x) (λ kept.
          let there : row_of now x.id ≡ Some x = ap (λ (rows : List Row). row_of rows x.id) l.is ∙ left_of l.kept 0 x.id old x tree.ascend live ∙ ap (λ b. cond b (Some x) None) kept in
          let c = leads now now_tree (length (whole_of x.key) + 1) top.key x (omega arith) there below in
          none_passes (lies_in top.key) now c.child none c.live c.inside)

      no_and : (b : Bool) → (b && false) ≡ false
      no_and true = refl
      no_and false = refl

      yes_and : (b : Bool) → (b && true) ≡ b
      yes_and true = refl
      yes_and false = refl

      by : (x : Row) → IsLive old x → (b t : Bool) → eqb x.id id ≡ b → lies_beneath top.key x ≡ t → (l.kept x && not (eqb x.id id)) ≡ not (is_within top.key x.key)
      by x live true t is below =
          let same : x ≡ top = by_id x live is in
          ap (λ b. l.kept x && not b) is ∙ no_and (l.kept x) ∙ sym (ap not (ap (λ b. b || lies_beneath top.key x) (ap (λ (r : Row). same_key r.key top.key) same ∙ same_key-refl top.key)))
      by x live false t is below =
          let other : same_key x.key top.key ≡ false = false_from_ne_true (same_key x.key top.key) (λ s. let same : x ≡ top = one_of x live (same_key-true x.key top.key s) in no_true (eqb x.id id) is (ap (λ (r : Row). eqb r.id id) same ∙ top_id)) in
          ap (λ b. l.kept x && not b) is ∙ yes_and (l.kept x) ∙ rest t below ∙ sym (ap (λ b. not (b || lies_beneath top.key x)) other)
        where
          top_id : eqb top.id id ≡ true
          top_id = found_passes (λ r. eqb r.id id) old top at

          rest : (t : Bool) → lies_beneath top.key x ≡ t → l.kept x ≡ not (lies_beneath top.key x)
          rest true below = gone x live below ∙ sym (ap not below)
          rest false below = l.others top x at live below ∙ sym (ap not below)
