-- A row that goes with all beneath it: the rows and the lists of ids without them.
use Rattle.std.proofs.Common.{◌≡◌, ◌≢◌, ℕ, ◌+◌, ◌<◌, ◌≤◌, ⊎_elim, Bool, true, false, cond, eqb, List, [], ◌∷◌, length, get_or, Option, Some, None, refl, sym, ap, ◌∙◌, subst, arith}
use Rattle.std.specs.Prelude.{◌||◌, ◌&&◌, ◌==◌, not, nat_eq, IsSome}
use Rattle.std.specs.List.{filter, find, count_by, remove}
use Rattle.std.specs.Option.{option_map_or}
use Rattle.std.specs.Cmp.Lexicographic.{pointwise}
use Rattle.std.proofs.lemmas.Bool.{eqb-true, eqb-false, eq-eqb, ne_eqb, false_from_ne_true, cases_Bool, or_right}
use Rattle.std.proofs.lemmas.List.Sums.{sum_by-remove}
use Rattle.arti_rows.specs.Key.{Key, same_key}
use Rattle.arti_rows.specs.KeyLaws.{same_key-true}
use Rattle.arti_tree.specs.declared.slot.Slot.{Slot}
use Rattle.arti_tree.specs.Ids.{without_id}
use Rattle.arti_tree.specs.Rows.{Row, ids, row_of, folder_of, folder_id, has_folder, lies_in, is_of, without_row, without_rows, IsLive, IsTree, RowsFrom}
use Rattle.arti_tree.specs.Renames.{is_within, has, Once, AreWithin, Differ, without_within}
use Rattle.arti_tree.specs.Shifts.{without_ids}
use Rattle.arti_tree.specs.Slots.{at, row_with, live, is_it}
use Rattle.arti_tree.specs.Kept.{inside, Ordered, Kept}
use Rattle.arti_tree.proofs.RowLists.{lower, ids_without, filter_without, filter_skips, find_without, gone, taken_at}
use Rattle.arti_tree.proofs.Rises.{found_live, found_passes, others_differ}
use Rattle.arti_tree.proofs.Looks.{no_row, live_in}
use Rattle.arti_tree.proofs.Folders.{lying, lies, lies_by_id}
use Rattle.arti_tree.proofs.Members.{first_has}
use Rattle.arti_tree.proofs.Mapped.{one_id, one_key, some_rows}
use Rattle.arti_tree.proofs.Rekeys.{left_is, left_live, left_rising}
use Rattle.arti_tree.proofs.Felling.{filter_twice, filter_agree, was_there, left_of}
use Rattle.arti_tree.proofs.Finding.{lies_within}
use Rattle.arti_tree.proofs.Under.{Under, Path, within_cases, within_is, within_itself, path_under, folder_in}

none_some : {o : Option Row} {x : Row} → o ≡ None → o ≡ Some x → ⊥
none_some {o} {x} n s = let e : None ≡ Some x = sym n ∙ s in cc

false_true : (b : Bool) → b ≡ false → b ≡ true → ⊥
false_true b e f = let no : false ≡ true = sym e ∙ f in cc

-- ---- one row less

less_live : (rows : List Row) (id : ℕ) (x : Row) → RowsFrom 0 rows → IsLive (without_row id rows) x → IsLive rows x
less_live rows id x up is = was_there (λ r. not (eqb r.id id)) x.id rows x up is

less_other : (rows : List Row) (id : ℕ) (x : Row) → IsLive (without_row id rows) x → x.id ≢ id
less_other rows id x is e = none_some (subst (λ (i : ℕ). row_of (without_row id rows) i ≡ None) (sym e) (gone id rows)) is

pub differ_less : (rows : List Row) (id : ℕ) → RowsFrom 0 rows → Differ rows → Differ (without_row id rows)
differ_less rows id up differ x is = find_without (λ r. same_key r.key x.key) id x rows (differ x (less_live rows id x up is)) (less_other rows id x is)

taken_off : (a b c : ℕ) → a + c ≡ b → (d e : ℕ) → d + c ≡ e → b ≡ e → a ≡ d
taken_off a b c p d e q same = omega arith

-- the order without a row
pub order_left : (rows : List Row) (r : Row) → RowsFrom 0 rows → IsLive rows r → (order : List ℕ) (ordered : Ordered rows order) (i : ℕ) → i < length ordered.sorted → get_or ordered.sorted i no_row ≡ r → Ordered (without_row r.id rows) (remove order i)
order_left rows r up is_live order ordered i below at_i =
    let others = others_differ r no_row ordered.sorted i ordered.rising below at_i in
    let all = left_live rows r r.key up is_live order ordered i below at_i in
    record {
      sorted = remove ordered.sorted i;
      is = left_is rows r r.key up is_live order ordered i below at_i;
      live = λ k d within. let x = get_or (remove ordered.sorted i) k d in find_without (λ z. eqb z.id x.id) r.id x rows (all k d within) (λ e. others k d within (ap (λ (y : Row). y.key) (one_id rows x r (all k d within) is_live e)));
      same = λ test. let t = taken_at r.id 0 r rows up is_live in let f : Row → ℕ = λ x. cond (test x) 1 0 in
          taken_off (count_by test (remove ordered.sorted i)) (count_by test ordered.sorted) (f r) (ap (λ (y : Row). count_by test (remove ordered.sorted i) + f y) (sym at_i) ∙ sum_by-remove f ordered.sorted i no_row below)
          (count_by test (without_row r.id rows)) (count_by test rows) (ap (λ (y : Row). count_by test (without_row r.id rows) + f y) (sym t.there) ∙ ap (λ (l : List Row). count_by test l + f (get_or rows t.place r)) t.is ∙ sum_by-remove f rows t.place r t.within) (ordered.same test);
      rising = left_rising rows r r.key up is_live order ordered i below at_i;
    }

-- ---- several rows less

-- a slot of which it is told whether it was emptied, or is to be
slot_by : {T : Type 0} (a b : Bool) (none now then : T) → then ≡ cond b none now → cond a none then ≡ cond (b || a) none now
slot_by {T} true true none now then e = refl
slot_by {T} true false none now then e = refl
slot_by {T} false true none now then e = e
slot_by {T} false false none now then e = e

pub turned : (a b : ℕ) → (a == b) ≡ (b == a)
turned a b = ⊎_elim
    (λ (e : (a == b) ≡ true). e ∙ sym (eq-eqb b a (sym (eqb-true a b e))))
    (λ (e : (a == b) ≡ false). e ∙ sym (ne_eqb b a (λ same. eqb-false a b e (sym same))))
    (cases_Bool (a == b))

-- one more was emptied
pub emptied_next : {T : Type 0} (id : ℕ) (rest : List ℕ) (i : ℕ) (none now then : T) → then ≡ cond (i == id) none now → cond (has rest i) none then ≡ cond (has (id ∷ rest) i) none now
emptied_next {T} id rest i none now then e = slot_by (has rest i) (id == i) none now then (e ∙ ap (λ b. cond b none now) (turned i id))

-- the slots of those that are to go are filled still
pub record ToGo (slots : List (Option Slot)) (ids : List ℕ) : Type 0 where
  pub live : (i : ℕ) → has ids i ≡ true → IsSome (at slots i)
  pub once : Once ids

pub to_go_first : (slots : List (Option Slot)) (id : ℕ) (rest : List ℕ) → ToGo slots (id ∷ rest) → IsSome (at slots id)
to_go_first slots id rest t = t.live id (first_has id rest)

pub to_go_next : (slots more : List (Option Slot)) (id : ℕ) (rest : List ℕ) → ((i : ℕ) → at more i ≡ cond (i == id) None (at slots i)) → ToGo slots (id ∷ rest) → ToGo more rest
to_go_next slots more id rest each t = record {
  live = λ i e.
      let ne : i ≢ id = λ same. false_true (has rest id) t.once.0 (subst (λ (k : ℕ). has rest k ≡ true) same e) in
      subst (λ (o : Option Slot). IsSome o) (sym (each i ∙ ap (λ b. cond b None (at slots i)) (ne_eqb i id ne))) (t.live i (or_right (id == i) (has rest i) e));
  once = t.once.1;
}

pub ids_left : (gone : List ℕ) (rows : List Row) → ids (without_rows gone rows) ≡ without_ids gone (ids rows)
ids_left [] rows = refl
ids_left (id ∷ gone) rows = ids_left gone (without_row id rows) ∙ ap (without_ids gone) (ids_without id rows)

passing_left : (p : Row → Bool) (gone : List ℕ) (rows : List Row) → ids (filter p (without_rows gone rows)) ≡ without_ids gone (ids (filter p rows))
passing_left p [] rows = refl
passing_left p (id ∷ gone) rows = passing_left p gone (without_row id rows) ∙ ap (without_ids gone) (filter_without p id rows)

keep_all : (rows : List Row) → rows ≡ filter (λ _. true) rows
keep_all [] = refl
keep_all (x ∷ rows) = ap (λ (l : List Row). x ∷ l) (keep_all rows)

both_by : (b : Bool) (x : Row) (l m : List Row) → l ≡ m → cond b (x ∷ l) l ≡ cond b (x ∷ m) m
both_by b x l m e = ap (λ (k : List Row). cond b (x ∷ k) k) e

filter_same : (p q : Row → Bool) (rows : List Row) → ((x : Row) → p x ≡ q x) → filter p rows ≡ filter q rows
filter_same p q [] same = refl
filter_same p q (x ∷ rows) same = ap (λ b. cond b (x ∷ filter p rows) (filter p rows)) (same x) ∙ both_by (q x) x (filter p rows) (filter q rows) (filter_same p q rows same)

not_either : (a b : Bool) → (not a && not b) ≡ not (a || b)
not_either true b = refl
not_either false b = refl

-- at once
left_is_filter : (gone : List ℕ) (rows : List Row) → without_rows gone rows ≡ filter (λ r. not (has gone r.id)) rows
left_is_filter [] rows = keep_all rows
left_is_filter (id ∷ gone) rows =
    left_is_filter gone (without_row id rows) ∙ filter_twice (λ r. not (eqb r.id id)) (λ r. not (has gone r.id)) rows
    ∙ filter_same (λ r. not (eqb r.id id) && not (has gone r.id)) (λ r. not (has (id ∷ gone) r.id)) rows (λ x. not_either (eqb x.id id) (has gone x.id) ∙ ap (λ b. not (b || has gone x.id)) (turned x.id id))

-- ---- what is found among the rows that are left

found_left_by : (b t : Bool) (p q : Row → Bool) (y x : Row) (rows : List Row) → p y ≡ b → q y ≡ t → cond b (Some y) (find p rows) ≡ Some x → q x ≡ true → (find p rows ≡ Some x → find p (filter q rows) ≡ Some x) → find p (cond t (y ∷ filter q rows) (filter q rows)) ≡ Some x
found_left_by true true p q y x rows is keeps e kept rest = ap (λ c. cond c (Some y) (find p (filter q rows))) is ∙ e
found_left_by true false p q y x rows is keeps e kept rest = let same : y ≡ x = some_rows y x e in let never : false ≡ true = sym keeps ∙ ap q same ∙ kept in cc
found_left_by false true p q y x rows is keeps e kept rest = ap (λ c. cond c (Some y) (find p (filter q rows))) is ∙ rest e
found_left_by false false p q y x rows is keeps e kept rest = rest e

found_left : (p q : Row → Bool) (x : Row) (rows : List Row) → find p rows ≡ Some x → q x ≡ true → find p (filter q rows) ≡ Some x
found_left p q x [] e kept = cc
found_left p q x (y ∷ rows) e kept = found_left_by (p y) (q y) p q y x rows refl refl e kept (λ more. found_left p q x rows more kept)

from_filter_by : (b : Bool) (n : ℕ) (x : Row) (w : List Row) → n ≤ x.id → RowsFrom (x.id + 1) w → RowsFrom n (cond b (x ∷ w) w)
from_filter_by true n x w le up = (le, up)
from_filter_by false n x w le up = lower (x.id + 1) n w (omega arith) up

rows_from_filter : (p : Row → Bool) (n : ℕ) (rows : List Row) → RowsFrom n rows → RowsFrom n (filter p rows)
rows_from_filter p n [] up = tt
rows_from_filter p n (x ∷ rows) up = from_filter_by (p x) n x (filter p rows) up.0 (rows_from_filter p (x.id + 1) rows up.1)

kept_live : (p : Row → Bool) (rows : List Row) (x : Row) → RowsFrom 0 rows → IsLive (filter p rows) x → p x ≡ true
kept_live p rows x up is = by (p x) refl
  where
    by : (b : Bool) → p x ≡ b → p x ≡ true
    by true e = e
    by false e = absurd (none_some (left_of p 0 x.id rows x up (was_there p x.id rows x up is) ∙ ap (λ b. cond b (Some x) None) e) is)

-- ---- a row and all beneath it

module _ (rows : List Row) (tree : IsTree rows) (top : Row) (top_live : IsLive rows top) (gone : List ℕ) (within : AreWithin rows top.key gone) where
  abbrev keep : Row → Bool
  keep r = not (has gone r.id)

  abbrev left : List Row
  left = filter keep rows

  has_is : (x : Row) → IsLive rows x → has gone x.id ≡ is_within top.key x.key
  has_is x live = within.each x.id ∙ ap (λ o. option_map_or (λ (r : Row). is_within top.key r.key) o false) live

  pub rows_left : without_rows gone rows ≡ filter (λ r. not (is_within top.key r.key)) rows
  rows_left = left_is_filter gone rows ∙ filter_agree keep (λ r. not (is_within top.key r.key)) 0 rows tree.ascend (λ x live. ap not (has_is x live))

  -- what lies in one that goes goes too
  goes_too : (f x : Row) → IsLive rows f → IsLive rows x → lies_in f.key x ≡ true → has gone f.id ≡ true → has gone x.id ≡ true
  goes_too f x f_live live lay e = has_is x live ∙ lies_within rows top.key f.key tree (tree.keys top top_live) (sym (has_is f f_live) ∙ e) x live lay

  fewer_left : length left ≤ length rows
  fewer_left = shorter rows
    where
      by : (b : Bool) (x : Row) (l m : List Row) → length l ≤ length m → length (cond b (x ∷ l) l) ≤ length (x ∷ m)
      by true x l m le = omega (arith, le)
      by false x l m le = omega (arith, le)

      shorter : (l : List Row) → length (filter keep l) ≤ length l
      shorter [] = omega arith
      shorter (x ∷ l) = by (keep x) x (filter keep l) l (shorter l)

  pub tree_left : IsTree left
  tree_left = record {
    ascend = rows_from_filter keep 0 rows tree.ascend;
    few = omega (arith, fewer_left, tree.few);
    keys = λ x is. tree.keys x (was_there keep x.id rows x tree.ascend is);
    differ = λ x is. found_left (λ r. same_key r.key x.key) keep x rows (tree.differ x (was_there keep x.id rows x tree.ascend is)) (kept_live keep rows x tree.ascend is);
    folders = λ x is has_one.
        let live = was_there keep x.id rows x tree.ascend is in
        let kept = kept_live keep rows x tree.ascend is in
        let f = tree.folders x live has_one in
        let f_live : IsLive rows f.row = found_live (λ y. same_key y.key (folder_of x.key)) 0 rows f.row tree.ascend f.there in
        let f_key : same_key f.row.key (folder_of x.key) ≡ true = found_passes (λ y. same_key y.key (folder_of x.key)) rows f.row f.there in
        let lay : lies_in f.row.key x ≡ true = lies_here f.row.key x has_one (same_key-true f.row.key (folder_of x.key) f_key) in
        let f_kept : keep f.row ≡ true = stays f.row x (λ e. goes_too f.row x f_live live lay e) kept in
        record { row = f.row; there = found_left (λ r. same_key r.key (folder_of x.key)) keep f.row rows f.there f_kept; folder = f.folder };
  }
    where
      lies_here : (k : Key) (x : Row) → has_folder x.key ≡ true → k ≡ folder_of x.key → lies_in k x ≡ true
      lies_here k x has_one e = subst (λ (j : Key). lies_in j x ≡ true) (sym e) (lies x has_one)

      stays : (f x : Row) → (has gone f.id ≡ true → has gone x.id ≡ true) → keep x ≡ true → keep f ≡ true
      stays f x down kept = by (has gone f.id) refl
        where
          by : (b : Bool) → has gone f.id ≡ b → not (has gone f.id) ≡ true
          by true e = let never : false ≡ true = sym (ap not (down e)) ∙ kept in cc
          by false e = ap not e

  -- ---- the lists

  -- of what lies in one that is left, the topmost row alone goes
  only_top : (x y : Row) → IsLive rows x → IsLive rows y → has gone x.id ≡ false → lies_in x.key y ≡ true → has gone y.id ≡ eqb y.id top.id
  only_top x y x_live live stays lay = by (eqb y.id top.id) refl
    where
      never_under : Under top.key y.key → ⊥
      never_under u =
          let is = tree.keys y live in
          let p : Path top.key y.key = path_under top.key y.key is u in
          let up : is_within top.key (folder_of y.key) ≡ true = folder_in top.key y.key (tree.keys top top_live) is p u.repo in
          false_true (has gone x.id) stays (has_is x x_live ∙ ap (is_within top.key) (sym (lying x.key y lay).1) ∙ up)

      by : (b : Bool) → eqb y.id top.id ≡ b → has gone y.id ≡ eqb y.id top.id
      by true e =
          let same : y ≡ top = one_id rows y top live top_live (eqb-true y.id top.id e) in
          has_is y live ∙ ap (λ (r : Row). is_within top.key r.key) same ∙ within_itself top.key ∙ sym e
      by false e = has_is y live ∙ false_from_ne_true (is_within top.key y.key) (λ w. ⊎_elim
          (λ (same : y.key ≡ top.key). eqb-false y.id top.id e (ap (λ (r : Row). r.id) (one_key rows y top tree.differ live top_live same)))
          never_under
          (within_cases top.key y.key (tree.keys y live) w)) ∙ sym e

  agree_by : (b g t : Bool) → (b ≡ true → g ≡ t) → (not t && b) ≡ (not g && b)
  agree_by true g t e = ap (λ c. not c && true) (sym (e refl))
  agree_by false true true e = refl
  agree_by false true false e = refl
  agree_by false false true e = refl
  agree_by false false false e = refl

  inside_left : (x : Row) → IsLive rows x → has gone x.id ≡ false → filter (lies_in x.key) (without_row top.id rows) ≡ filter (lies_in x.key) left
  inside_left x x_live stays =
      filter_twice (λ r. not (eqb r.id top.id)) (lies_in x.key) rows
      ∙ filter_agree (λ r. not (eqb r.id top.id) && lies_in x.key r) (λ r. keep r && lies_in x.key r) 0 rows tree.ascend (λ y live. agree_by (lies_in x.key y) (has gone y.id) (eqb y.id top.id) (λ lay. only_top x y x_live live stays lay))
      ∙ sym (filter_twice keep (lies_in x.key) rows)

  without_by : (b : Bool) (x : Row) → lies_in x.key top ≡ b → cond b (without_id top.id (ids (filter (lies_in x.key) rows))) (ids (filter (lies_in x.key) rows)) ≡ ids (filter (lies_in x.key) (without_row top.id rows))
  without_by true x is = sym (filter_without (lies_in x.key) top.id rows)
  without_by false x is = sym (ap ids (filter_skips (lies_in x.key) top.id 0 top rows tree.ascend top_live is))

  pub list_left : (x : Row) → IsLive rows x → has gone x.id ≡ false → (b : Bool) → lies_in x.key top ≡ b → cond b (without_id top.id (ids (filter (lies_in x.key) rows))) (ids (filter (lies_in x.key) rows)) ≡ ids (filter (lies_in x.key) left)
  list_left x live stays b is = without_by b x is ∙ ap ids (inside_left x live stays)

  pub repo_left : (q : List ℕ) (b : Bool) → pointwise nat_eq q top.key.repo ≡ b → cond b (without_ids gone (ids (filter (is_of q) rows))) (ids (filter (is_of q) rows)) ≡ ids (filter (is_of q) left)
  repo_left q true is = sym (passing_left (is_of q) gone rows) ∙ ap (λ (l : List Row). ids (filter (is_of q) l)) (left_is_filter gone rows)
  repo_left q false is =
      ap ids (filter_agree (is_of q) (λ r. keep r && is_of q r) 0 rows tree.ascend (λ y live. by y live (has gone y.id) (is_of q y) refl refl) ∙ sym (filter_twice keep (is_of q) rows))
    where
      by : (y : Row) → IsLive rows y → (g b : Bool) → has gone y.id ≡ g → is_of q y ≡ b → is_of q y ≡ (not (has gone y.id) && is_of q y)
      by y live false b e f = sym (ap (λ t. not t && is_of q y) e)
      by y live true false e f = f ∙ sym (ap (λ t. not t && is_of q y) e)
      by y live true true e f =
          let w = within_is top.key y.key (tree.keys y live) (sym (has_is y live) ∙ e) in
          absurd (false_true (pointwise nat_eq q top.key.repo) is (ap (pointwise nat_eq q) (sym w.repo) ∙ f))

  pub all_left : ids left ≡ without_ids gone (ids rows)
  all_left = sym (ap ids (left_is_filter gone rows)) ∙ ids_left gone rows

-- ---- each list is kept

module _ (slots new_slots : List (Option Slot)) (s : Slot) (id : ℕ) (all order : List ℕ) (lists new_lists : ℕ → List ℕ) (repos new_repos : List ℕ → List ℕ) (kept : Kept slots all order lists repos)
    (there : at slots id ≡ Some s) (gone : List ℕ) (within : AreWithin (live 0 slots) s.key gone) where
  abbrev rows : List Row
  rows = live 0 slots

  abbrev top : Row
  top = row_with id s

  top_live : IsLive rows top
  top_live = live_in slots id s there

  abbrev others : List Row
  others = filter (λ r. not (has gone r.id)) rows

  module _ (rows_are : live 0 new_slots ≡ without_rows gone rows)
      (slots_are : (i : ℕ) → at new_slots i ≡ cond (has gone i) None (at slots i))
      (lists_are : (i : ℕ) → new_lists i ≡ cond (has gone i) [] (cond (is_it (folder_id rows s.key) i) (without_id id (lists i)) (lists i))) where
    left_here : live 0 new_slots ≡ others
    left_here = rows_are ∙ left_is_filter gone rows

    children_by : (i : ℕ) (b : Bool) (o : Option Slot) → has gone i ≡ b → at slots i ≡ o → cond b [] (cond (is_it (folder_id rows s.key) i) (without_id id (lists i)) (lists i)) ≡ inside others (cond b None o)
    children_by i true o is was = refl
    children_by i false None is was =
        let none : lists i ≡ [] = kept.children_are i ∙ ap (inside rows) was in
        empty_either (is_it (folder_id rows s.key) i) (lists i) none
      where
        empty_either : (b : Bool) (l : List ℕ) → l ≡ [] → cond b (without_id id l) l ≡ []
        empty_either true l e = ap (without_id id) e
        empty_either false l e = e
    children_by i false (Some t) is was =
        let x : Row = row_with i t in
        let x_live = live_in slots i t was in
        ap (λ (l : List ℕ). cond (is_it (folder_id rows s.key) i) (without_id id l) l) (kept.children_are i ∙ ap (inside rows) was)
        ∙ list_left rows kept.tree top top_live gone within x x_live is (is_it (folder_id rows s.key) i) (lies_by_id rows top kept.tree x x_live)

    pub kept_left : (new_all new_order : List ℕ) → new_all ≡ without_ids gone all → Ordered (live 0 new_slots) new_order
        → ((q : List ℕ) → new_repos q ≡ cond (pointwise nat_eq q s.key.repo) (without_ids gone (repos q)) (repos q)) → Kept new_slots new_all new_order new_lists new_repos
    kept_left new_all new_order all_is ordered repos_are = record {
      tree = subst IsTree (sym left_here) (tree_left rows kept.tree top top_live gone within);
      all_is = all_is ∙ ap (without_ids gone) kept.all_is ∙ sym (all_left rows kept.tree top top_live gone within) ∙ sym (ap ids left_here);
      order_is = ordered;
      children_are = λ i. lists_are i ∙ children_by i (has gone i) (at slots i) refl refl ∙ sym (ap (λ (l : List Row). inside l (cond (has gone i) None (at slots i))) left_here) ∙ sym (ap (inside (live 0 new_slots)) (slots_are i));
      repos_are = λ q. repos_are q ∙ ap (λ (l : List ℕ). cond (pointwise nat_eq q s.key.repo) (without_ids gone l) l) (kept.repos_are q)
          ∙ repo_left rows kept.tree top top_live gone within q (pointwise nat_eq q s.key.repo) refl ∙ sym (ap (λ (l : List Row). ids (filter (is_of q) l)) left_here);
    }

    pub rows_now : live 0 new_slots ≡ without_within rows id
    rows_now = rows_are ∙ rows_left rows kept.tree top top_live gone within ∙ sym (ap (λ o. option_map_or (λ (t : Row). filter (λ r. not (is_within t.key r.key)) rows) o rows) top_live)
