-- Whether what lies beneath a key stays a key where that is renamed.
use Rattle.std.proofs.Common.{◌≡◌, ℕ, ◌+◌, ◌<◌, ◌≤◌, ◌⊎◌, ⊎_elim, inl, inr, zero, suc, Bool, true, false, cond, List, [], ◌∷◌, ◌++◌, length, Option, Some, None, refl, sym, ap, ◌∙◌, arith, length-append, append-nil}
use Rattle.std.specs.Prelude.{◌||◌, ◌==◌, nat_lt, not}
use Rattle.std.specs.Option.{option_or, is_none}
use Rattle.std.specs.List.{list_any, count_by}
use Rattle.std.proofs.lemmas.Bool.{ne_eqb, and_parts, and_from, or_cases, or_left, or_right, cases_Bool}
use Rattle.std.proofs.lemmas.List.Folds.{list_any-append}
use Rattle.arti_rows.specs.Key.{Key, whole_of, folders_above, same_key}
use Rattle.arti_rows.specs.Names.{IsKey, is_repo_key, segments_of, segment_fault, first_fault, length_fault, path_fault, key_fault}
use Rattle.arti_rows.specs.declared.fault.KeyFault.{KeyFault}
use Rattle.arti_rows.specs.declared.fault.KeyFault.TheVariants.{BadName, TooLong}
use Rattle.arti_rows.specs.KeyLaws.{same_key-true, same_key-refl}
use Rattle.arti_rows.specs.FolderLaws.{segments-append}
use Rattle.arti_tree.specs.Rows.{Row, has_folder, folder_of, lies_in, lies_beneath, IsLive, IsTree}
use Rattle.arti_tree.specs.Renames.{fits, is_within, moved_whole}
use Rattle.arti_tree.proofs.Rises.{found_live, found_passes}
use Rattle.arti_tree.proofs.Above.{HasNone, above, none_above, shorter, good, joined, plain, at_root}
use Rattle.arti_tree.proofs.Under.{Under, Within, within_cases, whole_moved}
use Rattle.std.proofs.lemmas.Bool.Decides.{nat_tests}
use Rattle.std.proofs.lemmas.List.Splits.{length-slice_split}
use Rattle.std.proofs.lemmas.List.Sums.{sum_by-cons}

-- ---- what is beneath a folder lies in it, or beneath what lies in it

-- what lies in a folder leads to a row: it is that row, or the row lies beneath it
pub record Leads (rows : List Row) (k : Key) (x : Row) : Type 0 where
  pub child : Row
  pub live : IsLive rows child
  pub inside : lies_in k child ≡ true
  pub at : (x ≡ child) ⊎ (lies_beneath child.key x ≡ true)

module _ (rows : List Row) (tree : IsTree rows) where
  -- beneath an item's folder, or beneath that which it lies in
  split : (k : Key) (x : Row) → IsLive rows x → has_folder x.key ≡ true → lies_beneath k x ≡ (list_any (λ f. same_key f k) (folders_above (folder_of x.key)) || same_key (folder_of x.key) k)
  split k x live has = ap (list_any (λ f. same_key f k)) (above x.key (tree.keys x live) has) ∙ list_any-append (λ f. same_key f k) (folders_above (folder_of x.key)) (folder_of x.key ∷ []) ∙ ap (λ b. list_any (λ f. same_key f k) (folders_above (folder_of x.key)) || b) (or_false (same_key (folder_of x.key) k))
    where
      or_false : (b : Bool) → b || false ≡ b
      or_false true = refl
      or_false false = refl

  -- the row of the folder that a row lies in
  record Holder (x : Row) : Type 0 where
    pub row : Row
    pub live : IsLive rows row
    pub key : row.key ≡ folder_of x.key

  holder : (x : Row) → IsLive rows x → has_folder x.key ≡ true → Holder x
  holder x live has =
      let f = tree.folders x live has in
      record { row = f.row; live = found_live (λ y. same_key y.key (folder_of x.key)) 0 rows f.row tree.ascend f.there; key = same_key-true f.row.key (folder_of x.key) (found_passes (λ y. same_key y.key (folder_of x.key)) rows f.row f.there) }

  has_some : (k : Key) (x : Row) → IsLive rows x → lies_beneath k x ≡ true → has_folder x.key ≡ true
  has_some k x live e = ⊎_elim (λ (has : has_folder x.key ≡ true). has) (λ (has : has_folder x.key ≡ false). let none : false ≡ true = sym (ap (list_any (λ f. same_key f k)) (none_above x.key (tree.keys x live) has)) ∙ e in cc) (cases_Bool (has_folder x.key))

  -- what lies in a folder lies beneath it
  pub in_beneath : (k : Key) (x : Row) → IsLive rows x → lies_in k x ≡ true → lies_beneath k x ≡ true
  in_beneath k x live e =
      let l = and_parts (has_folder x.key) (same_key (folder_of x.key) k) e in
      split k x live l.0 ∙ or_right (list_any (λ f. same_key f k) (folders_above (folder_of x.key))) (same_key (folder_of x.key) k) l.1

  -- and so does what lies beneath what does
  pub beneath_both : (n : ℕ) (k : Key) (c x : Row) → length (whole_of x.key) < n → IsLive rows c → IsLive rows x → lies_beneath k c ≡ true → lies_beneath c.key x ≡ true → lies_beneath k x ≡ true
  beneath_both zero k c x short c_live live in_k in_c = absurd (omega arith)
  beneath_both (suc n) k c x short c_live live in_k in_c =
      let has = has_some c.key x live in_c in
      let f = holder x live has in
      let less : length (whole_of f.row.key) < n = omega (arith, ap (λ (j : Key). length (whole_of j)) f.key, shorter x.key (tree.keys x live) has, short) in
      let up : list_any (λ f. same_key f k) (folders_above (folder_of x.key)) ≡ true = ⊎_elim
      (λ (higher : list_any (λ f. same_key f c.key) (folders_above (folder_of x.key)) ≡ true).
      ap (λ (j : Key). list_any (λ f. same_key f k) (folders_above j)) (sym f.key) ∙ beneath_both n k c f.row less c_live f.live in_k (ap (λ (j : Key). list_any (λ f. same_key f c.key) (folders_above j)) f.key ∙ higher))
      (λ (here : same_key (folder_of x.key) c.key ≡ true). ap (λ (j : Key). list_any (λ f. same_key f k) (folders_above j)) (same_key-true (folder_of x.key) c.key here) ∙ in_k)
      (or_cases (list_any (λ f. same_key f c.key) (folders_above (folder_of x.key))) (same_key (folder_of x.key) c.key) (sym (split c.key x live has) ∙ in_c)) in
      split k x live has ∙ or_left (list_any (λ f. same_key f k) (folders_above (folder_of x.key))) (same_key (folder_of x.key) k) up

  -- what lies beneath the holder of a row has the row beneath it
  beneath_more : (c x : Row) → IsLive rows x → has_folder x.key ≡ true → (f : Holder x) → (f.row ≡ c) ⊎ (lies_beneath c.key f.row ≡ true) → lies_beneath c.key x ≡ true
  beneath_more c x live has f at = split c.key x live has ∙ ⊎_elim
      (λ (same : f.row ≡ c). or_right (list_any (λ y. same_key y c.key) (folders_above (folder_of x.key))) (same_key (folder_of x.key) c.key) (ap (λ (j : Key). same_key j c.key) (sym f.key ∙ ap (λ (r : Row). r.key) same) ∙ same_key-refl c.key))
      (λ (up : lies_beneath c.key f.row ≡ true). or_left (list_any (λ y. same_key y c.key) (folders_above (folder_of x.key))) (same_key (folder_of x.key) c.key) (ap (λ (j : Key). list_any (λ y. same_key y c.key) (folders_above j)) (sym f.key) ∙ up))
      at

  pub leads : (n : ℕ) (k : Key) (x : Row) → length (whole_of x.key) < n → IsLive rows x → lies_beneath k x ≡ true → Leads rows k x
  leads zero k x short live e = absurd (omega arith)
  leads (suc n) k x short live e =
      let has = has_some k x live e in
      let f = holder x live has in
      let less : length (whole_of f.row.key) < n = omega (arith, ap (λ (j : Key). length (whole_of j)) f.key, shorter x.key (tree.keys x live) has, short) in
      ⊎_elim
      (λ (higher : list_any (λ f. same_key f k) (folders_above (folder_of x.key)) ≡ true).
      let l = leads n k f.row less f.live (ap (λ (j : Key). list_any (λ f. same_key f k) (folders_above j)) f.key ∙ higher) in
      let more : Leads rows k x = record { child = l.child; live = l.live; inside = l.inside; at = inr (beneath_more l.child x live has f l.at) } in
      more)
      (λ (here : same_key (folder_of x.key) k ≡ true).
      let itself : Leads rows k x = record { child = x; live = live; inside = and_from (has_folder x.key) (same_key (folder_of x.key) k) has here; at = inl refl } in
      itself)
      (or_cases (list_any (λ f. same_key f k) (folders_above (folder_of x.key))) (same_key (folder_of x.key) k) (sym (split k x live has) ∙ e))

-- ---- by the lengths alone

or_none : (f g : Option KeyFault) → option_or f g ≡ None → (f ≡ None) × (g ≡ None)
or_none None g e = (refl, e)
or_none (Some fault) g e = cc

or_both : (f g : Option KeyFault) → f ≡ None → g ≡ None → option_or f g ≡ None
or_both f g e h = ap (λ o. option_or o g) e ∙ h

first_both : (xs ys : List (List ℕ)) → first_fault xs ≡ None → first_fault ys ≡ None → first_fault (xs ++ ys) ≡ None
first_both [] ys e f = f
first_both (x ∷ xs) ys e f =
    let p = or_none (segment_fault x) (first_fault xs) e in
    or_both (segment_fault x) (first_fault (xs ++ ys)) p.0 (first_both xs ys p.1 f)

first_behind : (xs ys : List (List ℕ)) → first_fault (xs ++ ys) ≡ None → first_fault ys ≡ None
first_behind [] ys e = e
first_behind (x ∷ xs) ys e = first_behind xs ys (or_none (segment_fault x) (first_fault (xs ++ ys)) e).1

none_by : (b : Bool) → is_none (cond b (Some TooLong) None) ≡ not b
none_by true = refl
none_by false = refl

by_repo : (b : Bool) (f : Option KeyFault) → b ≡ true → is_none (cond b f (Some BadName)) ≡ is_none f
by_repo b f e = ap (λ t. is_none (cond t f (Some BadName))) e

good_repo : (b : Bool) (f : Option KeyFault) → cond b f (Some BadName) ≡ None → b ≡ true
good_repo true f e = refl
good_repo false f e = cc

module _ (from to k : Key) (from_is : IsKey from) (to_is : IsKey to) (is : IsKey k) where
  fault_by : (w : List ℕ) → first_fault (segments_of w) ≡ None → is_none (key_fault to.repo w) ≡ fits (length w) (length (segments_of w))
  fault_by w none =
      by_repo (is_repo_key to.repo) (path_fault w) (good_repo (is_repo_key to.repo) (path_fault (whole_of to)) to_is.good) ∙ ap (λ f. is_none (option_or f (length_fault w))) none
      ∙ none_by (nat_lt 1024 (length w) || nat_lt 64 (length (segments_of w)))

  same_fits : (a b c d : ℕ) → a ≡ c → b ≡ d → fits a b ≡ fits c d
  same_fits a b c d e f = ap (λ n. fits n b) e ∙ ap (λ n. fits c n) f

  to_first : first_fault (segments_of (whole_of to)) ≡ None
  to_first = (or_none (first_fault (segments_of (whole_of to))) (length_fault (whole_of to)) (good to to_is)).0

  module _ (long deep : ℕ) (l : long + length (whole_of from) ≡ length (whole_of k) + length (whole_of to))
      (d : deep + length (segments_of (whole_of from)) ≡ length (segments_of (whole_of k)) + length (segments_of (whole_of to))) where
    at_top : k ≡ from → is_none (key_fault to.repo (moved_whole from to k)) ≡ fits long deep
    at_top same =
        let w : Within from from = record { repo = refl; rest = []; whole = sym (append-nil (whole_of from)) } in
        let m : moved_whole from to k ≡ whole_of to = ap (moved_whole from to) same ∙ whole_moved from to from w ∙ append-nil (whole_of to) in
        ap (λ (t : List ℕ). is_none (key_fault to.repo t)) m ∙ fault_by (whole_of to) to_first
        ∙ same_fits (length (whole_of to)) (length (segments_of (whole_of to))) long deep (omega (arith, l, ap (λ (x : Key). length (whole_of x)) same)) (omega (arith, d, ap (λ (x : Key). length (segments_of (whole_of x))) same))

    below : Under from k → is_none (key_fault to.repo (moved_whole from to k)) ≡ fits long deep
    below u =
        let w : Within from k = record { repo = u.repo; rest = 47 ∷ u.tail; whole = u.whole } in
        let new = whole_of to ++ 47 ∷ u.tail in
        let m : moved_whole from to k ≡ new = whole_moved from to k w in
        let cut = ap segments_of u.whole ∙ segments-append (whole_of from) u.tail in
        let new_cut = segments-append (whole_of to) u.tail in
        let tail_first = first_behind (segments_of (whole_of from)) (segments_of u.tail) (ap first_fault (sym cut) ∙ (or_none (first_fault (segments_of (whole_of k))) (length_fault (whole_of k)) (good k is)).0) in
        let none = ap first_fault new_cut ∙ first_both (segments_of (whole_of to)) (segments_of u.tail) to_first tail_first in
        let long_k : length (whole_of k) ≡ length (whole_of from) + (1 + length u.tail) = omega (arith, ap length u.whole ∙ length-append (whole_of from) (47 ∷ u.tail)) in
        let long_new : length new ≡ length (whole_of to) + (1 + length u.tail) = omega (arith, length-append (whole_of to) (47 ∷ u.tail)) in
        let deep_k : length (segments_of (whole_of k)) ≡ length (segments_of (whole_of from)) + length (segments_of u.tail) = ap length cut ∙ length-append (segments_of (whole_of from)) (segments_of u.tail) in
        let deep_new : length (segments_of new) ≡ length (segments_of (whole_of to)) + length (segments_of u.tail) = ap length new_cut ∙ length-append (segments_of (whole_of to)) (segments_of u.tail) in
        ap (λ (t : List ℕ). is_none (key_fault to.repo t)) m ∙ fault_by new none
        ∙ same_fits (length new) (length (segments_of new)) long deep (omega (arith, l, long_k, long_new)) (omega (arith, d, deep_k, deep_new))

    pub stays_is : is_within from k ≡ true → is_none (key_fault to.repo (moved_whole from to k)) ≡ fits long deep
    stays_is e = ⊎_elim at_top below (within_cases from k is e)

-- what is within a key isn't shorter, and has no fewer segments
pub within_longer : (from k : Key) → IsKey k → is_within from k ≡ true → (length (whole_of from) ≤ length (whole_of k)) × (length (segments_of (whole_of from)) ≤ length (segments_of (whole_of k)))
within_longer from k is e = ⊎_elim
    (λ (same : k ≡ from). (omega (arith, ap (λ (x : Key). length (whole_of x)) same), omega (arith, ap (λ (x : Key). length (segments_of (whole_of x))) same)))
    (λ (u : Under from k). (
      omega (arith, ap length u.whole ∙ length-append (whole_of from) (47 ∷ u.tail)),
      omega (arith, ap length (ap segments_of u.whole ∙ segments-append (whole_of from) u.tail) ∙ length-append (segments_of (whole_of from)) (segments_of u.tail)),
    ))
    (within_cases from k is e)

few_by : (a b : ℕ) → cond (nat_lt 1024 a || nat_lt 64 b) (Some TooLong) None ≡ None → (a ≤ 1024) × (b ≤ 64)
few_by a b e = (grind (arith, nat_tests), grind (arith, nat_tests))

-- a key has at most so many bytes and segments
pub few_in : (k : Key) → IsKey k → (length (whole_of k) ≤ 1024) × (length (segments_of (whole_of k)) ≤ 64)
few_in k is = few_by (length (whole_of k)) (length (segments_of (whole_of k))) (or_none (first_fault (segments_of (whole_of k))) (length_fault (whole_of k)) (good k is)).1

none_more : (b : Bool) (n m : ℕ) → b ≡ false → m ≡ cond b 1 0 + n → n ≡ 0 → m ≡ 0
none_more b n m off is e = let f : m ≡ 0 + n = is ∙ ap (λ t. cond t 1 0 + n) off in omega (arith, f, e)

no_slashes : (s : List ℕ) → HasNone s → count_by (λ b. b == 47) s ≡ 0
no_slashes [] none = refl
no_slashes (x ∷ s) none =
    none_more (x == 47) (count_by (λ b. b == 47) s) (count_by (λ b. b == 47) (x ∷ s)) (ne_eqb x 47 (none 0 (omega arith))) (sum_by-cons (λ b. cond (b == 47) 1 0) x s)
    (no_slashes s (λ k below. none (suc k) (omega arith)))

-- a path has a segment more than slashes
pub depth_is : (k : Key) → IsKey k → has_folder k ≡ true → length (segments_of (whole_of k)) ≡ count_by (λ b. b == 47) k.path + 2
depth_is k is has =
    let cut = ap segments_of (joined k is has) ∙ segments-append k.path k.name in
    let one : count_by (λ b. b == 47) k.name ≡ 0 = no_slashes k.name (plain k is) in
    omega (arith, ap length cut ∙ length-append (segments_of k.path) (segments_of k.name), length-slice_split (λ b. b == 47) k.path, length-slice_split (λ b. b == 47) k.name, one)

pub depth_at_root : (k : Key) → IsKey k → has_folder k ≡ false → length (segments_of (whole_of k)) ≡ 1
depth_at_root k is has =
    let one : count_by (λ b. b == 47) k.name ≡ 0 = no_slashes k.name (plain k is) in
    omega (arith, ap (λ (w : List ℕ). length (segments_of w)) (at_root k is has), length-slice_split (λ b. b == 47) k.name, one)

-- a row's key is one still, and so are those beneath it
pub record AllStay (rows : List Row) (from to : Key) (x : Row) : Type 0 where
  pub here : key_fault to.repo (moved_whole from to x.key) ≡ None
  pub beneath : (r : Row) → IsLive rows r → lies_beneath x.key r ≡ true → key_fault to.repo (moved_whole from to r.key) ≡ None
