-- The folders above a key, as far as they are there.
use Rattle.std.proofs.Common.{◌≡◌, ℕ, ◌+◌, ◌-◌, ◌<◌, ◌≤◌, ◌⊎◌, ⊎_elim, inl, inr, zero, suc, Bool, true, false, cond, List, [], ◌∷◌, ◌++◌, length, get_or, take, drop, Option, Some, None, refl, sym, ap, ◌∙◌, subst, arith, length-append}
use Rattle.std.specs.Prelude.{All}
use Rattle.std.specs.Option.{option_map_or, is_none}
use Rattle.std.specs.List.{filter, find}
use Rattle.std.proofs.lemmas.Bool.{cases_lt}
use Rattle.std.proofs.lemmas.List.Elements.{All-append, All-cons, All-nil}
use Rattle.std.proofs.lemmas.List.{get_or_default, get_or-take}
use Rattle.arti_rows.specs.Key.{Key, whole_of, folders_above, same_key}
use Rattle.arti_rows.specs.Names.{IsKey}
use Rattle.std.proofs.Math.Seq.{drop-cons}
use Rattle.arti_tree.specs.Rows.{Row, row_at, has_folder, folder_of, IsFolder, HasFolder, IsTree}
use Rattle.arti_tree.specs.Adds.{is_missing, is_file_at}
use Rattle.arti_tree.specs.Chains.{CanAdd, Leads}
use Rattle.arti_tree.proofs.Rises.{found_live, found_passes}
use Rattle.arti_tree.proofs.Above.{above, none_above, shorter, folder_key}
use Rattle.arti_rows.specs.KeyLaws.{same_key-true}

eq_or : (b : Bool) → (b ≡ true) ⊎ (b ≡ false)
eq_or true = inl refl
eq_or false = inr refl

-- the folders above a row that is there are there
all_by : (n : ℕ) (rows : List Row) (k : Key) → IsTree rows → IsKey k → length (whole_of k) < n → HasFolder rows k → All (IsFolder rows) (folders_above k)
all_by zero rows k tree is short has = absurd (omega arith)
all_by (suc n) rows k tree is short has = ⊎_elim
    (λ (e : has_folder k ≡ true).
    let f = has e in
    let live = found_live (λ y. same_key y.key (folder_of k)) 0 rows f.row tree.ascend f.there in
    let same : f.row.key ≡ folder_of k = same_key-true f.row.key (folder_of k) (found_passes (λ y. same_key y.key (folder_of k)) rows f.row f.there) in
    let higher : HasFolder rows (folder_of k) = subst (λ (j : Key). HasFolder rows j) same (tree.folders f.row live) in
    let rest = all_by n rows (folder_of k) tree (folder_key k is e) (omega (arith, shorter k is e, short)) higher in
    subst (λ (l : List Key). All (IsFolder rows) l) (sym (above k is e)) (All-append (IsFolder rows) (folders_above (folder_of k)) (folder_of k ∷ []) rest (All-cons (IsFolder rows) (folder_of k) [] f (All-nil (IsFolder rows)))))
    (λ (e : has_folder k ≡ false). subst (λ (l : List Key). All (IsFolder rows) l) (sym (none_above k is e)) (All-nil (IsFolder rows)))
    (eq_or (has_folder k))

pub all_folders : (rows : List Row) (k : Key) → IsTree rows → IsKey k → HasFolder rows k → All (IsFolder rows) (folders_above k)
all_folders rows k tree is has = all_by (length (whole_of k) + 1) rows k tree is (omega arith) has

-- what is above each of the folders above a key
pub record Stands (k : Key) (i : ℕ) : Type 0 where
  pub is : IsKey (get_or (folders_above k) i k)
  pub above_it : folders_above (get_or (folders_above k) i k) ≡ take i (folders_above k)

pub last_of : (xs : List Key) (x d : Key) → get_or (xs ++ x ∷ []) (length xs) d ≡ x
last_of [] x d = refl
last_of (y ∷ xs) x d = last_of xs x d

take_all : (xs : List Key) (x : Key) → take (length xs) (xs ++ x ∷ []) ≡ xs
take_all [] x = refl
take_all (y ∷ xs) x = ap (λ l. y ∷ l) (take_all xs x)

take_front : (xs : List Key) (x : Key) (i : ℕ) → i ≤ length xs → take i (xs ++ x ∷ []) ≡ take i xs
take_front xs x zero le = refl
take_front [] x (suc i) le = absurd (omega arith)
take_front (y ∷ xs) x (suc i) le = ap (λ l. y ∷ l) (take_front xs x i (omega arith))

front_of : (xs : List Key) (x d : Key) (i : ℕ) → i < length xs → get_or (xs ++ x ∷ []) i d ≡ get_or xs i d
front_of [] x d i below = absurd (omega arith)
front_of (y ∷ xs) x d zero below = refl
front_of (y ∷ xs) x d (suc i) below = front_of xs x d i (omega arith)

stands_by : (n : ℕ) (k : Key) → IsKey k → length (whole_of k) < n → (i : ℕ) → i < length (folders_above k) → Stands k i
stands_by zero k is short i below = absurd (omega arith)
stands_by (suc n) k is short i below = ⊎_elim
    (λ (e : has_folder k ≡ true).
    let up = folders_above (folder_of k) in
    let split = above k is e in
    let f_key = folder_key k is e in
    let long : length (folders_above k) ≡ length up + 1 = ap (λ (l : List Key). length l) split ∙ length-append up (folder_of k ∷ []) in
    ⊎_elim
    (λ (l : i < length up).
    let s = stands_by n (folder_of k) f_key (omega (arith, shorter k is e, short)) i l in
    let at : get_or (folders_above k) i k ≡ get_or up i (folder_of k) = ap (λ (l : List Key). get_or l i k) split ∙ front_of up (folder_of k) k i l ∙ get_or_default up i k (folder_of k) l in
    let front : take i (folders_above k) ≡ take i up = ap (take i) split ∙ take_front up (folder_of k) i (omega arith) in
    let stands : Stands k i = record { is = subst IsKey (sym at) s.is; above_it = ap folders_above at ∙ s.above_it ∙ sym front } in stands)
    (λ (g : length up ≤ i).
    let last : i ≡ length up = omega (arith, long) in
    let at : get_or (folders_above k) i k ≡ folder_of k = ap (λ (l : List Key). get_or l i k) split ∙ ap (λ j. get_or (up ++ folder_of k ∷ []) j k) last ∙ last_of up (folder_of k) k in
    let front : take i (folders_above k) ≡ up = ap (take i) split ∙ ap (λ j. take j (up ++ folder_of k ∷ [])) last ∙ take_all up (folder_of k) in
    let stands : Stands k i = record { is = subst IsKey (sym at) f_key; above_it = ap folders_above at ∙ sym front } in stands)
    (cases_lt i (length up)))
    (λ (e : has_folder k ≡ false). absurd (let none : length (folders_above k) ≡ 0 = ap (λ (l : List Key). length l) (none_above k is e) in omega (arith, none)))
    (eq_or (has_folder k))

pub stands : (k : Key) → IsKey k → (i : ℕ) → i < length (folders_above k) → Stands k i
stands k is i below = stands_by (length (whole_of k) + 1) k is (omega arith) i below

filter_by : (b : Bool) (x : Key) (l m : List Key) → b ≡ false → l ≡ m → cond b (x ∷ l) l ≡ m
filter_by b x l m e f = ap (λ t. cond t (x ∷ l) l) e ∙ f

-- the first so many fail, and the others pass
split_filter : (p : Key → Bool) (xs : List Key) (n : ℕ) (d : Key) → n ≤ length xs → ((j : ℕ) → j < n → p (get_or xs j d) ≡ false) → ((j : ℕ) → n ≤ j → j < length xs → p (get_or xs j d) ≡ true) → filter p xs ≡ drop n xs
split_filter p [] zero d le fails holds = refl
split_filter p [] (suc n) d le fails holds = absurd (omega arith)
split_filter p (x ∷ xs) zero d le fails holds =
    ap (λ t. cond t (x ∷ filter p xs) (filter p xs)) (holds 0 (omega arith) (omega arith)) ∙ ap (λ l. x ∷ l) (split_filter p xs zero d (omega arith) (λ j h. absurd (omega arith)) (λ j h g. holds (suc j) (omega arith) (omega arith)))
split_filter p (x ∷ xs) (suc n) d le fails holds =
    filter_by (p x) x (filter p xs) (drop n xs) (fails 0 (omega arith)) (split_filter p xs n d (omega arith) (λ j h. fails (suc j) (omega arith)) (λ j h g. holds (suc j) (omega arith) (omega arith)))

find_by : (b : Bool) (x : Key) (o m : Option Key) → b ≡ false → o ≡ m → cond b (Some x) o ≡ m
find_by b x o m e f = ap (λ t. cond t (Some x) o) e ∙ f

find_nothing : (p : Key → Bool) (xs : List Key) (d : Key) → ((j : ℕ) → j < length xs → p (get_or xs j d) ≡ false) → find p xs ≡ None
find_nothing p [] d fails = refl
find_nothing p (x ∷ xs) d fails = find_by (p x) x (find p xs) None (fails 0 (omega arith)) (find_nothing p xs d (λ j h. fails (suc j) (omega arith)))

find_place : (p : Key → Bool) (xs : List Key) (i : ℕ) (d : Key) → i < length xs → ((j : ℕ) → j < i → p (get_or xs j d) ≡ false) → p (get_or xs i d) ≡ true → find p xs ≡ Some (get_or xs i d)
find_place p [] i d below fails holds = absurd (omega arith)
find_place p (x ∷ xs) zero d below fails holds = ap (λ t. cond t (Some x) (find p xs)) holds
find_place p (x ∷ xs) (suc i) d below fails holds = find_by (p x) x (find p xs) (Some (get_or xs i d)) (fails 0 (omega arith)) (find_place p xs i d (omega arith) (λ j h. fails (suc j) (omega arith)) holds)

missing_none : (rows : List Row) (k : Key) → row_at rows k ≡ None → is_missing rows k ≡ true
missing_none rows k e = ap is_none e

missing_some : (rows : List Row) (k : Key) (r : Row) → row_at rows k ≡ Some r → is_missing rows k ≡ false
missing_some rows k r e = ap is_none e

file_none : (rows : List Row) (k : Key) → row_at rows k ≡ None → is_file_at rows k ≡ false
file_none rows k e = ap (λ o. option_map_or (λ (r : Row). r.is_file) o false) e

file_some : (rows : List Row) (k : Key) (r : Row) → row_at rows k ≡ Some r → is_file_at rows k ≡ r.is_file
file_some rows k r e = ap (λ o. option_map_or (λ (x : Row). x.is_file) o false) e

module _ (rows : List Row) (k : Key) (folders : List Key) (tree : IsTree rows) (is : IsKey k) (chain : folders ≡ folders_above k) where
  -- the folders above one that is there are there
  higher : (i : ℕ) (r : Row) → i < length folders → row_at rows (get_or folders i k) ≡ Some r → (j : ℕ) → j < i → IsFolder rows (get_or folders j k)
  higher i r below there j less =
      let s = stands k is i (subst (λ (l : List Key). i < length l) chain below) in
      let f : Key = get_or (folders_above k) i k in
      let at : row_at rows f ≡ Some r = ap (λ (l : List Key). row_at rows (get_or l i k)) (sym chain) ∙ there in
      let live = found_live (λ y. same_key y.key f) 0 rows r tree.ascend at in
      let same : r.key ≡ f = same_key-true r.key f (found_passes (λ y. same_key y.key f) rows r at) in
      let has : HasFolder rows f = subst (λ (x : Key). HasFolder rows x) same (tree.folders r live) in
      let all = all_folders rows f tree s.is has in
      let within : j < length (take i (folders_above k)) = omega (arith, length_take i (folders_above k) (subst (λ (l : List Key). i < length l) chain below)) in
      let one : IsFolder rows (get_or (take i (folders_above k)) j k) = subst (λ (l : List Key). All (IsFolder rows) l) s.above_it all j k within in
      subst (λ (x : Key). IsFolder rows x) (get_or-take i (folders_above k) j k less ∙ ap (λ (l : List Key). get_or l j k) (sym chain)) one
    where
      length_take : (n : ℕ) (xs : List Key) → n < length xs → length (take n xs) ≡ n
      length_take zero xs h = refl
      length_take (suc n) [] h = absurd (omega arith)
      length_take (suc n) (x ∷ xs) h = ap suc (length_take n xs (omega arith))

  module _ (n : ℕ) (le : n ≤ length folders) (missing : (j : ℕ) → n ≤ j → j < length folders → row_at rows (get_or folders j k) ≡ None) where
    module _ (there : 0 < n → IsFolder rows (get_or folders (n - 1) k)) where
      each : (j : ℕ) → j < n → IsFolder rows (get_or folders j k)
      each j less = ⊎_elim (λ (l : j < n - 1). let f = there (omega arith) in higher (n - 1) f.row (omega arith) f.there j l) (λ (g : n - 1 ≤ j). let same : n - 1 ≡ j = omega arith in subst (λ (i : ℕ). IsFolder rows (get_or folders i k)) same (there (omega arith))) (cases_lt j (n - 1))

      pub left_missing : filter (is_missing rows) folders ≡ drop n folders
      left_missing = split_filter (is_missing rows) folders n k le (λ j l. let f = each j l in missing_some rows (get_or folders j k) f.row f.there) (λ j g b. missing_none rows (get_or folders j k) (missing j g b))

      pub no_file : find (is_file_at rows) folders ≡ None
      no_file = find_nothing (is_file_at rows) folders k (λ j b. ⊎_elim (λ (l : j < n). let f = each j l in file_some rows (get_or folders j k) f.row f.there ∙ f.folder) (λ (g : n ≤ j). file_none rows (get_or folders j k) (missing j g b)) (cases_lt j n))

  pub first_file : (i : ℕ) (r : Row) → i < length folders → row_at rows (get_or folders i k) ≡ Some r → r.is_file ≡ true → find (is_file_at rows) folders ≡ Some (get_or folders i k)
  first_file i r below there file =
      find_place (is_file_at rows) folders i k below (λ j l. let f = higher i r below there j l in file_some rows (get_or folders j k) f.row f.there ∙ f.folder) (file_some rows (get_or folders i k) r there ∙ file)

drop_end : (xs : List Key) → drop (length xs) xs ≡ []
drop_end [] = refl
drop_end (x ∷ xs) = drop_end xs

take_whole : (xs : List Key) → take (length xs) xs ≡ xs
take_whole [] = refl
take_whole (x ∷ xs) = ap (λ l. x ∷ l) (take_whole xs)

take_long : (n : ℕ) (xs : List Key) → n ≤ length xs → length (take n xs) ≡ n
take_long zero xs h = refl
take_long (suc n) [] h = absurd (omega arith)
take_long (suc n) (x ∷ xs) h = ap suc (take_long n xs (omega arith))

none_of : (o : Option Row) → is_none o ≡ true → o ≡ None
none_of None e = refl
none_of (Some r) e = cc

first_by : (b : Bool) (rows : List Row) (x f : Key) (l rest : List Key) → is_missing rows x ≡ b → cond b (x ∷ l) l ≡ f ∷ rest → (l ≡ f ∷ rest → row_at rows f ≡ None) → row_at rows f ≡ None
first_by true rows x f l rest is e more = let same : x ≡ f = cc in ap (row_at rows) (sym same) ∙ none_of (row_at rows x) is
first_by false rows x f l rest is e more = more e

first_missing : (rows : List Row) (l : List Key) (f : Key) (rest : List Key) → filter (is_missing rows) l ≡ f ∷ rest → row_at rows f ≡ None
first_missing rows [] f rest e = cc
first_missing rows (x ∷ l) f rest e = first_by (is_missing rows x) rows x f (filter (is_missing rows) l) rest refl e (first_missing rows l f rest)

module _ (key : Key) (fs : List Key) (is : IsKey key) (chain : fs ≡ folders_above key) where
  -- a key with so many folders above it lies in the last of them
  lead_at : (f : Key) (n : ℕ) → IsKey f → n < length fs → folders_above f ≡ take (suc n) fs → (has_folder f ≡ true) × (folder_of f ≡ get_or fs n key)
  lead_at f n f_key below up = ⊎_elim
      (λ (e : has_folder f ≡ true).
      let higher = folders_above (folder_of f) in
      let split : take (suc n) fs ≡ higher ++ folder_of f ∷ [] = sym up ∙ above f f_key e in
      let long : length higher ≡ n = omega (arith, ap (λ (l : List Key). length l) split, take_long (suc n) fs (omega arith), length-append higher (folder_of f ∷ [])) in
      let last : get_or (take (suc n) fs) n key ≡ folder_of f = ap (λ (l : List Key). get_or l n key) split ∙ ap (λ j. get_or (higher ++ folder_of f ∷ []) j key) (sym long) ∙ last_of higher (folder_of f) key in
      (e, sym last ∙ get_or-take (suc n) fs n key (omega arith)))
      (λ (e : has_folder f ≡ false). absurd (let none : length (take (suc n) fs) ≡ 0 = ap (λ (l : List Key). length l) (sym up ∙ none_above f f_key e) in omega (arith, none, take_long (suc n) fs (omega arith))))
      (eq_or (has_folder f))

  there_is : (n : ℕ) → n < length fs → IsKey (get_or fs n key) × (folders_above (get_or fs n key) ≡ take n fs)
  there_is n below =
      let s = stands key is n (subst (λ (l : List Key). n < length l) chain below) in
      let same : get_or (folders_above key) n key ≡ get_or fs n key = ap (λ (l : List Key). get_or l n key) (sym chain) in
      (subst IsKey same s.is, ap folders_above (sym same) ∙ s.above_it ∙ ap (take n) (sym chain))

  key_up : folders_above key ≡ take (length fs) fs
  key_up = sym chain ∙ sym (take_whole fs)

  leads_by : (m n : ℕ) → n + 1 + m ≡ length fs → Leads (get_or fs n key) (drop (suc n) fs ++ key ∷ [])
  leads_by zero n e =
      let last : suc n ≡ length fs = omega (arith, e) in
      let lead = lead_at key n is (omega arith) (key_up ∙ ap (λ j. take j fs) (sym last)) in
      subst (λ (l : List Key). Leads (get_or fs n key) (l ++ key ∷ [])) (sym (ap (λ j. drop j fs) last ∙ drop_end fs)) (is, lead.0, lead.1, tt)
  leads_by (suc m) n e =
      let t = there_is (suc n) (omega (arith, e)) in
      let lead = lead_at (get_or fs (suc n) key) n t.0 (omega (arith, e)) t.1 in
      subst (λ (l : List Key). Leads (get_or fs n key) (l ++ key ∷ [])) (sym (drop-cons fs (suc n) key (omega (arith, e)))) (t.0, lead.0, lead.1, leads_by m (suc n) (omega (arith, e)))

  module _ (rows : List Row) (n : ℕ) (le : n ≤ length fs) (last : 0 < n → IsFolder rows (get_or fs (n - 1) key)) where
    has_its : (f : Key) → IsKey f → folders_above f ≡ take n fs → HasFolder rows f
    has_its f f_key up has = ⊎_elim
        (λ (z : n < 1).
        let zero_n : n ≡ 0 = omega arith in
        let none : length (folders_above f) ≡ 0 = ap (λ (l : List Key). length l) (up ∙ ap (λ j. take j fs) zero_n) in
        absurd (omega (arith, none, ap (λ (l : List Key). length l) (above f f_key has), length-append (folders_above (folder_of f)) (folder_of f ∷ []))))
        (λ (p : 1 ≤ n).
        let next : n ≡ suc (n - 1) = omega arith in
        let lead = lead_at f (n - 1) f_key (omega arith) (up ∙ ap (λ j. take j fs) next) in
        subst (λ (x : Key). IsFolder rows x) (sym lead.1) (last p))
        (cases_lt n 1)

    -- the missing folders and the key can be added
    pub can_add : filter (is_missing rows) fs ≡ drop n fs → row_at rows key ≡ None → CanAdd rows (drop n fs ++ key ∷ [])
    can_add missing none = ⊎_elim
        (λ (below : n < length fs).
        let t = there_is n below in
        let next = drop-cons fs n key below in
        subst (λ (l : List Key). CanAdd rows (l ++ key ∷ [])) (sym next)
        (t.0, has_its (get_or fs n key) t.0 t.1, first_missing rows fs (get_or fs n key) (drop (suc n) fs) (missing ∙ next), leads_by (length fs - n - 1) n (omega arith)))
        (λ (past : length fs ≤ n).
        let same : length fs ≡ n = omega arith in
        subst (λ (l : List Key). CanAdd rows (l ++ key ∷ [])) (sym (ap (λ j. drop j fs) (sym same) ∙ drop_end fs)) (is, has_its key is (key_up ∙ ap (λ j. take j fs) same), none, tt))
        (cases_lt n (length fs))
