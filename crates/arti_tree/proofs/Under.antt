-- What lies beneath a key, by the texts of the two, and the key that it gets.
use Rattle.std.proofs.Common.{◌≡◌, ℕ, ◌+◌, ◌-◌, ◌≤◌, ◌⊎◌, ⊎_elim, inl, inr, zero, suc, Bool, true, false, cond, eqb, List, [], ◌∷◌, ◌++◌, length, get_or, drop, Some, None, refl, sym, ap, ◌∙◌, arith, append_assoc, append-nil, length-append}
use Rattle.std.specs.Prelude.{◌||◌, ◌==◌, map, nat_eq, not}
use Rattle.std.specs.List.{list_any}
use Rattle.std.specs.Cmp.Lexicographic.{pointwise, bytes_decides}
use Rattle.std.proofs.Math.Seq.{take-append_seam, drop-append_seam}
use Rattle.std.proofs.lemmas.Bool.{eqb-true, eq-eqb, or_cases, or_right, cases_Bool}
use Rattle.arti_rows.specs.Key.{Key, key_of, whole_of, path_of, name_of, fronts, folders_above, root_path, same_key}
use Rattle.arti_rows.specs.Names.{IsKey, is_repo_key, path_fault, key_fault}
use Rattle.arti_rows.specs.declared.fault.KeyFault.TheVariants.{BadName}
use Rattle.arti_tree.specs.Rows.{has_folder, folder_of}
use Rattle.arti_tree.specs.Searched.{key}
use Rattle.arti_tree.specs.Renames.{is_within, moved_whole, may_follow}
use Rattle.arti_tree.proofs.Above.{HasNone, rejoins, good, plain, joined, at_root, folder_whole}
use Rattle.arti_rows.specs.KeyLaws.{same_key-true, same_key-refl}
use Rattle.arti_rows.specs.FolderLaws.{front_good}
use Rattle.arti_rows.specs.CutLaws.{cut_at, whole_of-key_of}

abbrev slash : ℕ → Bool
slash b = b == 47

any_map : (p : List ℕ → Bool) (x : ℕ) (l : List (List ℕ)) → list_any p (map (λ (front : List ℕ). x ∷ front) l) ≡ list_any (λ (f : List ℕ). p (x ∷ f)) l
any_map p x [] = refl
any_map p x (f ∷ l) = ap (λ b. p (x ∷ f) || b) (any_map p x l)

any_keys : (q : Key → Bool) (repo : List ℕ) (l : List (List ℕ)) → list_any q (map (λ front. key_of repo front) l) ≡ list_any (λ (front : List ℕ). q (key_of repo front)) l
any_keys q repo [] = refl
any_keys q repo (f ∷ l) = ap (λ b. q (key_of repo f) || b) (any_keys q repo l)

-- a front before a slash that passes
record Front (p : List ℕ → Bool) (w : List ℕ) : Type 0 where
  pub front : List ℕ
  pub tail : List ℕ
  pub whole : w ≡ front ++ 47 ∷ tail
  pub passes : p front ≡ true

longer : (p : List ℕ → Bool) (x : ℕ) (w : List ℕ) → Front (λ (f : List ℕ). p (x ∷ f)) w → Front p (x ∷ w)
longer p x w f = record { front = x ∷ f.front; tail = f.tail; whole = ap (λ (l : List ℕ). x ∷ l) f.whole; passes = f.passes }

front_by : (b : Bool) (p : List ℕ → Bool) (x : ℕ) (w : List ℕ) (l : List (List ℕ)) → slash x ≡ b → list_any p (cond b ([] ∷ map (λ (front : List ℕ). x ∷ front) l) (map (λ (front : List ℕ). x ∷ front) l)) ≡ true
    → (list_any (λ (f : List ℕ). p (x ∷ f)) l ≡ true → Front (λ (f : List ℕ). p (x ∷ f)) w) → Front p (x ∷ w)
front_by true p x w l is e rest = ⊎_elim
    (λ (here : p [] ≡ true). let f : Front p (x ∷ w) = record { front = []; tail = w; whole = ap (λ (b : ℕ). b ∷ w) (eqb-true x 47 is); passes = here } in f)
    (λ (more : list_any p (map (λ (front : List ℕ). x ∷ front) l) ≡ true). longer p x w (rest (sym (any_map p x l) ∙ more)))
    (or_cases (p []) (list_any p (map (λ (front : List ℕ). x ∷ front) l)) e)
front_by false p x w l is e rest = longer p x w (rest (sym (any_map p x l) ∙ e))

front_found : (p : List ℕ → Bool) (w : List ℕ) → list_any p (fronts w) ≡ true → Front p w
front_found p [] e = cc
front_found p (x ∷ w) e = front_by (slash x) p x w (fronts w) refl e (front_found (λ (f : List ℕ). p (x ∷ f)) w)

passes_by : (b : Bool) (p : List ℕ → Bool) (x : ℕ) (l : List (List ℕ)) → list_any (λ (f : List ℕ). p (x ∷ f)) l ≡ true → list_any p (cond b ([] ∷ map (λ (front : List ℕ). x ∷ front) l) (map (λ (front : List ℕ). x ∷ front) l)) ≡ true
passes_by true p x l e = or_right (p []) (list_any p (map (λ (front : List ℕ). x ∷ front) l)) (any_map p x l ∙ e)
passes_by false p x l e = any_map p x l ∙ e

front_passes : (p : List ℕ → Bool) (front tail : List ℕ) → p front ≡ true → list_any p (fronts (front ++ 47 ∷ tail)) ≡ true
front_passes p [] tail e = ap (λ b. b || list_any p (map (λ (front : List ℕ). 47 ∷ front) (fronts tail))) e
front_passes p (x ∷ front) tail e = passes_by (slash x) p x (fronts (front ++ 47 ∷ tail)) (front_passes (λ (f : List ℕ). p (x ∷ f)) front tail e)

-- a key lies beneath another: its path and name begin with those of the other, and a slash
pub record Under (top k : Key) : Type 0 where
  pub repo : k.repo ≡ top.repo
  pub tail : List ℕ
  pub whole : whole_of k ≡ whole_of top ++ 47 ∷ tail

abbrev is_beneath : Key → Key → Bool
is_beneath top k = list_any (λ f. same_key f top) (folders_above k)

pub beneath_under : (top k : Key) → IsKey k → is_beneath top k ≡ true → Under top k
beneath_under top k is e =
    let p : List ℕ → Bool = λ (front : List ℕ). same_key (key_of k.repo front) top in
    let f : Front p (whole_of k) = front_found p (whole_of k) (sym (any_keys (λ f. same_key f top) k.repo (fronts (whole_of k))) ∙ e) in
    let same : key_of k.repo f.front ≡ top = same_key-true (key_of k.repo f.front) top f.passes in
    let front_is : path_fault f.front ≡ None = front_good f.front f.tail (ap path_fault (sym f.whole) ∙ good k is) in
    let whole : whole_of top ≡ f.front = ap whole_of (sym same) ∙ whole_of-key_of k.repo f.front front_is (rejoins f.front) in
    record { repo = ap (λ (x : Key). x.repo) same; tail = f.tail; whole = f.whole ∙ ap (λ (l : List ℕ). l ++ 47 ∷ f.tail) (sym whole) }

pub under_beneath : (top k : Key) → IsKey top → Under top k → is_beneath top k ≡ true
under_beneath top k is u =
    let p : List ℕ → Bool = λ (front : List ℕ). same_key (key_of k.repo front) top in
    let same : key_of k.repo (whole_of top) ≡ top = ap (λ (r : List ℕ). key_of r (whole_of top)) u.repo ∙ is.cut in
    ap (λ (w : List ℕ). list_any (λ f. same_key f top) (map (λ front. key_of k.repo front) (fronts w))) u.whole ∙ any_keys (λ f. same_key f top) k.repo (fronts (whole_of top ++ 47 ∷ u.tail))
    ∙ front_passes p (whole_of top) u.tail (ap (λ (x : Key). same_key x top) same ∙ same_key-refl top)

slash_there : (c d : List ℕ) → get_or (c ++ 47 ∷ d) (length c) 0 ≡ 47
slash_there [] d = refl
slash_there (x ∷ c) d = slash_there c d

not_in : (b c d : List ℕ) → HasNone b → b ≡ c ++ 47 ∷ d → ⊥
not_in b c d none e = none (length c) (omega (arith, ap (λ (l : List ℕ). length l) e, length-append c (47 ∷ d))) (ap (λ (l : List ℕ). get_or l (length c) 0) e ∙ slash_there c d)

-- what stands in the first text behind the second
record Behind (a c : List ℕ) : Type 0 where
  pub rest : List ℕ
  pub is : a ≡ c ++ rest
  pub follows : may_follow rest ≡ true

tails : (x y : ℕ) (a c : List ℕ) → x ∷ a ≡ y ∷ c → a ≡ c
tails x y a c e = cc

heads : (x y : ℕ) (a c : List ℕ) → x ∷ a ≡ y ∷ c → x ≡ y
heads x y a c e = cc

-- two cuts of one text, the first at its last slash
behind : (a b c d : List ℕ) → a ++ 47 ∷ b ≡ c ++ 47 ∷ d → HasNone b → Behind a c
behind [] b [] d e none = record { rest = []; is = refl; follows = refl }
behind [] b (y ∷ c) d e none = absurd (not_in b c d none (tails 47 y b (c ++ 47 ∷ d) e))
behind (x ∷ a) b [] d e none = record { rest = x ∷ a; is = refl; follows = eq-eqb x 47 (heads x 47 (a ++ 47 ∷ b) d e) }
behind (x ∷ a) b (y ∷ c) d e none =
    let rest : Behind a c = behind a b c d (tails x y (a ++ 47 ∷ b) (c ++ 47 ∷ d) e) none in
    let first : x ≡ y = heads x y (a ++ 47 ∷ b) (c ++ 47 ∷ d) e in
    record { rest = rest.rest; is = ap (λ (n : ℕ). n ∷ a) first ∙ ap (λ (l : List ℕ). y ∷ l) rest.is; follows = rest.follows }

-- the path of what lies beneath a key
pub record Path (top k : Key) : Type 0 where
  pub has : has_folder k ≡ true
  pub rest : List ℕ
  pub path : k.path ≡ whole_of top ++ rest
  pub follows : may_follow rest ≡ true

pub path_under : (top k : Key) → IsKey k → Under top k → Path top k
path_under top k is u = ⊎_elim
    (λ (has : has_folder k ≡ true).
    let b : Behind k.path (whole_of top) = behind k.path k.name (whole_of top) u.tail (sym (joined k is has) ∙ u.whole) (plain k is) in
    let p : Path top k = record { has = has; rest = b.rest; path = b.is; follows = b.follows } in p)
    (λ (has : has_folder k ≡ false). absurd (not_in k.name (whole_of top) u.tail (plain k is) (sym (at_root k is has) ∙ u.whole)))
    (cases_Bool (has_folder k))

-- the whole from a path that goes on
record Ends (w rest name : List ℕ) : Type 0 where
  pub tail : List ℕ
  pub is : (w ++ rest) ++ 47 ∷ name ≡ w ++ 47 ∷ tail

ends : (w rest name : List ℕ) → may_follow rest ≡ true → Ends w rest name
ends w [] name f = record { tail = name; is = ap (λ (l : List ℕ). l ++ 47 ∷ name) (append-nil w) }
ends w (b ∷ rest) name f = record { tail = rest ++ 47 ∷ name; is = append_assoc w (b ∷ rest) (47 ∷ name) ∙ ap (λ (x : ℕ). w ++ x ∷ (rest ++ 47 ∷ name)) (eqb-true b 47 f) }

not_dot : (w rest : List ℕ) → path_fault w ≡ None → root_path ≡ w ++ rest → may_follow rest ≡ true → ⊥
not_dot [] [] good e f = cc
not_dot [] (b ∷ rest) good e f =
    let b_is : 46 ≡ b = heads 46 b [] rest e in
    let no : eqb 46 47 ≡ true = ap (λ (n : ℕ). eqb n 47) b_is ∙ f in cc
not_dot (x ∷ []) rest good e f =
    let x_is : 46 ≡ x = heads 46 x [] rest e in
    let dot : path_fault (46 ∷ []) ≡ None = ap (λ (n : ℕ). path_fault (n ∷ [])) x_is ∙ good in cc
not_dot (x ∷ y ∷ w) rest good e f = let long : 1 ≡ length (x ∷ y ∷ (w ++ rest)) = ap (λ (l : List ℕ). length l) e in omega arith

root_from : (k : Key) → has_folder k ≡ false → k.path ≡ root_path
root_from k has = (bytes_decides k.path root_path).0 (by_not (pointwise nat_eq k.path root_path) has)
  where
    by_not : (b : Bool) → not b ≡ false → b ≡ true
    by_not true e = refl
    by_not false e = cc

pub under_path : (top k : Key) → IsKey top → IsKey k → k.repo ≡ top.repo → (rest : List ℕ) → k.path ≡ whole_of top ++ rest → may_follow rest ≡ true → Under top k
under_path top k top_is is repo rest path follows = ⊎_elim
    (λ (has : has_folder k ≡ true).
    let e : Ends (whole_of top) rest k.name = ends (whole_of top) rest k.name follows in
    let u : Under top k = record { repo = repo; tail = e.tail; whole = joined k is has ∙ ap (λ (l : List ℕ). l ++ 47 ∷ k.name) path ∙ e.is } in u)
    (λ (has : has_folder k ≡ false). absurd (not_dot (whole_of top) rest (good top top_is) (sym (root_from k has) ∙ path) follows))
    (cases_Bool (has_folder k))

-- a key that keeps the rules is made of its repository and whole
pub whole_made : (repo w : List ℕ) → key_fault repo w ≡ None → whole_of (key_of repo w) ≡ w
whole_made repo w e = whole_of-key_of repo w (by_repo (is_repo_key repo) e) (rejoins w)
  where
    by_repo : (b : Bool) → cond b (path_fault w) (Some BadName) ≡ None → path_fault w ≡ None
    by_repo true e = e
    by_repo false e = cc

pub key_made : (repo w : List ℕ) → key_fault repo w ≡ None → IsKey (key_of repo w)
key_made repo w e = record { good = ap (key_fault repo) (whole_made repo w e) ∙ e; cut = ap (λ (l : List ℕ). key_of repo l) (whole_made repo w e) }

-- a path and a name, joined and cut again
pub cut_joined : (repo path name : List ℕ) → HasNone name → key_of repo (path ++ 47 ∷ name) ≡ record { repo = repo; path = path; name = name }
cut_joined repo path name none =
    let s = path ++ 47 ∷ name in
    let i = length path in
    let next : drop (i + 1) s ≡ name = drop_next path in
    let c = cut_at s i (omega (arith, length-append path (47 ∷ name))) (slash_there path name)
    (λ k above below e. none (k - (i + 1)) (omega (arith, length-append path (47 ∷ name))) (get_behind path k above ∙ e)) in
    let p : path_of s ≡ path = sym c.0 ∙ take-append_seam path (47 ∷ name) in
    let n : name_of s ≡ name = sym c.1 ∙ next in
    let one : key_of repo s ≡ key repo path (name_of s) = ap (λ (l : List ℕ). key repo l (name_of s)) p in
    let two : key repo path (name_of s) ≡ key repo path name = ap (λ (l : List ℕ). key repo path l) n in
    one ∙ two
  where
    drop_next : (p : List ℕ) → drop (length p + 1) (p ++ 47 ∷ name) ≡ name
    drop_next [] = refl
    drop_next (x ∷ p) = let e : length (x ∷ p) + 1 ≡ suc (length p + 1) = omega arith in ap (λ n. drop n (x ∷ (p ++ 47 ∷ name))) e ∙ drop_next p

    get_behind : (p : List ℕ) (k : ℕ) → length p + 1 ≤ k → get_or name (k - (length p + 1)) 0 ≡ get_or (p ++ 47 ∷ name) k 0
    get_behind [] zero above = absurd (omega arith)
    get_behind [] (suc k) above = let e : suc k - (0 + 1) ≡ k = omega arith in ap (λ n. get_or name n 0) e
    get_behind (x ∷ p) zero above = absurd (omega arith)
    get_behind (x ∷ p) (suc k) above = let e : suc k - (length (x ∷ p) + 1) ≡ k - (length p + 1) = omega arith in ap (λ n. get_or name n 0) e ∙ get_behind p k (omega arith)

-- the key itself, or one beneath it: what stands behind the other's path and name
pub record Within (top k : Key) : Type 0 where
  pub repo : k.repo ≡ top.repo
  pub rest : List ℕ
  pub whole : whole_of k ≡ whole_of top ++ rest

pub within_cases : (top k : Key) → IsKey k → is_within top k ≡ true → (k ≡ top) ⊎ Under top k
within_cases top k is e = ⊎_elim (λ (same : same_key k top ≡ true). inl (same_key-true k top same)) (λ (b : is_beneath top k ≡ true). inr (beneath_under top k is b)) (or_cases (same_key k top) (is_beneath top k) e)

pub within_is : (top k : Key) → IsKey k → is_within top k ≡ true → Within top k
within_is top k is e = ⊎_elim
    (λ (same : k ≡ top). let w : Within top k = record { repo = ap (λ (x : Key). x.repo) same; rest = []; whole = ap whole_of same ∙ sym (append-nil (whole_of top)) } in w)
    (λ (u : Under top k). let w : Within top k = record { repo = u.repo; rest = 47 ∷ u.tail; whole = u.whole } in w)
    (within_cases top k is e)

pub within_itself : (top : Key) → is_within top top ≡ true
within_itself top = ap (λ b. b || is_beneath top top) (same_key-refl top)

pub under_within : (top k : Key) → IsKey top → Under top k → is_within top k ≡ true
under_within top k is u = or_right (same_key k top) (is_beneath top k) (under_beneath top k is u)

-- the whole that a key gets is the new front with the rest
pub whole_moved : (from to k : Key) (w : Within from k) → moved_whole from to k ≡ whole_of to ++ w.rest
whole_moved from to k w = ap (λ (l : List ℕ). whole_of to ++ drop (length (whole_of from)) l) w.whole ∙ ap (λ (l : List ℕ). whole_of to ++ l) (drop-append_seam (whole_of from) w.rest)

-- the key itself gets the new one
pub moved_top : (from to : Key) → IsKey to → key_of to.repo (moved_whole from to from) ≡ to
moved_top from to is =
    let w : Within from from = record { repo = refl; rest = []; whole = sym (append-nil (whole_of from)) } in
    ap (λ (l : List ℕ). key_of to.repo l) (whole_moved from to from w ∙ append-nil (whole_of to)) ∙ is.cut

-- by parts: the path begins with the new whole, and the name stays
pub moved_parts : (from to k : Key) → IsKey k → (p : Path from k) → key_of to.repo (moved_whole from to k) ≡ record { repo = to.repo; path = whole_of to ++ p.rest; name = k.name }
moved_parts from to k is p =
    let split : whole_of k ≡ whole_of from ++ (p.rest ++ 47 ∷ k.name) = joined k is p.has ∙ ap (λ (l : List ℕ). l ++ 47 ∷ k.name) p.path ∙ append_assoc (whole_of from) p.rest (47 ∷ k.name) in
    let whole : moved_whole from to k ≡ (whole_of to ++ p.rest) ++ 47 ∷ k.name =
    ap (λ (l : List ℕ). whole_of to ++ drop (length (whole_of from)) l) split ∙ ap (λ (l : List ℕ). whole_of to ++ l) (drop-append_seam (whole_of from) (p.rest ++ 47 ∷ k.name)) ∙ sym (append_assoc (whole_of to) p.rest (47 ∷ k.name)) in
    ap (λ (l : List ℕ). key_of to.repo l) whole ∙ cut_joined to.repo (whole_of to ++ p.rest) k.name (plain k is)

-- what lies beneath a key has a folder, which is the key or lies beneath it
pub folder_within : (top k : Key) → IsKey top → IsKey k → (p : Path top k) → k.repo ≡ top.repo → Within top (folder_of k)
folder_within top k top_is is p repo = record { repo = repo; rest = p.rest; whole = folder_whole k is p.has ∙ p.path }

-- a key lies beneath that which its folder is, or lies beneath
pub within_folder : (top k : Key) → IsKey top → IsKey k → has_folder k ≡ true → is_within top (folder_of k) ≡ true → IsKey (folder_of k) → Under top k
within_folder top k top_is is has e f_is =
    let whole = folder_whole k is has in
    ⊎_elim
    (λ (same : folder_of k ≡ top). under_path top k top_is is (ap (λ (x : Key). x.repo) same) [] (sym whole ∙ ap whole_of same ∙ sym (append-nil (whole_of top))) refl)
    (λ (u : Under top (folder_of k)). under_path top k top_is is u.repo (47 ∷ u.tail) (sym whole ∙ u.whole) refl)
    (within_cases top (folder_of k) f_is e)

-- the folder of what lies beneath a key is the key or lies beneath it
pub folder_in : (from k : Key) → IsKey from → IsKey k → (p : Path from k) → k.repo ≡ from.repo → is_within from (folder_of k) ≡ true
folder_in from k from_is is p repo = by_rest p.rest refl
  where
    by_rest : (rest : List ℕ) → p.rest ≡ rest → is_within from (folder_of k) ≡ true
    by_rest [] e =
        let whole : k.path ≡ whole_of from = p.path ∙ ap (λ (l : List ℕ). whole_of from ++ l) e ∙ append-nil (whole_of from) in
        let same : folder_of k ≡ from = ap (λ (q : List ℕ). key_of q k.path) repo ∙ ap (λ (l : List ℕ). key_of from.repo l) whole ∙ from_is.cut in
        ap (is_within from) same ∙ within_itself from
    by_rest (b ∷ rest) e =
        let b_is : b ≡ 47 = eqb-true b 47 (sym (ap may_follow e) ∙ p.follows) in
        under_within from (folder_of k) from_is (record {
          repo = repo;
          tail = rest;
          whole = folder_whole k is p.has ∙ p.path ∙ ap (λ (l : List ℕ). whole_of from ++ l) (e ∙ ap (λ (n : ℕ). n ∷ rest) b_is);
        })
