-- The folders above a key are its folder and those above that.
use Rattle.std.proofs.Common.{◌≡◌, ◌≢◌, ℕ, ◌+◌, ◌<◌, ◌≤◌, ◌⊎◌, ⊎_elim, inl, inr, zero, suc, Bool, true, false, cond, eqb, List, [], ◌∷◌, ◌++◌, length, get_or, take, drop, Option, Some, None, refl, sym, ap, ◌∙◌, subst, arith, length-append}
use Rattle.std.specs.Prelude.{◌==◌, map, not, nat_eq, MatchBool}
use Rattle.std.specs.Cmp.Lexicographic.{pointwise}
use Rattle.std.proofs.lemmas.Bool.{eqb-true, eqb-false, ne_eqb, cases_Bool}
use Rattle.std.proofs.lemmas.List.{map-append, get_or-drop, length-drop}
use Rattle.std.proofs.Math.Seq.{split_at}
use Rattle.arti_rows.specs.Key.{Key, key_of, whole_of, path_of, name_of, fronts, folders_above, root_path, Rejoins}
use Rattle.arti_rows.specs.Names.{is_repo_key, path_fault, key_fault, IsKey}
use Rattle.arti_rows.specs.declared.fault.KeyFault.{KeyFault}
use Rattle.arti_rows.specs.declared.fault.KeyFault.TheVariants.{BadName}
use Rattle.arti_tree.specs.Rows.{has_folder, folder_of}
use Rattle.arti_rows.specs.FolderLaws.{front_good}
use Rattle.arti_rows.specs.CutLaws.{cut_at, uncut, whole_of-key_of}

abbrev slash : ℕ → Bool
slash b = b == 47

abbrev pub HasNone : List ℕ → Type 0
HasNone s = (k : ℕ) → k < length s → get_or s k 0 ≢ 47

record LastSlash (s : List ℕ) : Type 0 where
  pub at : ℕ
  pub below : at < length s
  pub is : get_or s at 0 ≡ 47
  pub none : (k : ℕ) → at + 1 ≤ k → k < length s → get_or s k 0 ≢ 47

none_from : (x : ℕ) (s : List ℕ) → x ≢ 47 → HasNone s → HasNone (x ∷ s)
none_from x s ne none zero below = ne
none_from x s ne none (suc k) below = none k (omega arith)

none_behind : (x : ℕ) (s : List ℕ) (n : ℕ) → ((k : ℕ) → n ≤ k → k < length s → get_or s k 0 ≢ 47) → (k : ℕ) → suc n ≤ k → k < length (x ∷ s) → get_or (x ∷ s) k 0 ≢ 47
none_behind x s n none zero above below = absurd (omega arith)
none_behind x s n none (suc k) above below = none k (omega arith) (omega arith)

last_slash : (s : List ℕ) → HasNone s ⊎ LastSlash s
last_slash [] = inl (λ k below. absurd (omega arith))
last_slash (x ∷ s) = ⊎_elim
    (λ (none : HasNone s). ⊎_elim (λ (e : eqb x 47 ≡ true). inr (first (eqb-true x 47 e) none)) (λ (e : eqb x 47 ≡ false). inl (none_from x s (eqb-false x 47 e) none)) (cases_Bool (eqb x 47)))
    (λ (l : LastSlash s). inr (later l))
    (last_slash s)
  where
    first : x ≡ 47 → HasNone s → LastSlash (x ∷ s)
    first e none = record { at = 0; below = omega arith; is = e; none = none_behind x s 0 (λ k _ below. none k below) }

    later : LastSlash s → LastSlash (x ∷ s)
    later l = record { at = suc l.at; below = omega (arith, l.below); is = l.is; none = λ k above below. none_behind x s (l.at + 1) l.none k (omega (arith, above)) below }

-- each text is its path and name joined
pub rejoins : (s : List ℕ) → Rejoins s (path_of s) (name_of s)
rejoins s = ⊎_elim
    (λ (none : HasNone s). let u = uncut s none in subst (λ (b : Bool). MatchBool b (s ≡ path_of s ++ 47 ∷ name_of s) (s ≡ name_of s)) (sym u.2) u.1)
    (λ (l : LastSlash s).
    let c = cut_at s l.at l.below l.is l.none in
    let e : suc l.at ≡ l.at + 1 = omega arith in
    let whole : s ≡ path_of s ++ 47 ∷ name_of s = split_at s l.at 0 l.below ∙ ap (λ b. take l.at s ++ b ∷ drop (suc l.at) s) l.is ∙ ap (λ (p : List ℕ). p ++ 47 ∷ drop (suc l.at) s) c.0 ∙ ap (λ (n : List ℕ). path_of s ++ 47 ∷ n) (ap (λ n. drop n s) e ∙ c.1) in
    subst (λ (b : Bool). MatchBool b (s ≡ path_of s ++ 47 ∷ name_of s) (s ≡ name_of s)) (sym c.2) whole)
    (last_slash s)

-- a name has no slash
plain_name : (s : List ℕ) → HasNone (name_of s)
plain_name s = ⊎_elim
    (λ (none : HasNone s). subst HasNone (uncut s none).1 none)
    (λ (l : LastSlash s).
    let c = cut_at s l.at l.below l.is l.none in
    subst HasNone c.1 (λ k below e. l.none (l.at + 1 + k) (omega arith) (omega (arith, length-drop (l.at + 1) s)) (sym (get_or-drop (l.at + 1) s k 0) ∙ e)))
    (last_slash s)

fronts_none : (s : List ℕ) → HasNone s → fronts s ≡ []
fronts_none [] none = refl
fronts_none (x ∷ s) none =
    let longer = λ (front : List ℕ). x ∷ front in
    ap (λ b. cond b ([] ∷ map longer (fronts s)) (map longer (fronts s))) (ne_eqb x 47 (none 0 (omega arith))) ∙ ap (map longer) (fronts_none s (λ k below. none (suc k) (omega arith)))

fronts_by : (b : Bool) (x : ℕ) (a p : List (List ℕ)) (last : List ℕ) → a ≡ p ++ last ∷ [] → cond b ([] ∷ map (λ (front : List ℕ). x ∷ front) a) (map (λ (front : List ℕ). x ∷ front) a) ≡ cond b ([] ∷ map (λ (front : List ℕ). x ∷ front) p) (map (λ (front : List ℕ). x ∷ front) p) ++ (x ∷ last) ∷ []
fronts_by true x a p last e = ap (λ (l : List (List ℕ)). [] ∷ l) (ap (map (λ (front : List ℕ). x ∷ front)) e ∙ map-append (λ (front : List ℕ). x ∷ front) p (last ∷ []))
fronts_by false x a p last e = ap (map (λ (front : List ℕ). x ∷ front)) e ∙ map-append (λ (front : List ℕ). x ∷ front) p (last ∷ [])

fronts_last : (path name : List ℕ) → HasNone name → fronts (path ++ 47 ∷ name) ≡ fronts path ++ path ∷ []
fronts_last [] name none = ap (λ (l : List (List ℕ)). [] ∷ map (λ (front : List ℕ). 47 ∷ front) l) (fronts_none name none)
fronts_last (x ∷ path) name none = fronts_by (slash x) x (fronts (path ++ 47 ∷ name)) (fronts path) path (fronts_last path name none)

good_by : (b : Bool) (whole : List ℕ) (fault : KeyFault) → cond b (path_fault whole) (Some fault) ≡ None → path_fault whole ≡ None
good_by true whole fault e = e
good_by false whole fault e = cc

whole_by : (b : Bool) (k : Key) → pointwise nat_eq k.path root_path ≡ b → not b ≡ true → whole_of k ≡ k.path ++ 47 ∷ k.name
whole_by true k e f = cc
whole_by false k e f = ap (λ c. cond c k.name (k.path ++ 47 ∷ k.name)) e

-- the whole of what lies in a folder
pub whole_in : (k : Key) → has_folder k ≡ true → whole_of k ≡ k.path ++ 47 ∷ k.name
whole_in k has = whole_by (pointwise nat_eq k.path root_path) k refl has

module _ (k : Key) (is : IsKey k) where
  pub good : path_fault (whole_of k) ≡ None
  good = good_by (is_repo_key k.repo) (whole_of k) BadName is.good

  pub plain : HasNone k.name
  plain = subst HasNone (ap (λ (x : Key). x.name) is.cut) (plain_name (whole_of k))

  module _ (has : has_folder k ≡ true) where
    pub joined : whole_of k ≡ k.path ++ 47 ∷ k.name
    joined = whole_in k has

    -- its folder's path and name joined is its path
    pub folder_whole : whole_of (folder_of k) ≡ k.path
    folder_whole = whole_of-key_of k.repo k.path (front_good k.path k.name (ap path_fault (sym joined) ∙ good)) (rejoins k.path)

    pub above : folders_above k ≡ folders_above (folder_of k) ++ folder_of k ∷ []
    above =
        let keys = λ (l : List (List ℕ)). map (λ front. key_of k.repo front) l in
        ap (λ (w : List ℕ). keys (fronts w)) joined ∙ ap keys (fronts_last k.path k.name plain) ∙ map-append (λ front. key_of k.repo front) (fronts k.path) (k.path ∷ [])
        ∙ ap (λ (w : List ℕ). keys (fronts w) ++ folder_of k ∷ []) (sym folder_whole)

    pub shorter : length (whole_of (folder_of k)) < length (whole_of k)
    shorter = omega (arith, ap (λ (l : List ℕ). length l) folder_whole, ap (λ (l : List ℕ). length l) joined, length-append k.path (47 ∷ k.name))

  root_by : (b : Bool) → pointwise nat_eq k.path root_path ≡ b → not b ≡ false → whole_of k ≡ k.name
  root_by true e f = ap (λ c. cond c k.name (k.path ++ 47 ∷ k.name)) e
  root_by false e f = cc

  -- at the root the name is the whole
  pub at_root : has_folder k ≡ false → whole_of k ≡ k.name
  at_root has = root_by (pointwise nat_eq k.path root_path) refl has

  -- nothing is above an item at the root
  pub none_above : has_folder k ≡ false → folders_above k ≡ []
  none_above has = ap (λ (w : List ℕ). map (λ front. key_of k.repo front) (fronts w)) (root_by (pointwise nat_eq k.path root_path) refl has) ∙ ap (map (λ front. key_of k.repo front)) (fronts_none k.name plain)

  -- its folder is a key
  pub folder_key : has_folder k ≡ true → IsKey (folder_of k)
  folder_key has =
      let whole = folder_whole has in
      let path_good : path_fault k.path ≡ None = front_good k.path k.name (ap path_fault (sym (joined has)) ∙ good) in
      record { good = ap (λ (w : List ℕ). key_fault k.repo w) whole ∙ fault_by (is_repo_key k.repo) (path_fault (whole_of k)) (path_fault k.path) is.good path_good; cut = ap (λ (w : List ℕ). key_of k.repo w) whole }
    where
      fault_by : (b : Bool) (f g : Option KeyFault) → cond b f (Some BadName) ≡ None → g ≡ None → cond b g (Some BadName) ≡ None
      fault_by true f g e h = h
      fault_by false f g e h = cc
