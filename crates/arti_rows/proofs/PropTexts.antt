-- Property texts, part by part.
use Rattle.std.proofs.Common.{◌≡◌, ◌≢◌, ℕ, ◌+◌, ◌<◌, ◌≤◌, Bool, true, false, List, [], ◌∷◌, ◌++◌, length, get_or, take, drop, ◌-◌, length-drop, refl, sym, ap, ◌∙◌, arith, add-one}
use Rattle.std.proofs.Common.{◌⊎◌, inl, inr, ⊎_elim, subst, below_more}
use Rattle.std.specs.Prelude.{map, encode_utf8, encode_utf8_all, ◌&&◌}
use Rattle.std.specs.declared.cmp.Ordering.{Ordering}
use Rattle.std.specs.declared.cmp.Ordering.TheVariants.{Less, Equal, Greater}
use Rattle.std.specs.Ordering.{match_ordering}
use Rattle.std.specs.BTreeSet.{insert_key}
use Rattle.std.proofs.lemmas.List.{append-nil, map-append, take_all, get_or_default}
use Rattle.std.proofs.lemmas.List.Elements.{filter-append}
use Rattle.std.proofs.lemmas.List.Concat.{flat_map-append}
use Rattle.std.proofs.lemmas.List.Sums.{fold-append}
use Rattle.std.proofs.Math.Seq.{take-suc}
use Rattle.std.proofs.lemmas.Str.{encodes-append}
use Rattle.std.proofs.lemmas.List.Sums.{position_or_len_is}
use Rattle.std.proofs.lemmas.List.Folds.{list_any_at, list_any_none, list_all-append}
use Rattle.std.proofs.lemmas.List.Splits.{slice_split_first, slice_split_none}
use Rattle.std.specs.List.{list_any, list_all, fold, filter, flat_map, slice_split, before_first, after_first, position_or_len}
use Rattle.std.proofs.Common.{Some, None}
use Rattle.std.specs.Prelude.{◌==◌, if◌then◌else◌}
use Rattle.std.specs.Ordering.{nat_cmp}
use Rattle.std.specs.Cmp.Lexicographic.{slice_cmp}
use Rattle.std.specs.Str.{NoCharPasses}
use Rattle.std.proofs.lemmas.Str.Pattern.{NoCharPasses-char}
use Rattle.std.proofs.lemmas.Bool.{ne_eqb}
use Rattle.arti_rows.specs.declared.rows.Property.{Property}
use Rattle.arti_rows.specs.declared.mark.Mark.{Mark}
use Rattle.arti_rows.specs.PropTexts.{ends, text_of, has_marks, pieces_of, pairs_in, values_at, pairs_at, is_prop_key, is_prop_value, is_good_piece, property_cmp, in_order, keys_of_text}

-- one character more
pub text_more : (xs : List Mark) (i : ℕ) (d : Mark) → i < length xs → text_of (take (i + 1) xs) ≡ text_of (take i xs) ++ encode_utf8 (get_or xs i d).char
text_more xs i d below =
    let more : take (i + 1) xs ≡ take i xs ++ get_or xs i d ∷ [] = rw add-one (take-suc xs i d below) in
    let chars : map (λ (m : Mark). m.char) (take (i + 1) xs) ≡ map (λ (m : Mark). m.char) (take i xs) ++ (get_or xs i d).char ∷ [] = ap (map (λ (m : Mark). m.char)) more ∙ map-append (λ (m : Mark). m.char) (take i xs) (get_or xs i d ∷ []) in
    ap encode_utf8_all chars ∙ encodes-append (map (λ (m : Mark). m.char) (take i xs)) ((get_or xs i d).char ∷ []) ∙ ap (λ (l : List ℕ). text_of (take i xs) ++ l) (append-nil (encode_utf8 (get_or xs i d).char))

module _ (p : Mark → Bool) (xs : List Mark) where
  -- the first character that ends a part
  pub first_at : (i : ℕ) (d : Mark) → i < length xs → ((k : ℕ) (e : Mark) → k < i → p (get_or xs k e) ≡ false) → p (get_or xs i d) ≡ true → position_or_len p xs ≡ i
  first_at i d below none at = position_or_len_is p xs i d (omega arith) (λ k under. none k d under) (λ u. at)

  pub cut_at : (i : ℕ) (d : Mark) → i < length xs → ((k : ℕ) (e : Mark) → k < i → p (get_or xs k e) ≡ false) → p (get_or xs i d) ≡ true
      → (take i xs ≡ before_first p xs) × (take (length xs - (i + 1)) (drop (i + 1) xs) ≡ after_first p xs) × (list_any p xs ≡ true) × (slice_split p xs ≡ take i xs ∷ slice_split p (take (length xs - (i + 1)) (drop (i + 1) xs)))
  cut_at i d below none at =
      let place = first_at i d below none at in
      let front : take i xs ≡ before_first p xs = ap (λ n. take n xs) (sym place) in
      let whole : take (length xs - (i + 1)) (drop (i + 1) xs) ≡ drop (i + 1) xs = take_all (length xs - (i + 1)) (drop (i + 1) xs) (omega (arith, length-drop (i + 1) xs)) in
      let back : take (length xs - (i + 1)) (drop (i + 1) xs) ≡ after_first p xs = whole ∙ ap (λ n. drop (n + 1) xs) (sym place) in
      (front, back, list_any_at p xs i d below at, slice_split_first p xs d (omega (arith, place)) ∙ ap (λ (l : List Mark). l ∷ slice_split p (after_first p xs)) (sym front) ∙ ap (λ (l : List Mark). take i xs ∷ slice_split p l) (sym back))

  pub uncut : ((k : ℕ) (e : Mark) → k < length xs → p (get_or xs k e) ≡ false) → (list_any p xs ≡ false) × (slice_split p xs ≡ xs ∷ [])
  uncut none = (list_any_none p xs (λ k d below. none k d below), slice_split_none p xs (λ k d below. none k d below))

abbrev pub blank : Mark
blank = record { char = 0; escaped = false }

pub none_more : (p : Mark → Bool) (xs : List Mark) (i : ℕ) → i < length xs → ((k : ℕ) (e : Mark) → k < i → p (get_or xs k e) ≡ false) → p (get_or xs i blank) ≡ false → (k : ℕ) (e : Mark) → k < i + 1 → p (get_or xs k e) ≡ false
none_more p xs i below none at k e under =
    below_more (λ (k : ℕ). (e : Mark) → p (get_or xs k e) ≡ false) i (λ k under e. none k e under) (λ e. ap p (get_or_default xs i e blank below) ∙ at) k under e

module _ {K : Type 0} (cmp : K → K → Ordering) where
  longer_by : (x k : K) (xs more : List K) (o : Ordering) → length xs ≤ length more → length (x ∷ xs) ≤ length (match_ordering o (k ∷ x ∷ xs) (x ∷ xs) (x ∷ more))
  longer_by x k xs more Less l = omega arith
  longer_by x k xs more Equal l = omega arith
  longer_by x k xs more Greater l = omega arith

  insert_longer : (ks : List K) (k : K) → length ks ≤ length (insert_key cmp ks k)
  insert_longer [] k = omega arith
  insert_longer (x ∷ xs) k = longer_by x k xs (insert_key cmp xs k) (cmp k x) (insert_longer xs k)

  -- what is added never makes fewer
  longer : (ks xs : List K) → length ks ≤ length (fold (insert_key cmp) ks xs)
  longer ks [] = omega arith
  longer ks (x ∷ xs) =
      let a : length ks ≤ length (insert_key cmp ks x) = insert_longer ks x in
      let b : length (insert_key cmp ks x) ≤ length (fold (insert_key cmp) (insert_key cmp ks x) xs) = longer (insert_key cmp ks x) xs in
      omega arith

  module _ (rest one after : List K) (parts : rest ≡ one ++ after) where
    -- the keys of the first part, then those of the others
    pub more_step : (ks ms : List K) → ms ≡ fold (insert_key cmp) ks one → fold (insert_key cmp) ms after ≡ fold (insert_key cmp) ks rest
    more_step ks ms is = ap (λ (l : List K). fold (insert_key cmp) l after) is ∙ sym (fold-append (insert_key cmp) ks one after) ∙ ap (fold (insert_key cmp) ks) (sym parts)

    pub long_step : (ks : List K) (n : ℕ) → n < length (fold (insert_key cmp) ks one) → n < length (fold (insert_key cmp) ks rest)
    long_step ks n many =
        let whole : fold (insert_key cmp) (fold (insert_key cmp) ks one) after ≡ fold (insert_key cmp) ks rest = more_step ks (fold (insert_key cmp) ks one) refl in
        let l : length (fold (insert_key cmp) ks one) ≤ length (fold (insert_key cmp) (fold (insert_key cmp) ks one) after) = longer (fold (insert_key cmp) ks one) after in
        let same : length (fold (insert_key cmp) (fold (insert_key cmp) ks one) after) ≡ length (fold (insert_key cmp) ks rest) = ap length whole in
        omega arith

module _ {A : Type 0} (good : A → Bool) (rest one after : List A) (parts : rest ≡ one ++ after) where
  pub good_step : list_all good one ≡ true → list_all good after ≡ list_all good rest
  good_step is = sym (ap (list_all good) parts ∙ list_all-append good one after ∙ ap (λ b. b && list_all good after) is)

  pub bad_step : list_all good one ≡ false → list_all good rest ≡ false
  bad_step is = ap (list_all good) parts ∙ list_all-append good one after ∙ ap (λ b. b && list_all good after) is

-- a fault of the first part is one of the whole
pub fault_step : {A K : Type 0} (good : A → Bool) (cmp : K → K → Ordering) (whole rest one after : List A) (all rests ones afters start ks : List K) → rest ≡ one ++ after → rests ≡ ones ++ afters
    → list_all good rest ≡ list_all good whole → fold (insert_key cmp) ks rests ≡ fold (insert_key cmp) start all → (list_all good one ≡ false) ⊎ (1024 < length (fold (insert_key cmp) ks ones)) → (list_all good whole ≡ false) ⊎ (1024 < length (fold (insert_key cmp) start all))
fault_step good cmp whole rest one after all rests ones afters start ks parts items goods more fault =
    ⊎_elim (λ bad. inl (sym goods ∙ bad_step good rest one after parts bad))
    (λ many. inr (subst (λ (l : List _). 1024 < length l) more (long_step cmp rests ones afters items ks 1024 many)))
    fault

-- the pieces of a text, the first one and the others
pub pieces_step : (rest piece after : List Mark) → slice_split (ends 59) rest ≡ piece ∷ slice_split (ends 59) after → pieces_of rest ≡ filter has_marks (piece ∷ []) ++ pieces_of after
pieces_step rest piece after split = ap (filter has_marks) split ∙ filter-append has_marks (piece ∷ []) (slice_split (ends 59) after)

pub pairs_step : (rest one after : List (List Mark)) → rest ≡ one ++ after → flat_map pairs_in rest ≡ flat_map pairs_in one ++ flat_map pairs_in after
pairs_step rest one after parts = ap (flat_map pairs_in) parts ∙ flat_map-append pairs_in one after

-- the values of a piece, the first one and the others
pub values_step : (rest value after : List Mark) → slice_split (ends 44) rest ≡ value ∷ slice_split (ends 44) after → values_at rest ≡ (text_of value ∷ []) ++ values_at after
values_step rest value after split = ap (map text_of) split

pub pairs_at_step : (key : List ℕ) (rest value after : List Mark) → slice_split (ends 44) rest ≡ value ∷ slice_split (ends 44) after → pairs_at key rest ≡ (record { key = key; value = text_of value } ∷ []) ++ pairs_at key after
pairs_at_step key rest value after split = ap (λ (l : List (List Mark)). map (λ (v : List ℕ). record { key = key; value = v }) (map text_of l)) split

-- the faults of a value are those of the piece
pub values_fault : (key : List ℕ) (whole rest value after : List Mark) (start ks : List Property) → slice_split (ends 44) rest ≡ value ∷ slice_split (ends 44) after
    → list_all is_prop_value (values_at rest) ≡ list_all is_prop_value (values_at whole) → fold (insert_key property_cmp) ks (pairs_at key rest) ≡ fold (insert_key property_cmp) start (pairs_at key whole)
    → (is_prop_value (text_of value) ≡ false) ⊎ (1024 < length (insert_key property_cmp ks (record { key = key; value = text_of value })))
    → (list_all is_prop_value (values_at whole) ≡ false) ⊎ (1024 < length (fold (insert_key property_cmp) start (pairs_at key whole)))
values_fault key whole rest value after start ks split goods more fault =
    fault_step is_prop_value property_cmp (values_at whole) (values_at rest) (text_of value ∷ []) (values_at after) (pairs_at key whole) (pairs_at key rest) (record { key = key; value = text_of value } ∷ []) (pairs_at key after) start ks
    (values_step rest value after split) (pairs_at_step key rest value after split) goods more (⊎_elim (λ bad. inl (ap (λ b. b && true) bad)) (λ many. inr many) fault)

-- those of a piece are those of the text
pub pieces_fault : (whole rest piece after : List Mark) (start ks : List Property) → slice_split (ends 59) rest ≡ piece ∷ slice_split (ends 59) after
    → list_all is_good_piece (pieces_of rest) ≡ list_all is_good_piece (pieces_of whole) → fold (insert_key property_cmp) ks (flat_map pairs_in (pieces_of rest)) ≡ fold (insert_key property_cmp) start (flat_map pairs_in (pieces_of whole))
    → (list_all is_good_piece (filter has_marks (piece ∷ [])) ≡ false) ⊎ (1024 < length (fold (insert_key property_cmp) ks (flat_map pairs_in (filter has_marks (piece ∷ [])))))
    → (list_all is_good_piece (pieces_of whole) ≡ false) ⊎ (1024 < length (fold (insert_key property_cmp) start (flat_map pairs_in (pieces_of whole))))
pieces_fault whole rest piece after start ks split goods more fault =
    let parts = pieces_step rest piece after split in
    fault_step is_good_piece property_cmp (pieces_of whole) (pieces_of rest) (filter has_marks (piece ∷ [])) (pieces_of after) (flat_map pairs_in (pieces_of whole)) (flat_map pairs_in (pieces_of rest)) (flat_map pairs_in (filter has_marks (piece ∷ []))) (flat_map pairs_in (pieces_of after)) start ks
    parts (pairs_step (pieces_of rest) (filter has_marks (piece ∷ [])) (pieces_of after) parts) goods more fault

abbrev pub comma : ℕ → Bool
comma b = b == 44

no_keys_by : (whole : List ℕ) (b : Bool) → b ≡ false → (if b then Some (in_order (slice_cmp nat_cmp) (slice_split comma whole)) else None) ≡ None
no_keys_by whole b is = ap (λ c. if c then Some (in_order (slice_cmp nat_cmp) (slice_split comma whole)) else None) is

-- the fault of a key is that of the list
pub keys_fault : (whole rest key : List ℕ) (after : List (List ℕ)) → slice_split comma rest ≡ key ∷ after → list_all is_prop_key (slice_split comma rest) ≡ list_all is_prop_key (slice_split comma whole) → is_prop_key key ≡ false → keys_of_text whole ≡ None
keys_fault whole rest key after split goods bad =
    no_keys_by whole (list_all is_prop_key (slice_split comma whole)) (sym goods ∙ bad_step is_prop_key (slice_split comma rest) (key ∷ []) after split (ap (λ b. b && true) bad))

-- all keys are good, and this is the list
pub keys_all : (whole rest : List ℕ) (ks all : List (List ℕ)) → slice_split comma rest ≡ rest ∷ [] → list_all is_prop_key (slice_split comma rest) ≡ list_all is_prop_key (slice_split comma whole)
    → fold (insert_key (slice_cmp nat_cmp)) ks (slice_split comma rest) ≡ fold (insert_key (slice_cmp nat_cmp)) [] (slice_split comma whole) → is_prop_key rest ≡ true → all ≡ insert_key (slice_cmp nat_cmp) ks rest → keys_of_text whole ≡ Some all
keys_all whole rest ks all split goods more good is =
    let yes : list_all is_prop_key (slice_split comma whole) ≡ true = sym goods ∙ ap (list_all is_prop_key) split ∙ ap (λ b. b && true) good in
    let list : in_order (slice_cmp nat_cmp) (slice_split comma whole) ≡ all = sym more ∙ ap (fold (insert_key (slice_cmp nat_cmp)) ks) split ∙ sym is in
    ap (λ c. if c then Some (in_order (slice_cmp nat_cmp) (slice_split comma whole)) else None) yes ∙ ap Some list

pub first_key : (rest key after : List ℕ) → (key ≡ before_first comma rest) × (after ≡ after_first comma rest) × (position_or_len comma rest < length rest) → slice_split comma rest ≡ key ∷ slice_split comma after
first_key rest key after m =
    slice_split_first comma rest 0 m.2 ∙ ap (λ (s : List ℕ). s ∷ slice_split comma (after_first comma rest)) (sym m.0) ∙ ap (λ (a : List ℕ). key ∷ slice_split comma a) (sym m.1)

not_comma : (xs : List ℕ) (k : ℕ) → get_or xs k 0 ≢ 44 → comma (get_or xs k 0) ≡ false
not_comma xs k differs = ne_eqb (get_or xs k 0) 44 differs

pub one_key : (rest : List ℕ) → NoCharPasses comma rest → slice_split comma rest ≡ rest ∷ []
one_key rest none = slice_split_none comma rest (λ k d below. ap comma (get_or_default rest k d 0 below) ∙ not_comma rest k (NoCharPasses-char 44 rest k none (omega arith) below))

-- the keys of the first part, and those of the others
pub keys_step : (whole rest key after : List ℕ) (ks ms : List (List ℕ)) → slice_split comma rest ≡ key ∷ slice_split comma after → list_all is_prop_key (slice_split comma rest) ≡ list_all is_prop_key (slice_split comma whole)
    → fold (insert_key (slice_cmp nat_cmp)) ks (slice_split comma rest) ≡ fold (insert_key (slice_cmp nat_cmp)) [] (slice_split comma whole) → is_prop_key key ≡ true → ms ≡ insert_key (slice_cmp nat_cmp) ks key
    → (list_all is_prop_key (slice_split comma after) ≡ list_all is_prop_key (slice_split comma whole)) × (fold (insert_key (slice_cmp nat_cmp)) ms (slice_split comma after) ≡ fold (insert_key (slice_cmp nat_cmp)) [] (slice_split comma whole))
keys_step whole rest key after ks ms split goods more good is = (
  good_step is_prop_key (slice_split comma rest) (key ∷ []) (slice_split comma after) split (ap (λ b. b && true) good) ∙ goods,
  more_step (slice_cmp nat_cmp) (slice_split comma rest) (key ∷ []) (slice_split comma after) split ks ms is ∙ more,
)

pub shorter : (rest key after : List ℕ) → (key ≡ before_first comma rest) × (after ≡ after_first comma rest) × (position_or_len comma rest < length rest) → length after < length rest
shorter rest key after m = let far = ap length m.1 in omega (arith, far, length-drop (position_or_len comma rest + 1) rest, m.2)
