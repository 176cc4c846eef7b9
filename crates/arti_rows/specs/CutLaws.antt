-- A path and name joined is cut at its last slash, and joined again.
use Rattle.std.proofs.Common.{length-drop, ◌≡◌, ◌≢◌, ℕ, ◌+◌, ◌-◌, ◌<◌, ◌≤◌, Bool, true, false, cond, List, [], ◌∷◌, ◌++◌, length, get_or, take, drop, Some, None, refl, sym, ap, ◌∙◌, subst, arith}
use Rattle.std.specs.Prelude.{nat_eq, not, MatchBool, ◌==◌}
use Rattle.std.specs.Str.{NoCharPasses}
use Rattle.std.specs.Str.Pattern.{HasCharAt}
use Rattle.std.specs.List.{list_any, suffix_len, before_last}
use Rattle.std.specs.Cmp.Lexicographic.{pointwise, bytes_decides}
use Rattle.std.proofs.lemmas.List.Sums.{suffix_len_is}
use Rattle.std.proofs.lemmas.List.Folds.{list_any_at, list_any_none}
use Rattle.std.proofs.lemmas.List.Splits.{slice_split_first, slice_split_none}
use Rattle.std.specs.List.{before_first, after_first, position_or_len}
use Rattle.std.specs.Option.{option_or}
use Rattle.std.proofs.lemmas.List.{take-append-drop, get_or-drop, get_or_default}
use Rattle.std.proofs.lemmas.Str.Pattern.{NoCharPasses-char, drop_at_char}
use Rattle.std.proofs.lemmas.Bool.{ne_eqb}
use Rattle.arti_rows.specs.Key.{root_path, whole_of, name_of, path_of, key_of, Rejoins}
use Rattle.arti_rows.specs.Names.{is_repo_key, segments_of, segment_fault, first_fault, length_fault, path_fault, key_fault, IsKey}
use Rattle.arti_rows.specs.declared.fault.KeyFault.{KeyFault}
use Rattle.arti_rows.specs.declared.fault.KeyFault.TheVariants.{BadName}

abbrev slash : ℕ → Bool
slash b = b == 47

abbrev HasNone : List ℕ → Type 0
HasNone s = (k : ℕ) → k < length s → get_or s k 0 ≢ 47

not_slash : (s : List ℕ) (k : ℕ) → get_or s k 0 ≢ 47 → slash (get_or s k 0) ≡ false
not_slash s k ne = ne_eqb (get_or s k 0) 47 ne

-- the length of what stands behind the last slash
behind : (s : List ℕ) (n : ℕ) → n ≤ length s → ((k : ℕ) → n ≤ k → k < length s → get_or s k 0 ≢ 47) → (0 < n → get_or s (n - 1) 0 ≡ 47) → suffix_len (λ x. not (slash x)) s ≡ length s - n
behind s n le none at =
    suffix_len_is (λ x. not (slash x)) s n 0 le (λ k above below. ap not (not_slash s k (none k above below))) (λ some. ap (λ b. not (slash b)) (at some))

-- cut at its last slash
pub cut_at : (s : List ℕ) (i : ℕ) → i < length s → get_or s i 0 ≡ 47 → ((k : ℕ) → i + 1 ≤ k → k < length s → get_or s k 0 ≢ 47) → (take i s ≡ path_of s) × (drop (i + 1) s ≡ name_of s) × (list_any slash s ≡ true)
cut_at s i below at none =
    let long = behind s (i + 1) (omega arith) none (λ some. let e : (i + 1) - 1 ≡ i = omega arith in ap (λ n. get_or s n 0) e ∙ at) in
    let has : list_any slash s ≡ true = list_any_at slash s i 0 below (ap slash at) in
    let place : length s - suffix_len (λ x. not (slash x)) s ≡ i + 1 = omega (arith, long) in
    let before : length s - suffix_len (λ x. not (slash x)) s - 1 ≡ i = omega (arith, place) in (
      ap (λ n. take n s) (sym before) ∙ sym (ap (λ b. cond b (before_last slash s) root_path) has),
      ap (λ n. drop n s) (sym place),
      has,
    )

-- with no slash the whole is the name
pub uncut : (s : List ℕ) → HasNone s → (root_path ≡ path_of s) × (s ≡ name_of s) × (list_any slash s ≡ false)
uncut s none =
    let long = behind s 0 (omega arith) (λ k above below. none k below) (λ some. absurd (omega arith)) in
    let hasnt : list_any slash s ≡ false = list_any_none slash s (λ k d below. ap slash (get_or_default s k d 0 below) ∙ not_slash s k (none k below)) in
    let place : length s - suffix_len (λ x. not (slash x)) s ≡ 0 = omega (arith, long) in (
      sym (ap (λ b. cond b (before_last slash s) root_path) hasnt),
      sym (ap (λ n. drop n s) place),
      hasnt,
    )

-- what `rsplit_once` says of a slash that it found
pub cut_by_match : (s front back : List ℕ) → ((i : ℕ) × (j : ℕ) × (NoCharPasses slash (drop j s) × HasCharAt 47 s i j) × (front ≡ take i s) × (back ≡ drop j s) × (i ≤ j) × (length front ≡ i) × (length back + j ≡ length s))
    → (front ≡ path_of s) × (back ≡ name_of s) × Rejoins s front back
cut_by_match s front back m =
    let i = m.0 in
    let char = m.2.1 in
    let next : m.1 ≡ i + 1 = char.ends in
    let below : i < length s = omega (arith, next, m.7) in
    let at : get_or s i 0 ≡ 47 = char.byte (omega arith) in
    let none : (k : ℕ) → i + 1 ≤ k → k < length s → get_or s k 0 ≢ 47 = λ k above under e.
    let place : m.1 + (k - m.1) ≡ k = omega (arith, next) in
    NoCharPasses-char 47 (drop m.1 s) (k - m.1) m.2.0 (omega arith) (let far = ap length m.4 in omega (arith, m.7, far, next)) (get_or-drop m.1 s (k - m.1) 0 ∙ ap (λ n. get_or s n 0) place ∙ e) in
    let found = cut_at s i below at none in
    let back_is : back ≡ drop (i + 1) s = m.4 ∙ ap (λ n. drop n s) next in
    let whole : s ≡ front ++ 47 ∷ back =
    sym (take-append-drop i s) ∙ ap (λ (l : List ℕ). take i s ++ l) (drop_at_char 47 s i m.1 char (omega arith)) ∙ ap (λ (l : List ℕ). take i s ++ 47 ∷ l) (sym m.4) ∙ ap (λ (l : List ℕ). l ++ 47 ∷ back) (sym m.3) in
    (m.3 ∙ found.0, back_is ∙ found.1, subst (λ (b : Bool). MatchBool b (s ≡ front ++ 47 ∷ back) (s ≡ back)) (sym found.2) whole)

-- what it says where it found none
pub uncut_by_match : (s : List ℕ) → NoCharPasses slash s → (root_path ≡ path_of s) × (s ≡ name_of s) × Rejoins s root_path s
uncut_by_match s none =
    let found = uncut s (λ k below. NoCharPasses-char 47 s k none (omega arith) below) in
    (found.0, found.1, subst (λ (b : Bool). MatchBool b (s ≡ root_path ++ 47 ∷ s) (s ≡ s)) (sym found.2) refl)

dot_is_bad : (name : List ℕ) → path_fault (46 ∷ 47 ∷ name) ≡ None → ⊥
dot_is_bad name good = cc

is_root : (path : List ℕ) → pointwise nat_eq path root_path ≡ true → path ≡ root_path
is_root path same = (bytes_decides path root_path).0 same

by_root : (b : Bool) (name path : List ℕ) → b ≡ false → cond b name (path ++ 47 ∷ name) ≡ path ++ 47 ∷ name
by_root b name path is = ap (λ c. cond c name (path ++ 47 ∷ name)) is

whole_by : (b : Bool) (repo whole path name : List ℕ) → pointwise nat_eq path root_path ≡ b → path_fault whole ≡ None → whole ≡ path ++ 47 ∷ name → whole_of (record { repo = repo; path = path; name = name }) ≡ whole
whole_by true repo whole path name same good is =
    let dot : whole ≡ 46 ∷ 47 ∷ name = is ∙ ap (λ (l : List ℕ). l ++ 47 ∷ name) (is_root path same) in
    absurd (dot_is_bad name (subst (λ (l : List ℕ). path_fault l ≡ None) dot good))
whole_by false repo whole path name same good is = by_root (pointwise nat_eq path root_path) name path same ∙ sym is

rejoined : (b : Bool) (repo whole path name : List ℕ) → list_any slash whole ≡ b → path_fault whole ≡ None → MatchBool b (whole ≡ path ++ 47 ∷ name) (whole ≡ name) → path ≡ cond b path root_path
    → whole_of (record { repo = repo; path = path; name = name }) ≡ whole
rejoined true repo whole path name has good is at = whole_by (pointwise nat_eq path root_path) repo whole path name refl good is
rejoined false repo whole path name has good is at = ap (λ (p : List ℕ). whole_of (record { repo = repo; path = p; name = name })) at ∙ sym is

path_at : (b : Bool) (front : List ℕ) → cond b front root_path ≡ cond b (cond b front root_path) root_path
path_at true front = refl
path_at false front = refl

-- a good path and name joined is that of its key
pub whole_of-key_of : (repo whole : List ℕ) → path_fault whole ≡ None → Rejoins whole (path_of whole) (name_of whole) → whole_of (key_of repo whole) ≡ whole
whole_of-key_of repo whole good joins = rejoined (list_any slash whole) repo whole (path_of whole) (name_of whole) refl good joins (path_at (list_any slash whole) (before_last slash whole))

path_good : (b : Bool) (whole : List ℕ) (fault : KeyFault) → cond b (path_fault whole) (Some fault) ≡ None → path_fault whole ≡ None
path_good true whole fault e = e
path_good false whole fault e = cc

-- a key of good parts keeps the rules
pub is_key : (repo whole : List ℕ) → key_fault repo whole ≡ None → Rejoins whole (path_of whole) (name_of whole) → IsKey (key_of repo whole)
is_key repo whole good joins =
    let same = whole_of-key_of repo whole (path_good (is_repo_key repo) whole BadName good) joins in
    record { good = ap (λ (w : List ℕ). key_fault repo w) same ∙ good; cut = ap (λ (w : List ℕ). key_of repo w) same }

-- a path is cut at its first slash
pub first_cut : (rest segment after : List ℕ) → (segment ≡ before_first slash rest) × (after ≡ after_first slash rest) × (position_or_len slash rest < length rest) → segments_of rest ≡ segment ∷ segments_of after
first_cut rest segment after m =
    slice_split_first slash rest 0 m.2 ∙ ap (λ (s : List ℕ). s ∷ segments_of (after_first slash rest)) (sym m.0) ∙ ap (λ (a : List ℕ). segment ∷ segments_of a) (sym m.1)

-- what stands behind the first slash is shorter
pub after_shorter : (rest segment after : List ℕ) → (segment ≡ before_first slash rest) × (after ≡ after_first slash rest) × (position_or_len slash rest < length rest) → length after + 1 ≤ length rest
after_shorter rest segment after m = let far = ap length m.1 in omega (arith, far, length-drop (position_or_len slash rest + 1) rest, m.2)

-- a path without a slash is one segment
pub one_segment : (rest : List ℕ) → NoCharPasses slash rest → segments_of rest ≡ rest ∷ []
one_segment rest none = slice_split_none slash rest (λ k d below. ap slash (get_or_default rest k d 0 below) ∙ not_slash rest k (NoCharPasses-char 47 rest k none (omega arith) below))

-- the fault of the next segment is that of the path
pub fault_at : (whole rest : List ℕ) (parts : List (List ℕ)) (segment : List ℕ) (fault : KeyFault) → segments_of rest ≡ segment ∷ parts → Some fault ≡ segment_fault segment → first_fault (segments_of rest) ≡ first_fault (segments_of whole) → Some fault ≡ path_fault whole
fault_at whole rest parts segment fault is bad same =
    sym (ap (λ f. option_or f (length_fault whole)) (sym same ∙ ap first_fault is ∙ ap (λ f. option_or f (first_fault parts)) (sym bad)))

-- a segment without a fault is passed over
pub no_fault_at : (rest : List ℕ) (parts : List (List ℕ)) (segment : List ℕ) → segments_of rest ≡ segment ∷ parts → None ≡ segment_fault segment → first_fault (segments_of rest) ≡ first_fault parts
no_fault_at rest parts segment is good = ap first_fault is ∙ ap (λ f. option_or f (first_fault parts)) (sym good)

-- where no segment has a fault, the lengths decide
pub by_length : (whole : List ℕ) → first_fault (segments_of whole) ≡ None → path_fault whole ≡ length_fault whole
by_length whole none = ap (λ f. option_or f (length_fault whole)) none
