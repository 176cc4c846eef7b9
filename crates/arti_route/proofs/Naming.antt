-- Keys of segments, which are judged one by one before they are joined.
use Rattle.std.proofs.Common.{◌≡◌, ◌≢◌, ℕ, Bool, true, false, List, [], ◌∷◌, ◌++◌, length, refl, sym, ap, ◌∙◌, ⊎_elim, arith, append-nil}
use Rattle.std.specs.Prelude.{Result, Ok, Err, OnOk, Option, Some, None, All, ◌||◌, ◌&&◌, not, nat_lt, if◌then◌else◌}
use Rattle.std.specs.Option.{option_or}
use Rattle.std.specs.Result.{result_err}
use Rattle.std.specs.List.{list_any, slice_split, join_with_byte, flat_map}
use Rattle.std.proofs.lemmas.Bool.{or_parts, cases_Bool, false≢true, eqb-true}
use Rattle.std.proofs.Math.Bool.{or-true}
use Rattle.std.proofs.lemmas.Bool.Decides.{nat_tests}
use Rattle.std.proofs.lemmas.List.Elements.{All-cons, All-nil}
use Rattle.std.proofs.lemmas.List.Splits.{slice_split_at, slice_split_none}
use Rattle.arti_rows.specs.Key.{Key, key_of}
use Rattle.arti_rows.specs.Names.{is_repo_key, is_barred_byte, is_one_of, dot_names, has_good_name, segment_fault, first_fault, length_fault, path_fault, key_fault}
use Rattle.arti_rows.specs.declared.fault.KeyFault.{KeyFault}
use Rattle.arti_rows.specs.declared.fault.KeyFault.TheVariants as fault
use Rattle.arti_rows.specs.declared.refusal.Refusal.TheVariants as refusal
use Rattle.arti_model.specs.Targets.{is_slash}
use Rattle.arti_model.specs.Asks.{key_by, key_read}

-- ---- join_with_byte

pub join_with_byte-cons : (s : List ℕ) (others : List (List ℕ)) → join_with_byte 47 (s ∷ others) ≡ s ++ flat_map (λ t. 47 ∷ t) others
join_with_byte-cons s [] = sym (append-nil s)
join_with_byte-cons s (t ∷ others) = ap (λ l. s ++ 47 ∷ l) (join_with_byte-cons t others)

all_false : (p : ℕ → Bool) (s : List ℕ) → list_any p s ≡ false → All (λ b. p b ≡ false) s
all_false p [] none = All-nil (λ b. p b ≡ false)
all_false p (b ∷ s) none = let parts = or_parts (p b) (list_any p s) none in All-cons (λ c. p c ≡ false) b s parts.0 (all_false p s parts.1)

abbrev pub has_slash : List ℕ → Bool
has_slash s = list_any is_slash s

-- segments without a slash are those of the path that they make
split_joined : (s : List ℕ) (others : List (List ℕ)) → list_any has_slash (s ∷ others) ≡ false → slice_split is_slash (join_with_byte 47 (s ∷ others)) ≡ s ∷ others
split_joined s [] none = slice_split_none is_slash s (all_false is_slash s (or_parts (has_slash s) false none).0)
split_joined s (t ∷ others) none =
    let parts = or_parts (has_slash s) (list_any has_slash (t ∷ others)) none in
    slice_split_at is_slash s 47 (join_with_byte 47 (t ∷ others)) (all_false is_slash s parts.0) refl
    ∙ ap (λ l. s ∷ l) (split_joined t others parts.1)

-- ---- segment_fault

slash_barred : (b : ℕ) → is_slash b ≡ true → is_barred_byte b ≡ true
slash_barred b is = ap is_barred_byte (eqb-true b 47 is)

slashes_barred : (s : List ℕ) → list_any is_slash s ≡ true → list_any is_barred_byte s ≡ true
slashes_barred [] some = absurd (false≢true some)
slashes_barred (b ∷ s) some =
    ⊎_elim
    (λ (here : is_slash b ≡ true). ap (λ t. t || list_any is_barred_byte s) (slash_barred b here))
    (λ (other : is_slash b ≡ false). ap (λ t. is_barred_byte b || t) (slashes_barred s (sym (ap (λ t. t || list_any is_slash s) other) ∙ some)) ∙ or-true (is_barred_byte b))
    (cases_Bool (is_slash b))

unnamed : (a c : Bool) (x : Option KeyFault) → (if (a && not true && c) then x else Some fault.BadName) ≡ Some fault.BadName
unnamed true c x = refl
unnamed false c x = refl

abbrev named : ℕ → Option KeyFault
named n = if nat_lt 255 n then Some fault.TooLong else None

pub segment_fault-slash : (s : List ℕ) → has_slash s ≡ true → segment_fault s ≡ Some fault.BadName
segment_fault-slash s slash =
    ap (λ (t : Bool). if (nat_lt 0 (length s) && not t && not (is_one_of dot_names s)) then named (length s) else Some fault.BadName) (slashes_barred s slash)
    ∙ unnamed (nat_lt 0 (length s)) (not (is_one_of dot_names s)) (named (length s))

alone : (g l : Bool) (x : Option KeyFault) → (g ≡ true → l ≡ false → x ≡ None)
    → option_or (option_or (if g then (if l then Some fault.TooLong else None) else Some fault.BadName) None) x ≡ (if g then (if l then Some fault.TooLong else None) else Some fault.BadName)
alone true true x h = refl
alone true false x h = h refl refl
alone false l x h = refl

short : (s : List ℕ) → nat_lt 255 (length s) ≡ false → slice_split is_slash s ≡ s ∷ [] → length_fault s ≡ None
short s low one =
    let lower : nat_lt 1024 (length s) ≡ false = grind (arith, nat_tests, low) in
    ap (λ (b : Bool). if b || nat_lt 64 (length (slice_split is_slash s)) then Some fault.TooLong else None) lower
    ∙ ap (λ (ss : List (List ℕ)). if nat_lt 64 (length ss) then Some fault.TooLong else None) one

-- a segment without a slash is a path
pub key_fault-segment : (repo s : List ℕ) → is_repo_key repo ≡ true → has_slash s ≡ false → key_fault repo s ≡ segment_fault s
key_fault-segment repo s good none =
    let one : slice_split is_slash s ≡ s ∷ [] = slice_split_none is_slash s (all_false is_slash s none) in
    ap (λ (b : Bool). if b then path_fault s else Some fault.BadName) good
    ∙ ap (λ ss. option_or (first_fault ss) (length_fault s)) one
    ∙ alone (has_good_name s) (nat_lt 255 (length s)) (length_fault s) (λ _ low. short s low one)

-- what making a key says of it
pub judged : (r : Result Key KeyFault) (k : Option KeyFault) → OnOk r (k ≡ None) → (r ≡ Err fault.BadName → k ≡ Some fault.BadName) → (r ≡ Err fault.TooLong → k ≡ Some fault.TooLong)
    → result_err r ≢ Some fault.Memory → result_err r ≡ k
judged (Ok key) k good bad long memory = sym good
judged (Err fault.BadName) k good bad long memory = sym (bad refl)
judged (Err fault.TooLong) k good bad long memory = sym (long refl)
judged (Err fault.Memory) k good bad long memory = absurd (memory refl)

-- ---- key_read

again : (f x : Option KeyFault) → option_or f x ≡ option_or f (option_or f x)
again None x = refl
again (Some f) x = refl

abbrev joined : List (List ℕ) → List ℕ
joined segments = join_with_byte 47 segments

-- without a slash in them segments are judged joined
pub apart-joined : (segments : List (List ℕ)) → list_any has_slash segments ≡ false → path_fault (joined segments) ≡ option_or (first_fault segments) (path_fault (joined segments))
apart-joined [] none = refl
apart-joined (s ∷ others) none =
    let whole = joined (s ∷ others) in
    let faults = first_fault (s ∷ others) in
    let is : path_fault whole ≡ option_or faults (length_fault whole) = ap (λ ss. option_or (first_fault ss) (length_fault whole)) (split_joined s others none) in
    is ∙ again faults (length_fault whole) ∙ ap (option_or faults) (sym is)

module _ (repo : List ℕ) (segments : List (List ℕ)) where
  abbrev key : Key
  key = key_of repo (joined segments)

  pub key_read-repo : is_repo_key repo ≡ false → key_read repo segments ≡ Err refusal.BadName
  key_read-repo bad = ap (λ (b : Bool). key_by (if b then option_or (first_fault segments) (path_fault (joined segments)) else Some fault.BadName) key) bad

  pub key_read-apart : (r : Option KeyFault) → is_repo_key repo ≡ true
      → option_or r (path_fault (joined segments)) ≡ option_or (first_fault segments) (path_fault (joined segments))
      → key_read repo segments ≡ key_by (option_or r (path_fault (joined segments))) key
  key_read-apart r good same =
      ap (λ (b : Bool). key_by (if b then option_or (first_fault segments) (path_fault (joined segments)) else Some fault.BadName) key) good
      ∙ ap (λ f. key_by f key) (sym same)

  pub key_read-joined : is_repo_key repo ≡ true → path_fault (joined segments) ≡ option_or (first_fault segments) (path_fault (joined segments))
      → key_read repo segments ≡ key_by (key_fault repo (joined segments)) key
  key_read-joined good same =
      key_read-apart None good same ∙ ap (λ (b : Bool). key_by (if b then path_fault (joined segments) else Some fault.BadName) key) (sym good)
