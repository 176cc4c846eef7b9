-- A definition that is met.
use Rattle.std.proofs.Common.{◌≡◌, ℕ, zero, suc, ◌+◌, ◌<◌, Bool, true, false, cond, List, [], ◌∷◌, length, get_or, set, take, drop, refl, subst, inr, add-one, Option, Some, None, Bor, sym, ap, ◌∙◌, arith}
use Rattle.std.specs.Prelude.{All, ◌&&◌, ◌||◌, MatchOption}
use Rattle.std.specs.Ordering.{nat_cmp}
use Rattle.std.specs.Cmp.Lexicographic.{slice_cmp}
use Rattle.std.specs.declared.cmp.Ordering.TheVariants.{Less}
use Rattle.std.proofs.lemmas.List.Elements.{All-head, All-tail, All-weaker}
use Rattle.arti_rows.specs.declared.rows.RepoDef.{RepoDef}
use Rattle.arti_repos.specs.Definitions.{has_key}
use Rattle.arti_repos.specs.Met.{was_met, owed, IsOld, Meets}
use Rattle.arti_repos.specs.Places.{IsPlace}
use Rattle.arti_repos.proofs.Keys.{same_at_equal, other_at_less, other_at_greater}
use Rattle.arti_repos.proofs.Places.{at_place}
use Rattle.arti_repos.proofs.Texts.{or_true, or_front, and_false}

-- none is
pub none_was : (defs : List RepoDef) (met : List Bool) (key : List ℕ) → All (λ b. b ≡ false) met → was_met defs met key ≡ false
none_was [] met key all = refl
none_was (d ∷ defs) [] key all = refl
none_was (d ∷ defs) (b ∷ met) key all =
    ap (λ t. (t && has_key key d) || was_met defs met key) (All-head (λ t. t ≡ false) b met all) ∙ none_was defs met key (All-tail (λ t. t ≡ false) b met all)

-- the one at a place was
pub was_at : (defs : List RepoDef) (met : List Bool) (at : ℕ) (key : List ℕ) → at < length defs → length met ≡ length defs → get_or met at false ≡ true → ((d : RepoDef) → has_key key (get_or defs at d) ≡ true) → was_met defs met key ≡ true
was_at [] met at key lt long here has = absurd (omega (arith, lt))
was_at (e ∷ defs) [] at key lt long here has = absurd (omega (arith, long))
was_at (e ∷ defs) (b ∷ met) zero key lt long here has = or_front _ _ (ap (λ t. t && has_key key e) here ∙ has e)
was_at (e ∷ defs) (b ∷ met) (suc at) key lt long here has = or_true _ _ (was_at defs met at key (omega (arith, lt)) (omega (arith, long)) here has)

none_has : (defs : List RepoDef) (met : List Bool) (key : List ℕ) → All (λ (d : RepoDef). has_key key d ≡ false) defs → was_met defs met key ≡ false
none_has [] met key all = refl
none_has (d ∷ defs) [] key all = refl
none_has (d ∷ defs) (b ∷ met) key all =
    ap (λ t. t || was_met defs met key) (and_false b (has_key key d) (All-head (λ (e : RepoDef). has_key key e ≡ false) d defs all)) ∙ none_has defs met key (All-tail (λ (e : RepoDef). has_key key e ≡ false) d defs all)

-- it wasn't, since no other has its key
pub fresh_at : (defs : List RepoDef) (met : List Bool) (at : ℕ) (key : List ℕ) → at < length defs → length met ≡ length defs → get_or met at true ≡ false
    → All (λ (d : RepoDef). has_key key d ≡ false) (take at defs) → All (λ (d : RepoDef). has_key key d ≡ false) (drop (suc at) defs) → was_met defs met key ≡ false
fresh_at [] met at key lt long here before behind = absurd (omega (arith, lt))
fresh_at (e ∷ defs) [] at key lt long here before behind = absurd (omega (arith, long))
fresh_at (e ∷ defs) (b ∷ met) zero key lt long here before behind = ap (λ t. (t && has_key key e) || was_met defs met key) here ∙ none_has defs met key behind
fresh_at (e ∷ defs) (b ∷ met) (suc at) key lt long here before behind =
    ap (λ t. t || was_met defs met key) (and_false b (has_key key e) (All-head (λ (d : RepoDef). has_key key d ≡ false) e (take at defs) before))
    ∙ fresh_at defs met at key (omega (arith, lt)) (omega (arith, long)) here (All-tail (λ (d : RepoDef). has_key key d ≡ false) e (take at defs) before) behind

or_swap : (h r : Bool) → (h || r) ≡ (r || h)
or_swap true true = refl
or_swap true false = refl
or_swap false true = refl
or_swap false false = refl

or_assoc : (a b c : Bool) → (a || (b || c)) ≡ ((a || b) || c)
or_assoc true b c = refl
or_assoc false b c = refl

-- and is from now on
pub meets_at : (defs : List RepoDef) (met : List Bool) (at : ℕ) (d : RepoDef) (key : List ℕ) → at < length defs → length met ≡ length defs → get_or met at true ≡ false → was_met defs (set met at true) key ≡ (was_met defs met key || has_key key (get_or defs at d))
meets_at [] met at d key lt long here = absurd (omega (arith, lt))
meets_at (e ∷ defs) [] at d key lt long here = absurd (omega (arith, long))
meets_at (e ∷ defs) (b ∷ met) zero d key lt long here =
    or_swap (has_key key e) (was_met defs met key) ∙ ap (λ t. ((t && has_key key e) || was_met defs met key) || has_key key e) (sym here)
meets_at (e ∷ defs) (b ∷ met) (suc at) d key lt long here =
    ap (λ t. (b && has_key key e) || t) (meets_at defs met at d key (omega (arith, lt)) (omega (arith, long)) here) ∙ or_assoc (b && has_key key e) (was_met defs met key) (has_key key (get_or defs at d))

pub owed_at : (defs : List RepoDef) (met : List Bool) (at : ℕ) (d : RepoDef) → at < length defs → length met ≡ length defs → get_or met at true ≡ false → owed defs (set met at true) + length (get_or defs at d).members ≡ owed defs met
owed_at [] met at d lt long here = absurd (omega (arith, lt))
owed_at (e ∷ defs) [] at d lt long here = absurd (omega (arith, long))
owed_at (e ∷ defs) (b ∷ met) zero d lt long here =
    let is : owed (e ∷ defs) (b ∷ met) ≡ length e.members + owed defs met = ap (λ t. cond t 0 (length e.members) + owed defs met) here in omega (arith, is)
owed_at (e ∷ defs) (b ∷ met) (suc at) d lt long here =
    let rest = owed_at defs met at d (omega (arith, lt)) (omega (arith, long)) here in omega (arith, rest)

-- what a look at a place says of the key that stands there
pub met_by : (r : Option (Bor RepoDef)) (defs : List RepoDef) (met new : List Bool) (at : ℕ) (key : List ℕ) → IsPlace defs key at → length met ≡ length defs
    → MatchOption r ((get_or met at false ≡ true) × (new ≡ met)) (λ d. (get_or met at true ≡ false) × (new ≡ set met at true) × (d.now ≡ get_or defs at d.now))
    → MatchOption r (IsOld defs met key × (new ≡ met)) (λ d. Meets defs met key d.now new)
met_by None defs met new at key place long m =
    (inr (was_at defs met at key place.within long m.0 (λ d. same_at_equal (get_or defs at d).key key (place.here d))), m.1)
met_by (Some x) defs met new at key place long m =
    let d : RepoDef = x.now in record {
      is = at_place defs key at d place ∙ ap Some (sym m.2);
      fresh =
          fresh_at defs met at key place.within long m.0
          (All-weaker (λ (e : RepoDef). slice_cmp nat_cmp e.key key ≡ Less) (λ e. has_key key e ≡ false) (λ e less. other_at_less e.key key less) (take at defs) place.before)
          (All-weaker (λ (e : RepoDef). slice_cmp nat_cmp key e.key ≡ Less) (λ e. has_key key e ≡ false) (λ e less. other_at_greater e.key key less) (drop (suc at) defs)
          (subst (λ (n : ℕ). All (λ (e : RepoDef). slice_cmp nat_cmp key e.key ≡ Less) (drop n defs)) (add-one at) place.behind));
      met = λ k. ap (λ l. was_met defs l k) m.1 ∙ meets_at defs met at d k place.within long m.0 ∙ ap (λ e. was_met defs met k || has_key k e) (sym m.2);
      owed = ap (λ (e : RepoDef). owed defs new + length e.members) m.2 ∙ ap (λ l. owed defs l + length (get_or defs at d).members) m.1 ∙ owed_at defs met at d place.within long m.0;
    }
