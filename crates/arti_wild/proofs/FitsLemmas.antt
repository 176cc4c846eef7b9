-- Why what stands between two stars may be put where it first fits.
use Rattle.std.proofs.Common.{◌≡◌, ◌⊎◌, inl, inr, ⊎_elim, ◌≤◌, Bool, true, false, not, ◌&&◌, ◌||◌, List, [], ◌∷◌, ◌++◌, length, refl, sym, ap, ◌∙◌, subst, arith}
use Rattle.std.proofs.lemmas.Bool.{false≢true, and_parts, or_cases, or_right}
use Rattle.arti_wild.specs.Fits.{any_rest, is_nil, first_and_rest, fits}
use Rattle.arti_wild.specs.Run.{takes, run_of, IsStuck, landed}

pub by_bool : {P : Type 0} (b : Bool) → (b ≡ true → P) → (b ≡ false → P) → P
by_bool true t f = t refl
by_bool false t f = f refl

pub same_bool : (a b : Bool) → (a ≡ true → b ≡ true) → (b ≡ true → a ≡ true) → a ≡ b
same_bool true b f g = sym (f refl)
same_bool false true f g = absurd (false≢true (g refl))
same_bool false false f g = refl

pub nil≢cons : {X : Type 0} (x : X) (xs : List X) → x ∷ xs ≡ [] → ⊥
nil≢cons x xs e = cc

pub same_head : {X : Type 0} (x y : X) (xs ys : List X) → x ∷ xs ≡ y ∷ ys → x ≡ y
same_head x y xs ys e = cc

pub same_tail : {X : Type 0} (x y : X) (xs ys : List X) → x ∷ xs ≡ y ∷ ys → xs ≡ ys
same_tail x y xs ys e = cc

-- ys is xs, or what follows some front of it
pub IsRest : {X : Type 0} → List X → List X → Type 0
IsRest ys [] = ys ≡ []
IsRest ys (x ∷ xs) = (ys ≡ x ∷ xs) ⊎ IsRest ys xs

pub rest_whole : {X : Type 0} (xs : List X) → IsRest xs xs
unfolding IsRest
rest_whole [] = refl
rest_whole (x ∷ xs) = inl refl

pub rest_tail : {X : Type 0} (y : X) (ys xs : List X) → IsRest (y ∷ ys) xs → IsRest ys xs
unfolding IsRest
rest_tail y ys [] h = absurd (nil≢cons y ys h)
rest_tail y ys (x ∷ xs) (inl e) = inr (subst (λ l. IsRest l xs) (sym (same_tail y x ys xs e)) (rest_whole xs))
rest_tail y ys (x ∷ xs) (inr h) = inr (rest_tail y ys xs h)

-- the same where both lists have a first element
pub rest_tails : {X : Type 0} (x y : X) (xs ys : List X) → IsRest (y ∷ ys) (x ∷ xs) → IsRest ys xs
unfolding IsRest
rest_tails x y xs ys (inl e) = subst (λ l. IsRest l xs) (sym (same_tail y x ys xs e)) (rest_whole xs)
rest_tails x y xs ys (inr h) = rest_tail y ys xs h

pub rest_rest : {X : Type 0} (zs ys xs : List X) → IsRest zs ys → IsRest ys xs → IsRest zs xs
unfolding IsRest
rest_rest zs ys [] h k = subst (λ l. IsRest zs l) k h
rest_rest zs ys (x ∷ xs) h (inl e) = subst (λ l. IsRest zs l) e h
rest_rest zs ys (x ∷ xs) h (inr k) = inr (rest_rest zs ys xs h k)

behind : {X : Type 0} (front ys : List X) → IsRest ys (front ++ ys)
unfolding IsRest
behind [] ys = rest_whole ys
behind (x ∷ front) ys = inr (behind front ys)

pub rest_front : {X : Type 0} (ys xs : List X) → IsRest ys xs → (front : List X) × (front ++ ys ≡ xs)
unfolding IsRest
rest_front ys [] h = ([], h)
rest_front ys (x ∷ xs) (inl e) = ([], e)
rest_front ys (x ∷ xs) (inr h) = let more = rest_front ys xs h in (x ∷ more.0, ap (λ l. x ∷ l) more.1)

pub front_rest : {X : Type 0} (front ys xs : List X) → front ++ ys ≡ xs → IsRest ys xs
front_rest front ys xs e = subst (λ l. IsRest ys l) e (behind front ys)

pub any_rest_of : {X : Type 0} (test : List X → Bool) (ys xs : List X) → IsRest ys xs → test ys ≡ true → any_rest test xs ≡ true
unfolding any_rest IsRest
any_rest_of test ys [] h e = ap test (sym h) ∙ e
any_rest_of test ys (x ∷ xs) (inl h) e = ap (λ b. b || any_rest test xs) (ap test (sym h) ∙ e)
any_rest_of test ys (x ∷ xs) (inr h) e = or_right (test (x ∷ xs)) (any_rest test xs) (any_rest_of test ys xs h e)

pub any_rest_has : {X : Type 0} (test : List X → Bool) (xs : List X) → any_rest test xs ≡ true → (ys : List X) × IsRest ys xs × (test ys ≡ true)
unfolding any_rest IsRest
any_rest_has test [] e = ([], refl, e)
any_rest_has test (x ∷ xs) e = ⊎_elim (λ here. (x ∷ xs, inl refl, here)) (λ later. let found = any_rest_has test xs later in (found.0, inr found.1, found.2)) (or_cases (test (x ∷ xs)) (any_rest test xs) e)

pub any_rest_skip : {X : Type 0} (test : List X → Bool) (x : X) (xs : List X) → test (x ∷ xs) ≡ false → any_rest test (x ∷ xs) ≡ any_rest test xs
unfolding any_rest
any_rest_skip test x xs e = ap (λ b. b || any_rest test xs) e

pub any_rest_nil : {X : Type 0} (test : List X → Bool) → any_rest test [] ≡ test []
unfolding any_rest
any_rest_nil test = refl

module _ {P X : Type 0} (many : P → Bool) (one : P → X → Bool) where
  -- an item that takes an element is no star
  taken : (p : P) (x : X) → takes many one p x ≡ true → (many p ≡ false) × (one p x ≡ true)
  taken p x e = by_bool (many p) (λ t. absurd (false≢true (sym (ap (λ b. not b && one p x) t) ∙ e))) (λ f. (f, sym (ap (λ b. not b && one p x) f) ∙ e))

  not_taken : (p : P) (x : X) → takes many one p x ≡ false → many p ≡ false → one p x ≡ false
  not_taken p x e f = sym (ap (λ b. not b && one p x) f) ∙ e

  pub fits-many : (p : P) (ps : List P) (xs : List X) → many p ≡ true → fits many one (p ∷ ps) xs ≡ any_rest (fits many one ps) xs
  unfolding fits
  fits-many p ps xs e = rw e refl

  fits-one : (p : P) (ps : List P) (xs : List X) → many p ≡ false → fits many one (p ∷ ps) xs ≡ first_and_rest (one p) (fits many one ps) xs
  unfolding fits
  fits-one p ps xs e = rw e refl

  fits-taken : (p : P) (ps : List P) (x : X) (xs : List X) → takes many one p x ≡ true → fits many one (p ∷ ps) (x ∷ xs) ≡ fits many one ps xs
  fits-taken p ps x xs e = let t = taken p x e in fits-one p ps (x ∷ xs) t.0 ∙ ap (λ b. b && fits many one ps xs) t.1

  run_step : (p : P) (ps : List P) (x : X) (xs : List X) → takes many one p x ≡ true → run_of (takes many one) (p ∷ ps) (x ∷ xs) ≡ run_of (takes many one) ps xs
  unfolding run_of
  run_step p ps x xs e = rw e refl

  run_stop : (p : P) (ps : List P) (x : X) (xs : List X) → takes many one p x ≡ false → run_of (takes many one) (p ∷ ps) (x ∷ xs) ≡ (p ∷ ps, x ∷ xs)
  unfolding run_of
  run_stop p ps x xs e = rw e refl

  -- what is left fits exactly where the whole does
  pub run_fits : (ps : List P) (xs : List X) (r : List P × List X) → run_of (takes many one) ps xs ≡ r → fits many one ps xs ≡ fits many one r.0 r.1
  unfolding run_of
  run_fits [] xs r e = ap (λ (p : List P × List X). fits many one p.0 p.1) e
  run_fits (p ∷ ps) [] r e = ap (λ (p : List P × List X). fits many one p.0 p.1) e
  run_fits (p ∷ ps) (x ∷ xs) r e = by_bool (takes many one p x)
      (λ t. fits-taken p ps x xs t ∙ run_fits ps xs r (sym (run_step p ps x xs t) ∙ e))
      (λ f. ap (λ (p : List P × List X). fits many one p.0 p.1) (sym (run_stop p ps x xs f) ∙ e))

  pub run_stuck : (ps : List P) (xs : List X) (r : List P × List X) → run_of (takes many one) ps xs ≡ r → IsStuck (takes many one) r.0 r.1
  unfolding run_of
  run_stuck [] xs r e = subst (λ (p : List P × List X). IsStuck (takes many one) p.0 p.1) e tt
  run_stuck (p ∷ ps) [] r e = subst (λ (p : List P × List X). IsStuck (takes many one) p.0 p.1) e tt
  run_stuck (p ∷ ps) (x ∷ xs) r e = by_bool (takes many one p x)
      (λ t. run_stuck ps xs r (sym (run_step p ps x xs t) ∙ e))
      (λ f. subst (λ (p : List P × List X). IsStuck (takes many one) p.0 p.1) (sym (run_stop p ps x xs f) ∙ e) f)

  pub run_no_longer : (ps : List P) (xs : List X) (r : List P × List X) → run_of (takes many one) ps xs ≡ r → length r.0 ≤ length ps
  unfolding run_of
  run_no_longer [] xs r e = subst (λ (p : List P × List X). length p.0 ≤ 0) e (omega arith)
  run_no_longer (p ∷ ps) [] r e = subst (λ (q : List P × List X). length q.0 ≤ length (p ∷ ps)) e (omega arith)
  run_no_longer (p ∷ ps) (x ∷ xs) r e = by_bool (takes many one p x)
      (λ t. omega (arith, run_no_longer ps xs r (sym (run_step p ps x xs t) ∙ e)))
      (λ f. subst (λ (q : List P × List X). length q.0 ≤ length (p ∷ ps)) (sym (run_stop p ps x xs f) ∙ e) (omega arith))

  -- where the items go no further, and have not come to a star or to the end of both, nothing fits
  pub stuck_fits : (ps : List P) (xs : List X) → IsStuck (takes many one) ps xs → landed many ps xs ≡ false → fits many one ps xs ≡ false
  unfolding fits
  stuck_fits [] xs stuck off = off
  stuck_fits (p ∷ ps) [] stuck off = rw off refl
  stuck_fits (p ∷ ps) (x ∷ xs) stuck off = fits-one p ps (x ∷ xs) off ∙ ap (λ b. b && fits many one ps xs) (not_taken p x stuck off)

  -- what fits a later rest of the list follows the run
  follow : (ps : List P) (xs ys : List X) (r : List P × List X) → run_of (takes many one) ps xs ≡ r → IsRest ys xs → fits many one ps ys ≡ true → (zs : List X) × IsRest zs r.1 × (fits many one r.0 zs ≡ true)
  unfolding run_of
  follow [] xs ys r e h k = (ys, subst (λ (p : List P × List X). IsRest ys p.1) e h, subst (λ (p : List P × List X). fits many one p.0 ys ≡ true) e k)
  follow (p ∷ ps) [] ys r e h k = (ys, subst (λ (p : List P × List X). IsRest ys p.1) e h, subst (λ (p : List P × List X). fits many one p.0 ys ≡ true) e k)
  follow (p ∷ ps) (x ∷ xs) [] r e h k = by_bool (takes many one p x)
      (λ t. absurd (false≢true (sym (fits-one p ps [] (taken p x t).0) ∙ k)))
      (λ f. let stop = sym (run_stop p ps x xs f) ∙ e in ([], subst (λ (p : List P × List X). IsRest [] p.1) stop h, subst (λ (p : List P × List X). fits many one p.0 [] ≡ true) stop k))
  follow (p ∷ ps) (x ∷ xs) (y ∷ ys) r e h k = by_bool (takes many one p x)
      (λ t. follow ps xs ys r (sym (run_step p ps x xs t) ∙ e) (rest_tails x y xs ys h) (and_parts (one p y) (fits many one ps ys) (sym (fits-one p ps (y ∷ ys) (taken p x t).0) ∙ k)).1)
      (λ f. let stop = sym (run_stop p ps x xs f) ∙ e in (y ∷ ys, subst (λ (p : List P × List X). IsRest (y ∷ ys) p.1) stop h, subst (λ (p : List P × List X). fits many one p.0 (y ∷ ys) ≡ true) stop k))

  -- a star takes whatever a later place leaves over
  star_takes : (qs : List P) (ys xs : List X) → landed many qs xs ≡ true → IsRest ys xs → fits many one qs ys ≡ true → fits many one qs xs ≡ true
  unfolding fits
  star_takes [] ys [] on h e = refl
  star_takes [] ys (x ∷ xs) on h e = absurd (false≢true on)
  star_takes (q ∷ qs) ys xs on h e =
      let inner = any_rest_has (fits many one qs) ys (sym (fits-many q qs ys on) ∙ e) in
      fits-many q qs xs on ∙ any_rest_of (fits many one qs) inner.0 xs (rest_rest inner.0 ys xs inner.1 h) inner.2

  pub landed_fits : (ps : List P) (xs : List X) (r : List P × List X) → run_of (takes many one) ps xs ≡ r → landed many r.0 r.1 ≡ true → any_rest (fits many one ps) xs ≡ fits many one r.0 r.1
  landed_fits ps xs r e on = same_bool _ _
      (λ some. let later = any_rest_has (fits many one ps) xs some in
      let after = follow ps xs later.0 r e later.1 later.2 in
      star_takes r.0 after.0 r.1 on after.1 after.2)
      (λ here. any_rest_of (fits many one ps) xs xs (rest_whole xs) (run_fits ps xs r e ∙ here))

  pub run_ends : (ps : List P) (xs : List X) → ps ≡ [] → run_of (takes many one) ps xs ≡ (ps, xs)
  unfolding run_of
  run_ends ps xs e = rw e refl

  pub run_over : (ps : List P) (xs : List X) → xs ≡ [] → run_of (takes many one) ps xs ≡ (ps, xs)
  unfolding run_of
  run_over [] xs e = refl
  run_over (p ∷ ps) xs e = rw e refl

  pub run_stops : (p : P) (x : X) (ps qs : List P) (xs ys : List X) → ps ≡ p ∷ qs → xs ≡ x ∷ ys → takes many one p x ≡ false → run_of (takes many one) ps xs ≡ (ps, xs)
  run_stops p x ps qs xs ys e f stop = rw (e, f) (run_stop p qs x ys stop)

  pub run_goes : (p : P) (x : X) (ps qs : List P) (xs ys : List X) → ps ≡ p ∷ qs → xs ≡ x ∷ ys → takes many one p x ≡ true → run_of (takes many one) ps xs ≡ run_of (takes many one) qs ys
  run_goes p x ps qs xs ys e f go = rw (e, f) (run_step p qs x ys go)

  -- what the search for a place keeps true
  pub found : (ps : List P) (all xs : List X) (r : List P × List X) → any_rest (fits many one ps) all ≡ any_rest (fits many one ps) xs → run_of (takes many one) ps xs ≡ r → landed many r.0 r.1 ≡ true → any_rest (fits many one ps) all ≡ fits many one r.0 r.1
  found ps all xs r so_far e on = so_far ∙ landed_fits ps xs r e on

  not_here : (ps : List P) (xs : List X) (r : List P × List X) → run_of (takes many one) ps xs ≡ r → landed many r.0 r.1 ≡ false → fits many one ps xs ≡ false
  not_here ps xs r e off = run_fits ps xs r e ∙ stuck_fits r.0 r.1 (run_stuck ps xs r e) off

  pub nowhere : (ps : List P) (all xs : List X) (r : List P × List X) → any_rest (fits many one ps) all ≡ any_rest (fits many one ps) xs → run_of (takes many one) ps xs ≡ r → landed many r.0 r.1 ≡ false → xs ≡ [] → any_rest (fits many one ps) all ≡ false
  nowhere ps all xs r so_far e off end = so_far ∙ ap (any_rest (fits many one ps)) end ∙ any_rest_nil (fits many one ps) ∙ ap (fits many one ps) (sym end) ∙ not_here ps xs r e off

  pub later : (x : X) (ps : List P) (all xs ys : List X) (r : List P × List X) → any_rest (fits many one ps) all ≡ any_rest (fits many one ps) xs → run_of (takes many one) ps xs ≡ r → landed many r.0 r.1 ≡ false → xs ≡ x ∷ ys → any_rest (fits many one ps) all ≡ any_rest (fits many one ps) ys
  later x ps all xs ys r so_far e off split =
      so_far ∙ ap (any_rest (fits many one ps)) split ∙ any_rest_skip (fits many one ps) x ys (ap (fits many one ps) (sym split) ∙ not_here ps xs r e off)

  -- an end that is not reached, or a character that goes no further
  pub ended : (ps : List P) (xs : List X) → ps ≡ [] → fits many one ps xs ≡ is_nil xs
  unfolding fits
  ended ps xs e = rw e refl

  pub halted : (p : P) (ps qs : List P) (xs : List X) → ps ≡ p ∷ qs → many p ≡ false → IsStuck (takes many one) ps xs → fits many one ps xs ≡ false
  halted p ps qs xs e plain stuck =
      ap (λ (l : List P). fits many one l xs) e ∙ stuck_fits (p ∷ qs) xs (subst (λ (l : List P). IsStuck (takes many one) l xs) e stuck) plain

  pub starred : (p : P) (ps qs : List P) (xs : List X) → ps ≡ p ∷ qs → many p ≡ true → fits many one ps xs ≡ any_rest (fits many one qs) xs
  starred p ps qs xs e star = ap (λ (l : List P). fits many one l xs) e ∙ fits-many p qs xs star
