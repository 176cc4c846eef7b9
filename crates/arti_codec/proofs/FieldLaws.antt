-- What is read is spelled so, and what is spelled so is read.
use Rattle.std.proofs.Common.{◌≡◌, ℕ, zero, suc, ◌+◌, ◌^◌, ◌<◌, ◌≤◌, Bool, true, false, cond, ltb, List, [], ◌∷◌, ◌++◌, length, take, drop, All, Option, Some, None, refl, sym, ap, subst, ◌∙◌, append_assoc, arith, inl, inr, nat_lt, nat_le}
use Rattle.std.specs.List.{flat_map}
use Rattle.std.specs.Int.{Width, w16, w32, w64, byte_len, from_be_bytes, to_be_bytes}
use Rattle.std.proofs.lemmas.Bool.{cases_lt, ltb-false, ltb-true, lt-ltb, le-ltb, leb-true, le-leb, false≢true}
use Rattle.std.proofs.lemmas.Option.{option_and_then_some, same_Some, cond_some}
use Rattle.std.proofs.lemmas.List.{take_at, drop_at, take-append-drop, length-append, length-take, get_or-drop, get_or-take, get_or_past}
use Rattle.std.proofs.lemmas.List.Elements.{All-head, All-tail, All-cons, All-nil}
use Rattle.std.proofs.lemmas.Nat.{be_bytes_2, be_bytes_4, be_bytes_8, from_be_bytes-to_be_bytes_2, from_be_bytes-to_be_bytes_4, from_be_bytes-to_be_bytes_8}
use Rattle.arti_codec.specs.Format.{Format, ◌⨟◌, of_parts, where_holds, behind, number, IsBytes, run, times, listed, limited, optional}
use Rattle.arti_codec.specs.Reading.{◌>>=◌, ◌▷◌, made, tested, told_by, run_at, byte_at, number_at, times_at, listed_at, limited_at, optional_at}

-- the value stood at the front of the bytes
abbrev pub Took : {A : Type 0} → Format A → List ℕ → A → List ℕ → Type 0
Took f bytes x rest = f.keeps x × (bytes ≡ f.spell x ++ rest) × IsBytes rest

pub record IsRead {A : Type 0} (f : Format A) (read : List ℕ → Option (A × List ℕ)) : Type 0 where
  pub takes : (bytes : List ℕ) (x : A) (rest : List ℕ) → IsBytes bytes → read bytes ≡ Some (x, rest) → Took f bytes x rest
  pub again : (x : A) (rest : List ℕ) → f.keeps x → read (f.spell x ++ rest) ≡ Some (x, rest)

pub pair_law : {A B : Type 0} {f : Format A} {g : Format B} {r : List ℕ → Option (A × List ℕ)} {s : List ℕ → Option (B × List ℕ)} → IsRead f r → IsRead g s → IsRead (f ⨟ g) (r ▷ s)
pair_law {A = A} {B = B} {f = f} {g = g} {r = r} {s = s} p q = record {
  takes = λ bytes x rest fits e.
      option_and_then_some (λ a. s a.1 >>= λ b. Some ((a.0, b.0), b.1)) (r bytes) (x, rest) e
      (λ a read-a on. option_and_then_some (λ b. Some ((a.0, b.0), b.1)) (s a.1) (x, rest) on
      (λ b read-b last.
      let t = p.takes bytes a.0 a.1 fits read-a in
      let u = q.takes a.1 b.0 b.1 t.2 read-b in
      let parts : bytes ≡ (f.spell a.0 ++ g.spell b.0) ++ b.1 = t.1 ∙ ap (λ (w : List ℕ). f.spell a.0 ++ w) u.1 ∙ sym (append_assoc (f.spell a.0) (g.spell b.0) b.1) in
      subst (λ (y : (A × B) × List ℕ). Took (f ⨟ g) bytes y.0 y.1) (same_Some ((a.0, b.0), b.1) (x, rest) last) ((t.0, u.0), parts, u.2)));
  again = λ x rest fits.
      let first = p.again x.0 (g.spell x.1 ++ rest) fits.0 in
      let second = q.again x.1 rest fits.1 in
      ap (r ▷ s) (append_assoc (f.spell x.0) (g.spell x.1) rest) ∙ rw (first, second) refl;
}

pub parts_law : {A B : Type 0} {f : Format A} {r : List ℕ → Option (A × List ℕ)} (parts : B → A) (make : A → B) → ((a : A) → parts (make a) ≡ a) → ((b : B) → make (parts b) ≡ b) → IsRead f r → IsRead (of_parts parts f) (made make r)
parts_law {A = A} {B = B} {f = f} {r = r} parts make there back p = record {
  takes = λ bytes x rest fits e.
      option_and_then_some (λ a. Some (make a.0, a.1)) (r bytes) (x, rest) e
      (λ a read-a last.
      let t = p.takes bytes a.0 a.1 fits read-a in
      let u : Took f bytes (parts (make a.0)) a.1 = subst (λ (v : A). Took f bytes v a.1) (sym (there a.0)) t in
      subst (λ (y : B × List ℕ). Took (of_parts parts f) bytes y.0 y.1) (same_Some (make a.0, a.1) (x, rest) last) u);
  again = λ x rest fits. rw (p.again (parts x) rest fits) (ap (λ (y : B). Some (y, rest)) (back x));
}

pub where_law : {A : Type 0} {f : Format A} {r : List ℕ → Option (A × List ℕ)} (P : A → Type 0) (test : A → Bool) → ((x : A) → test x ≡ true → P x) → ((x : A) → P x → test x ≡ true) → IsRead f r → IsRead (where_holds P f) (tested test r)
where_law {A = A} {f = f} {r = r} P test holds passes p = record {
  takes = λ bytes x rest fits e.
      option_and_then_some (λ a. cond (test a.0) (Some a) None) (r bytes) (x, rest) e
      (λ a read-a last.
      let c = cond_some (test a.0) a (x, rest) last in
      let t = p.takes bytes a.0 a.1 fits read-a in
      subst (λ (y : A × List ℕ). Took (where_holds P f) bytes y.0 y.1) c.1 ((t.0, holds a.0 c.0), t.1, t.2));
  again = λ x rest fits. rw (p.again x rest fits.0, passes x fits.1) refl;
}

pub behind_law : {A B : Type 0} {first : Format A} {r : List ℕ → Option (A × List ℕ)} (part : B → A) (whole : A → Format B) (on : A → List ℕ → Option (B × List ℕ)) → ((a : A) (b : B) → (whole a).keeps b → part b ≡ a) → IsRead first r → ((a : A) → IsRead (whole a) (on a)) → IsRead (behind first part whole) (told_by r on)
behind_law {A = A} {B = B} {first = first} {r = r} part whole on tells p q = record {
  takes = λ bytes x rest fits e.
      option_and_then_some (λ a. on a.0 a.1) (r bytes) (x, rest) e
      (λ a read-a last.
      let t = p.takes bytes a.0 a.1 fits read-a in
      let u = (q a.0).takes a.1 x rest t.2 last in
      let parts : bytes ≡ (first.spell a.0 ++ (whole a.0).spell x) ++ rest = t.1 ∙ ap (λ (w : List ℕ). first.spell a.0 ++ w) u.1 ∙ sym (append_assoc (first.spell a.0) ((whole a.0).spell x) rest) in
      subst (λ (k : A). (first.keeps k × (whole k).keeps x) × (bytes ≡ (first.spell k ++ (whole k).spell x) ++ rest) × IsBytes rest) (sym (tells a.0 x u.0)) ((t.0, u.0), parts, u.2));
  again = λ x rest fits.
      let one = p.again (part x) ((whole (part x)).spell x ++ rest) fits.0 in
      let two = (q (part x)).again x rest fits.1 in
      ap (told_by r on) (append_assoc (first.spell (part x)) ((whole (part x)).spell x) rest) ∙ rw (one, two) refl;
}

-- ---- bytes and numbers

IsBytes-drop : (n : ℕ) (bytes : List ℕ) → IsBytes bytes → IsBytes (drop n bytes)
IsBytes-drop n bytes h i = rw get_or-drop (h (n + i))

IsBytes-take : (n : ℕ) (bytes : List ℕ) → IsBytes bytes → IsBytes (take n bytes)
IsBytes-take n bytes h i =
    elim (cases_lt i n) [
      | inl lt ↦ rw (get_or-take n bytes i 0 lt) (h i)
      | inr le ↦ rw (get_or_past (take n bytes) i 0 (omega (arith, length-take n bytes))) (omega arith)
    ]

cond_none : {A : Type 0} (b : Bool) (x y : A) → cond b None (Some x) ≡ Some y → (b ≡ false) × (x ≡ y)
cond_none true x y e = absurd cc
cond_none false x y e = (refl, same_Some x y e)

pub run_law : (n : ℕ) → IsRead (run n) (run_at n)
unfolding run_at
run_law n = record {
  takes = λ bytes x rest fits e.
      let g = cond_none (ltb (length bytes) n) (take n bytes, drop n bytes) (x, rest) e in
      let long : n ≤ length bytes = ltb-false _ _ g.0 in
      let len : length (take n bytes) ≡ n = omega (arith, length-take n bytes) in
      subst (λ (y : List ℕ × List ℕ). Took (run n) bytes y.0 y.1) g.1 ((len, IsBytes-take n bytes fits), sym (take-append-drop n bytes), IsBytes-drop n bytes fits);
  again = λ x rest fits.
      let long : ltb (length (x ++ rest)) n ≡ false = le-ltb _ _ (omega (arith, length-append x rest, fits.0)) in
      rw (long, take_at x rest n fits.0, drop_at x rest n fits.0) refl;
}

pub record IsWide (w : Width) : Type 0 where
  pub len : (n : ℕ) → length (to_be_bytes w n) ≡ byte_len w
  pub bytes : (n : ℕ) → IsBytes (to_be_bytes w n)
  pub back : (bytes : List ℕ) → length bytes ≡ byte_len w → IsBytes bytes → to_be_bytes w (from_be_bytes w bytes) ≡ bytes
  pub again : (n : ℕ) → n < 256 ^ byte_len w → from_be_bytes w (to_be_bytes w n) ≡ n
  pub below : (bytes : List ℕ) → IsBytes bytes → from_be_bytes w bytes < 256 ^ byte_len w

bytes_2 : (n : ℕ) → IsBytes (to_be_bytes w16 n)
bytes_2 n zero = omega arith
bytes_2 n (suc zero) = omega arith
bytes_2 n (suc (suc i)) = omega arith

bytes_4 : (n : ℕ) → IsBytes (to_be_bytes w32 n)
bytes_4 n zero = omega arith
bytes_4 n (suc zero) = omega arith
bytes_4 n (suc (suc zero)) = omega arith
bytes_4 n (suc (suc (suc zero))) = omega arith
bytes_4 n (suc (suc (suc (suc i)))) = omega arith

bytes_8 : (n : ℕ) → IsBytes (to_be_bytes w64 n)
bytes_8 n zero = omega arith
bytes_8 n (suc zero) = omega arith
bytes_8 n (suc (suc zero)) = omega arith
bytes_8 n (suc (suc (suc zero))) = omega arith
bytes_8 n (suc (suc (suc (suc zero)))) = omega arith
bytes_8 n (suc (suc (suc (suc (suc zero))))) = omega arith
bytes_8 n (suc (suc (suc (suc (suc (suc zero)))))) = omega arith
bytes_8 n (suc (suc (suc (suc (suc (suc (suc zero))))))) = omega arith
bytes_8 n (suc (suc (suc (suc (suc (suc (suc (suc i)))))))) = omega arith

pub wide_16 : IsWide w16
wide_16 = record {
  len = λ n. refl;
  bytes = bytes_2;
  back = λ bytes len fits. be_bytes_2 bytes _ len fits refl;
  again = λ n lt. from_be_bytes-to_be_bytes_2 n lt;
  below = λ bytes fits. omega (arith, fits 0, fits 1);
}

pub wide_32 : IsWide w32
wide_32 = record {
  len = λ n. refl;
  bytes = bytes_4;
  back = λ bytes len fits. be_bytes_4 bytes _ len fits refl;
  again = λ n lt. from_be_bytes-to_be_bytes_4 n lt;
  below = λ bytes fits. omega (arith, fits 0, fits 1, fits 2, fits 3);
}

pub wide_64 : IsWide w64
wide_64 = record {
  len = λ n. refl;
  bytes = bytes_8;
  back = λ bytes len fits. be_bytes_8 bytes _ len fits refl;
  again = λ n lt. from_be_bytes-to_be_bytes_8 n lt;
  below = λ bytes fits. omega (arith, fits 0, fits 1, fits 2, fits 3, fits 4, fits 5, fits 6, fits 7);
}

-- a number is a run of bytes
number_parts : (w : Width) → IsWide w → IsRead (number w) (made (from_be_bytes w) (run_at (byte_len w)))
unfolding number
number_parts w wide = record {
  takes = λ bytes x rest fits e.
      option_and_then_some (λ a. Some (from_be_bytes w a.0, a.1)) (run_at (byte_len w) bytes) (x, rest) e
      (λ a read-a last.
      let t = (run_law (byte_len w)).takes bytes a.0 a.1 fits read-a in
      let parts : bytes ≡ to_be_bytes w (from_be_bytes w a.0) ++ a.1 = t.1 ∙ ap (λ (v : List ℕ). v ++ a.1) (sym (wide.back a.0 t.0.0 t.0.1)) in
      subst (λ (y : ℕ × List ℕ). Took (number w) bytes y.0 y.1) (same_Some (from_be_bytes w a.0, a.1) (x, rest) last) (wide.below a.0 t.0.1, parts, t.2));
  again = λ x rest fits.
      let one = (run_law (byte_len w)).again (to_be_bytes w x) rest (wide.len x, wide.bytes x) in
      rw one (ap (λ (n : ℕ). Some (n, rest)) (wide.again x fits));
}

pub number_law : (w : Width) → IsWide w → IsRead (number w) (number_at w)
unfolding number_at
number_law w wide = number_parts w wide

code_takes : {A : Type 0} (k : ℕ) (code : A → ℕ) (of : ℕ → A) → ((n : ℕ) → n < k → code (of n) ≡ n) → (bytes : List ℕ) (x : A) (rest : List ℕ) → IsBytes bytes → made of (tested (λ b. nat_lt b k) byte_at) bytes ≡ Some (x, rest) → (bytes ≡ code x ∷ rest) × IsBytes rest
code_takes k code of there [] x rest fits e = absurd cc
code_takes {A} k code of there (b ∷ bytes) x rest fits e =
    option_and_then_some (λ a. Some (of a.0, a.1)) (cond (ltb b k) (Some (b, bytes)) None) (x, rest) e
    (λ a chosen last.
    let c = cond_some (ltb b k) (b, bytes) a chosen in
    let small : b < k = ltb-true b k c.0 in
    let here : Some (of b, bytes) ≡ Some (x, rest) = ap (λ (y : ℕ × List ℕ). Some (of y.0, y.1)) c.1 ∙ last in
    let whole : (b ∷ bytes ≡ code (of b) ∷ bytes) × IsBytes bytes = (ap (λ (n : ℕ). n ∷ bytes) (sym (there b small)), λ i. fits (suc i)) in
    subst (λ (y : A × List ℕ). (b ∷ bytes ≡ code y.0 ∷ y.1) × IsBytes y.1) (same_Some (of b, bytes) (x, rest) here) whole)

-- a byte that stands for one of k values
pub code_law : {A : Type 0} (k : ℕ) (code : A → ℕ) (of : ℕ → A) → ((x : A) → code x < k) → ((x : A) → of (code x) ≡ x) → ((n : ℕ) → n < k → code (of n) ≡ n) → IsRead (record { keeps = λ x. Unit {0}; spell = λ x. code x ∷ [] }) (made of (tested (λ b. nat_lt b k) byte_at))
code_law {A = A} k code of below back there = record {
  takes = λ bytes x rest fits e. let t = code_takes k code of there bytes x rest fits e in (tt, t.0, t.1);
  again = λ x rest fits. let e : ltb (code x) k ≡ true = lt-ltb _ _ (below x) in rw e (ap (λ (y : A). Some (y, rest)) (back x));
}

-- ---- values that may be there, and lists

optional_again : {A : Type 0} (f : Format A) (r : List ℕ → Option (A × List ℕ)) (p : IsRead f r) (there : Bool) (x : Option A) (rest : List ℕ) → (optional there f).keeps x → optional_at there r ((optional there f).spell x ++ rest) ≡ Some (x, rest)
optional_again f r p true None rest fits = absurd (false≢true (sym fits))
optional_again f r p true (Some x) rest fits = rw (p.again x rest fits.1) refl
optional_again f r p false None rest fits = refl
optional_again f r p false (Some x) rest fits = absurd (false≢true fits.0)

pub optional_law : {A : Type 0} {f : Format A} {r : List ℕ → Option (A × List ℕ)} (there : Bool) → IsRead f r → IsRead (optional there f) (optional_at there r)
optional_law {A = A} {f = f} {r = r} true p = record {
  takes = λ bytes x rest fits e.
      option_and_then_some (λ a. Some (Some a.0, a.1)) (r bytes) (x, rest) e
      (λ a read-a last.
      let t = p.takes bytes a.0 a.1 fits read-a in
      subst (λ (y : Option A × List ℕ). Took (optional true f) bytes y.0 y.1) (same_Some (Some a.0, a.1) (x, rest) last) ((refl, t.0), t.1, t.2));
  again = λ x rest fits. optional_again f r p true x rest fits;
}
optional_law {A = A} {f = f} {r = r} false p = record {
  takes = λ bytes x rest fits e. subst (λ (y : Option A × List ℕ). Took (optional false f) bytes y.0 y.1) (same_Some (None, bytes) (x, rest) e) (refl, refl, fits);
  again = λ x rest fits. optional_again f r p false x rest fits;
}

times_take : {A : Type 0} (f : Format A) (r : List ℕ → Option (A × List ℕ)) (p : IsRead f r) (n : ℕ) (bytes : List ℕ) (xs : List A) (rest : List ℕ) → IsBytes bytes → times_at r n bytes ≡ Some (xs, rest) → Took (times f n) bytes xs rest
unfolding times_at
times_take {A} f r p zero bytes xs rest fits e =
    subst (λ (y : List A × List ℕ). Took (times f 0) bytes y.0 y.1) (same_Some ([], bytes) (xs, rest) e) ((refl, All-nil f.keeps), refl, fits)
times_take {A} f r p (suc n) bytes xs rest fits e =
    option_and_then_some (λ x. times_at r n x.1 >>= λ xs. Some (x.0 ∷ xs.0, xs.1)) (r bytes) (xs, rest) e
    (λ a read-a on. option_and_then_some (λ xs. Some (a.0 ∷ xs.0, xs.1)) (times_at r n a.1) (xs, rest) on
    (λ b read-b last.
    let t = p.takes bytes a.0 a.1 fits read-a in
    let u = times_take f r p n a.1 b.0 b.1 t.2 read-b in
    let parts : bytes ≡ (f.spell a.0 ++ flat_map f.spell b.0) ++ b.1 = t.1 ∙ ap (λ (w : List ℕ). f.spell a.0 ++ w) u.1 ∙ sym (append_assoc (f.spell a.0) (flat_map f.spell b.0) b.1) in
    subst (λ (y : List A × List ℕ). Took (times f (suc n)) bytes y.0 y.1) (same_Some (a.0 ∷ b.0, b.1) (xs, rest) last) ((ap suc u.0.0, All-cons f.keeps a.0 b.0 t.0 u.0.1), parts, u.2)))

times_again : {A : Type 0} (f : Format A) (r : List ℕ → Option (A × List ℕ)) (p : IsRead f r) (xs : List A) (rest : List ℕ) → All f.keeps xs → times_at r (length xs) (flat_map f.spell xs ++ rest) ≡ Some (xs, rest)
unfolding times_at
times_again f r p [] rest fits = refl
times_again f r p (x ∷ xs) rest fits =
    let one = p.again x (flat_map f.spell xs ++ rest) (All-head f.keeps x xs fits) in
    let two = times_again f r p xs rest (All-tail f.keeps x xs fits) in
    ap (times_at r (suc (length xs))) (append_assoc (f.spell x) (flat_map f.spell xs) rest) ∙ rw (one, two) refl

pub times_law : {A : Type 0} {f : Format A} {r : List ℕ → Option (A × List ℕ)} → IsRead f r → (n : ℕ) → IsRead (times f n) (times_at r n)
times_law {f = f} {r = r} p n = record {
  takes = λ bytes xs rest fits e. times_take f r p n bytes xs rest fits e;
  again = λ xs rest fits. subst (λ (k : ℕ). times_at r k (flat_map f.spell xs ++ rest) ≡ Some (xs, rest)) fits.0 (times_again f r p xs rest fits.1);
}

pub listed_law : {A : Type 0} {f : Format A} {r : List ℕ → Option (A × List ℕ)} (w : Width) → IsWide w → IsRead f r → IsRead (listed w f) (listed_at w r)
listed_law {f = f} {r = r} w wide p = behind_law length (times f) (times_at r) (λ n xs fits. fits.0) (number_law w wide) (times_law p)

at_most : (most n : ℕ) → nat_le n most ≡ true → n ≤ most
at_most most n e = leb-true n most e

at_most_test : (most n : ℕ) → n ≤ most → nat_le n most ≡ true
at_most_test most n le = le-leb n most le

pub most_law : {r : List ℕ → Option (ℕ × List ℕ)} {f : Format ℕ} (most : ℕ) → IsRead f r → IsRead (where_holds (λ n. n ≤ most) f) (tested (λ n. nat_le n most) r)
most_law most p = where_law (λ n. n ≤ most) (λ n. nat_le n most) (at_most most) (at_most_test most) p

pub limited_law : {A : Type 0} {f : Format A} {r : List ℕ → Option (A × List ℕ)} (w : Width) (most : ℕ) → IsWide w → IsRead f r → IsRead (limited w most f) (limited_at w most r)
limited_law {f = f} {r = r} w most wide p = behind_law length (times f) (times_at r) (λ n xs fits. fits.0) (most_law most (number_law w wide)) (times_law p)
