-- Lists that are read one value after the other.
use Rattle.std.proofs.Common.{◌≡◌, ℕ, suc, ◌+◌, ◌-◌, ◌<◌, ◌≤◌, List, [], ◌∷◌, ◌++◌, Option, Some, None, Err, refl, sym, ap, ◌∙◌, append_assoc, arith}
use Rattle.std.proofs.lemmas.List.{append-nil}
use Rattle.arti_codec.specs.declared.fault.DecodeFault.{DecodeFault}
use Rattle.arti_codec.specs.declared.fault.DecodeFault.TheVariants.{NotAChange, Memory}
use Rattle.arti_codec.specs.Reading.{◌>>=◌, Gives, times_at}

-- what was read before goes in front
abbrev pub with_front : {A : Type 0} → List A → Option (List A × List ℕ) → Option (List A × List ℕ)
with_front front read = read >>= λ x. Some (front ++ x.0, x.1)

regroup : {A : Type 0} (front : List A) (x : A) (r : Option (List A × List ℕ)) → with_front front (r >>= λ xs. Some (x ∷ xs.0, xs.1)) ≡ with_front (front ++ x ∷ []) r
regroup front x None = refl
regroup front x (Some xs) = ap (λ (l : List _). Some (l, xs.1)) (sym (append_assoc front (x ∷ []) xs.0))

pub goes_on : {A : Type 0} (read : List ℕ → Option (A × List ℕ)) (front : List A) (count i : ℕ) (bytes after : List ℕ) (x : A) (total : Option (List A × List ℕ)) → i < count → read bytes ≡ Some (x, after)
    → with_front front (times_at read (count - i) bytes) ≡ total → with_front (front ++ x ∷ []) (times_at read (count - (i + 1)) after) ≡ total
unfolding times_at
goes_on read front count i bytes after x total lt h so_far =
    let k : count - i ≡ suc (count - (i + 1)) = omega arith in
    let one : with_front front (times_at read (count - i) bytes) ≡ with_front (front ++ x ∷ []) (times_at read (count - (i + 1)) after) = rw (k, h) (regroup front x (times_at read (count - (i + 1)) after)) in
    sym one ∙ so_far

pub ends : {A : Type 0} (read : List ℕ → Option (A × List ℕ)) (front : List A) (count i : ℕ) (bytes : List ℕ) (total : Option (List A × List ℕ)) → i < count → read bytes ≡ None
    → with_front front (times_at read (count - i) bytes) ≡ total → total ≡ None
unfolding times_at
ends read front count i bytes total lt h so_far =
    let k : count - i ≡ suc (count - (i + 1)) = omega arith in
    let one : with_front front (times_at read (count - i) bytes) ≡ None = rw (k, h) refl in
    sym so_far ∙ one

pub is_done : {A : Type 0} (read : List ℕ → Option (A × List ℕ)) (front : List A) (count i : ℕ) (bytes : List ℕ) (total : Option (List A × List ℕ)) → count ≤ i
    → with_front front (times_at read (count - i) bytes) ≡ total → total ≡ Some (front, bytes)
unfolding times_at
is_done read front count i bytes total le so_far =
    let k : count - i ≡ 0 = omega arith in
    let one : with_front front (times_at read (count - i) bytes) ≡ Some (front, bytes) = rw k (ap (λ (l : List _). Some (l, bytes)) (append-nil front)) in
    sym so_far ∙ one

pub begins : {A : Type 0} (read : Option (List A × List ℕ)) → with_front [] read ≡ read
begins None = refl
begins (Some x) = refl

-- the fault of one is the fault of the list
pub stops : {A : Type 0} (read : List ℕ → Option (A × List ℕ)) (front : List A) (count i : ℕ) (bytes after : List ℕ) (total : Option (List A × List ℕ)) (e : DecodeFault) → i < count
    → Gives {A = A} (Err e) (read bytes) after → with_front front (times_at read (count - i) bytes) ≡ total → Gives {A = List A} (Err e) total after
stops read front count i bytes after total NotAChange lt h so_far = ends read front count i bytes total lt h so_far
stops read front count i bytes after total Memory lt h so_far = tt
