-- Reading from the front: a value and the bytes behind it, or nothing.
use Rattle.std.specs.Prelude.{◌≡◌, ℕ, zero, suc, List, [], ◌∷◌, length, take, drop, Bool, true, false, Option, Some, None, Result, Ok, Err, nat_lt, nat_le, ◌==◌, if◌then◌else◌}
use Rattle.std.specs.Int.{Width, byte_len, from_be_bytes}
use Rattle.std.specs.Option.{option_and_then}
use Rattle.arti_codec.specs.declared.fault.DecodeFault.{DecodeFault}
use Rattle.arti_codec.specs.declared.fault.DecodeFault.TheVariants.{NotAChange, Memory}

-- what a function answered, seen so, is what reading gives, unless memory ran out
abbrev pub GivesSeen : {A B : Type 0} → (A → B) → Result A DecodeFault → Option (B × List ℕ) → List ℕ → Type 0
GivesSeen seen (Ok x) read rest = read ≡ Some (seen x, rest)
GivesSeen seen (Err NotAChange) read rest = read ≡ None
GivesSeen seen (Err Memory) read rest = Unit {0}

abbrev pub Gives : {A : Type 0} → Result A DecodeFault → Option (A × List ℕ) → List ℕ → Type 0
Gives result read rest = GivesSeen (λ x. x) result read rest

-- it is that value where the value passes the test, and a fault otherwise
abbrev pub Passes : {A : Type 0} → Result A DecodeFault → (A → Bool) → A → Type 0
Passes (Ok x) test y = (test y ≡ true) × (x ≡ y)
Passes (Err NotAChange) test y = test y ≡ false
Passes (Err Memory) test y = Unit {0}

infixl 10 ◌>>=◌
abbrev pub ◌>>=◌ : {A B : Type 0} → Option A → (A → Option B) → Option B
o >>= f = option_and_then f o

-- a pair: one behind the other
infixr 20 ◌▷◌
abbrev pub ◌▷◌ : {A B : Type 0} → (List ℕ → Option (A × List ℕ)) → (List ℕ → Option (B × List ℕ)) → List ℕ → Option ((A × B) × List ℕ)
(first ▷ second) bytes = first bytes >>= λ x. second x.1 >>= λ y. Some ((x.0, y.0), y.1)

-- a value of its parts
abbrev pub made : {A B : Type 0} → (A → B) → (List ℕ → Option (A × List ℕ)) → List ℕ → Option (B × List ℕ)
made make read bytes = read bytes >>= λ x. Some (make x.0, x.1)

-- a value that passes a test
abbrev pub tested : {A : Type 0} → (A → Bool) → (List ℕ → Option (A × List ℕ)) → List ℕ → Option (A × List ℕ)
tested test read bytes = read bytes >>= λ x. if test x.0 then Some x else None

-- what is read first says how to read on
abbrev pub told_by : {A B : Type 0} → (List ℕ → Option (A × List ℕ)) → (A → List ℕ → Option (B × List ℕ)) → List ℕ → Option (B × List ℕ)
told_by first on bytes = first bytes >>= λ x. on x.0 x.1

unfoldable pub run_at : ℕ → List ℕ → Option (List ℕ × List ℕ)
run_at n bytes = if nat_lt (length bytes) n then None else Some (take n bytes, drop n bytes)

abbrev pub byte_at : List ℕ → Option (ℕ × List ℕ)
byte_at [] = None
byte_at (b ∷ bytes) = Some (b, bytes)

unfoldable pub flag_at : List ℕ → Option (Bool × List ℕ)
flag_at = made (λ b. b == 1) (tested (λ b. nat_lt b 2) byte_at)

unfoldable pub number_at : Width → List ℕ → Option (ℕ × List ℕ)
number_at w = made (from_be_bytes w) (run_at (byte_len w))

unfoldable pub times_at : {A : Type 0} → (List ℕ → Option (A × List ℕ)) → ℕ → List ℕ → Option (List A × List ℕ)
times_at read zero bytes = Some ([], bytes)
times_at read (suc n) bytes = read bytes >>= λ x. times_at read n x.1 >>= λ xs. Some (x.0 ∷ xs.0, xs.1)

abbrev pub listed_at : {A : Type 0} → Width → (List ℕ → Option (A × List ℕ)) → List ℕ → Option (List A × List ℕ)
listed_at w read = told_by (number_at w) (times_at read)

abbrev pub limited_at : {A : Type 0} → Width → ℕ → (List ℕ → Option (A × List ℕ)) → List ℕ → Option (List A × List ℕ)
limited_at w most read = told_by (tested (λ n. nat_le n most) (number_at w)) (times_at read)

abbrev pub optional_at : {A : Type 0} → Bool → (List ℕ → Option (A × List ℕ)) → List ℕ → Option (Option A × List ℕ)
optional_at there read bytes = if there then made (λ x. Some x) read bytes else Some (None, bytes)
