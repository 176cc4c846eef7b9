-- Refusals of changes.
use Rattle.std.proofs.Common.{◌≡◌, ◌≢◌, Bool, true, false, cond, Option, Some, None, Ok, Err, refl, sym, subst, ap}
use Rattle.std.specs.Prelude.{not, Result, IsErr}
use Rattle.std.specs.Result.{IsErrAnd}
use Rattle.arti_rows.specs.declared.refusal.Refusal.{Refusal}
use Rattle.arti_rows.specs.declared.refusal.Refusal.TheVariants.{Memory}
use Rattle.arti_model.specs.Apply.{refused_if}
use Rattle.arti_catalog.specs.declared.fault.ApplyFault.{ApplyFault}
use Rattle.arti_catalog.specs.declared.fault.ApplyFault.TheVariants as fault
use Rattle.arti_catalog.specs.declared.fault.ApplyFault.TheVariants.{Refused}
use Rattle.arti_catalog.specs.Judged.{Judges, Applies, is_memory, fault_of}

pub is_true : (b : Bool) → not b ≡ false → b ≡ true
is_true true e = refl
is_true false e = cc

-- a refusal that is told as a fault
pub applied : (e : Refusal) (why : Option Refusal) → (e ≢ Memory → why ≡ Some e) → Applies (Err (fault_of e)) why
applied e why told = by (is_memory e) refl
  where
    by : (b : Bool) → is_memory e ≡ b → Applies (Err (cond b fault.Memory (Refused e))) why
    by true is = tt
    by false is = told (λ same. let yes : is_memory e ≡ true = ap is_memory same in cc (yes, is))

pub told_by : (result : Result (Unit {0}) ApplyFault) (e : Refusal) (why : Option Refusal) → IsErr result × IsErrAnd result (λ f. f ≡ fault_of e) → (e ≢ Memory → why ≡ Some e) → Applies result why
told_by (Ok done) e why both told = cc
told_by (Err f) e why both told = let P : ApplyFault → Type 0 = λ f. Applies (Err f) why in subst P (sym both.1) (applied e why told)

-- a refusal that is passed on
pub passed : (result : Result (Unit {0}) Refusal) (e : Refusal) (why next : Option Refusal) → IsErr result × IsErrAnd result (λ f. f ≡ e) → Judges (Err e) why → (why ≡ Some e → next ≡ Some e) → Judges result next
passed (Ok done) e why next both told more = cc
passed (Err f) e why next both told more = let P : Refusal → Type 0 = λ f. Judges (Err f) next in subst P (sym both.1) (λ other. more (told other))

-- the first of three refusals is that of four
pub later : (a b c : Bool) (x y z e : Refusal) (next : Option Refusal) → refused_if a x (refused_if b y (refused_if c z None)) ≡ Some e → refused_if a x (refused_if b y (refused_if c z next)) ≡ Some e
later true b c x y z e next is = is
later false true c x y z e next is = is
later false false true x y z e next is = is
later false false false x y z e next is = cc
