-- Steps that may refuse, one after another, and lists that are read so.
use Rattle.std.proofs.Common.{◌≡◌, List, [], ◌∷◌, ◌++◌, refl, sym, ap, ◌∙◌, append_assoc, append-nil}
use Rattle.std.specs.Prelude.{Result, Ok, Err}
use Rattle.arti_rows.specs.declared.refusal.Refusal.{Refusal}
use Rattle.arti_model.specs.Targets.{bind, each}

-- ---- bind

pub bind-ok : {X Y : Type 0} (r : Result X Refusal) (next : X → Result Y Refusal) (x : X) (w : Result Y Refusal) → r ≡ Ok x → next x ≡ w → bind r next ≡ w
bind-ok r next x w is then = ap (λ q. bind q next) is ∙ then

pub bind-err : {X Y : Type 0} (r : Result X Refusal) (next : X → Result Y Refusal) (why : Refusal) → r ≡ Err why → bind r next ≡ Err why
bind-err r next why is = ap (λ q. bind q next) is

-- ---- each

-- what was read, and what is left, make the answer
abbrev pub with_read : {X Y : Type 0} → (X → Result Y Refusal) → List Y → List X → Result (List Y) Refusal
with_read read done left = bind (each read left) (λ others. Ok (done ++ others))

regroup : {Y : Type 0} (done : List Y) (y : Y) (r : Result (List Y) Refusal)
    → bind (bind r (λ others. Ok (y ∷ others))) (λ others. Ok (done ++ others)) ≡ bind r (λ others. Ok ((done ++ y ∷ []) ++ others))
regroup done y (Ok others) = ap Ok (sym (append_assoc done (y ∷ []) others))
regroup done y (Err why) = refl

pub with_read-cons : {X Y : Type 0} (read : X → Result Y Refusal) (done : List Y) (x : X) (y : Y) (left : List X)
    → read x ≡ Ok y → with_read read done (x ∷ left) ≡ with_read read (done ++ y ∷ []) left
with_read-cons read done x y left is =
    ap (λ r. bind (bind r (λ first. bind (each read left) (λ others. Ok (first ∷ others)))) (λ others. Ok (done ++ others))) is
    ∙ regroup done y (each read left)

pub with_read-err : {X Y : Type 0} (read : X → Result Y Refusal) (done : List Y) (x : X) (why : Refusal) (left : List X)
    → read x ≡ Err why → with_read read done (x ∷ left) ≡ Err why
with_read-err read done x why left is =
    ap (λ r. bind (bind r (λ first. bind (each read left) (λ others. Ok (first ∷ others)))) (λ others. Ok (done ++ others))) is

pub with_read-nil : {X Y : Type 0} (read : X → Result Y Refusal) (done : List Y) → with_read read done [] ≡ Ok done
with_read-nil read done = ap Ok (append-nil done)

with_nothing : {Y : Type 0} (r : Result (List Y) Refusal) → bind r (λ others. Ok ([] ++ others)) ≡ r
with_nothing (Ok others) = refl
with_nothing (Err why) = refl

pub with_read-start : {X Y : Type 0} (read : X → Result Y Refusal) (left : List X) → with_read read [] left ≡ each read left
with_read-start read left = with_nothing (each read left)
