-- Ids that leave one list for another.
use Rattle.std.proofs.Common.{◌≡◌, ◌≢◌, ℕ, Bool, true, false, cond, List, [], ◌∷◌, Option, Some, None, refl, sym, ap, ◌∙◌, subst, arith}
use Rattle.std.specs.Prelude.{nat_eq}
use Rattle.std.specs.Cmp.Lexicographic.{pointwise, bytes_decides}
use Rattle.std.proofs.lemmas.Bool.{eqb-true}
use Rattle.arti_tree.specs.Ids.{AscendFrom, Lacks, with_id, without_id}
use Rattle.arti_tree.specs.Slots.{is_it}
use Rattle.arti_tree.specs.Shifts.{shifted, with_ids, without_ids}
use Rattle.arti_tree.proofs.IdLists.{with_ascends, undone}

it_is : (o : Option ℕ) (i : ℕ) → is_it o i ≡ true → o ≡ Some i
it_is None i e = cc
it_is (Some x) i e = ap Some (eqb-true x i e)

pub one_only : (was will : Option ℕ) (i : ℕ) → was ≢ will → is_it will i ≡ true → is_it was i ≡ false
one_only was will i ne e = by (is_it was i) refl
  where
    by : (b : Bool) → is_it was i ≡ b → is_it was i ≡ false
    by true f = absurd (ne (it_is was i f ∙ sym (it_is will i e)))
    by false f = f

pub stays_as : (b : Bool) (ids l : List ℕ) → l ≡ shifted b b ids l
stays_as true ids l = refl
stays_as false ids l = refl

shift_by : (b c : Bool) (id : ℕ) (l e m : List ℕ) → (b ≡ true → c ≡ true → ⊥) → e ≡ cond c (with_id id l) l → m ≡ cond b (without_id id e) e → m ≡ shifted b c (id ∷ []) l
shift_by true true id l e m never in_it out = absurd (never refl refl)
shift_by true false id l e m never in_it out = out ∙ ap (without_id id) in_it
shift_by false true id l e m never in_it out = out ∙ in_it
shift_by false false id l e m never in_it out = out ∙ in_it

-- an id that entered one list and left another
pub shift_is : (was will : Option ℕ) (id i : ℕ) (l e m : List ℕ) → was ≢ will → e ≡ cond (is_it will i) (with_id id l) l → m ≡ cond (is_it was i) (without_id id e) e → m ≡ shifted (is_it was i) (is_it will i) (id ∷ []) l
shift_is was will id i l e m ne in_it out = shift_by (is_it was i) (is_it will i) id l e m (λ a b. let no : false ≡ true = sym (one_only was will i ne b) ∙ a in cc) in_it out

enters_by : (b : Bool) (id : ℕ) (l : List ℕ) → (b ≡ true → Lacks l id) → AscendFrom 0 l → AscendFrom 0 (cond b (with_id id l) l)
enters_by true id l lacks up = with_ascends 0 id l (omega arith) up (lacks refl)
enters_by false id l lacks up = up

pub enters : (b : Bool) (id : ℕ) (l e : List ℕ) → (b ≡ true → Lacks l id) → e ≡ cond b (with_id id l) l → AscendFrom 0 l → AscendFrom 0 e
enters b id l e lacks is up = subst (λ (k : List ℕ). AscendFrom 0 k) (sym is) (enters_by b id l lacks up)

backs_by : (b : Bool) (id : ℕ) (l : List ℕ) → (b ≡ true → Lacks l id) → cond b (without_id id (cond b (with_id id l) l)) (cond b (with_id id l) l) ≡ l
backs_by true id l lacks = undone id l (lacks refl)
backs_by false id l lacks = refl

pub backs : (b : Bool) (id : ℕ) (l e m : List ℕ) → (b ≡ true → Lacks l id) → e ≡ cond b (with_id id l) l → m ≡ cond b (without_id id e) e → m ≡ l
backs b id l e m lacks f g = g ∙ ap (λ (k : List ℕ). cond b (without_id id k) k) f ∙ backs_by b id l lacks

-- texts that differ either way round
pub other_way : (a b : List ℕ) → pointwise nat_eq a b ≡ false → pointwise nat_eq b a ≡ false
other_way a b e = by (pointwise nat_eq b a) refl
  where
    by : (t : Bool) → pointwise nat_eq b a ≡ t → pointwise nat_eq b a ≡ false
    by true f = let same : b ≡ a = (bytes_decides b a).0 f in let yes : pointwise nat_eq a b ≡ true = (bytes_decides a b).1 (sym same) in let no : false ≡ true = sym e ∙ yes in cc
    by false f = f

-- a list of what leaves one list for another
repo_by : (a b : Bool) (ids l e m : List ℕ) → (a ≡ true → b ≡ true → ⊥) → e ≡ cond b (with_ids ids l) l → m ≡ cond a (without_ids ids e) e → m ≡ shifted a b ids l
repo_by true true ids l e m never in_it out = absurd (never refl refl)
repo_by true false ids l e m never in_it out = out ∙ ap (without_ids ids) in_it
repo_by false true ids l e m never in_it out = out ∙ in_it
repo_by false false ids l e m never in_it out = out ∙ in_it

pub repo_is : (from to q : List ℕ) (ids l e m : List ℕ) → pointwise nat_eq from to ≡ false → e ≡ cond (pointwise nat_eq q to) (with_ids ids l) l → m ≡ cond (pointwise nat_eq q from) (without_ids ids e) e
    → m ≡ shifted (pointwise nat_eq q from) (pointwise nat_eq q to) ids l
repo_is from to q ids l e m ne in_it out =
    repo_by (pointwise nat_eq q from) (pointwise nat_eq q to) ids l e m (λ a b.
    let same : from ≡ to = sym ((bytes_decides q from).0 a) ∙ (bytes_decides q to).0 b in
    let yes : pointwise nat_eq from to ≡ true = (bytes_decides from to).1 same in
    let no : false ≡ true = sym ne ∙ yes in cc) in_it out
