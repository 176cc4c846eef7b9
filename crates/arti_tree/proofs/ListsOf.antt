-- Lists of ids under ids, as one of them changes.
use Rattle.std.proofs.Common.{◌≡◌, ℕ, Bool, true, false, cond, List, refl, sym, ap, ◌∙◌, subst, arith}
use Rattle.arti_tree.specs.Ids.{AscendFrom, Lacks, with_id, without_id}
use Rattle.arti_tree.proofs.IdLists.{with_ascends, undone}

more_by : (b : Bool) (id : ℕ) (l : List ℕ) → AscendFrom 0 l → Lacks l id → AscendFrom 0 (cond b (with_id id l) l)
more_by true id l up lacks = with_ascends 0 id l (omega arith) up lacks
more_by false id l up lacks = up

pub more_ascends : (b : Bool) (id : ℕ) (l m : List ℕ) → m ≡ cond b (with_id id l) l → AscendFrom 0 l → Lacks l id → AscendFrom 0 m
more_ascends b id l m is up lacks = subst (λ (k : List ℕ). AscendFrom 0 k) (sym is) (more_by b id l up lacks)

back_by : (b : Bool) (id : ℕ) (l : List ℕ) → Lacks l id → cond b (without_id id (cond b (with_id id l) l)) (cond b (with_id id l) l) ≡ l
back_by true id l lacks = undone id l lacks
back_by false id l lacks = refl

pub back : (b : Bool) (id : ℕ) (l m n : List ℕ) → Lacks l id → m ≡ cond b (with_id id l) l → n ≡ cond b (without_id id m) m → n ≡ l
back b id l m n lacks e f = f ∙ ap (λ (k : List ℕ). cond b (without_id id k) k) e ∙ back_by b id l lacks
