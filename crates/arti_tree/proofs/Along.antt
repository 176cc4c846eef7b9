-- Facts along two equations.
use Rattle.std.proofs.Common.{◌≡◌, sym, subst}

pub to_both : {A B : Type 0} (P : A → B → Type 0) (a x : A) (b y : B) → a ≡ x → b ≡ y → P x y → P a b
to_both {A} {B} P a x b y e f p = subst (λ (k : A). P k b) (sym e) (subst (λ (k : B). P x k) (sym f) p)

pub from_both : {A B : Type 0} (P : A → B → Type 0) (a x : A) (b y : B) → a ≡ x → b ≡ y → P a b → P x y
from_both {A} {B} P a x b y e f p = subst (λ (k : A). P k y) e (subst (λ (k : B). P a k) f p)
