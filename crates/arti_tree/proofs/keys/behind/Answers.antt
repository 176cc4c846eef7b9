use Rattle.std.proofs.Common.{◌≡◌, ◌≢◌, ℕ, ◌+◌, List, ◌++◌, length, drop, Option, Some, None, sym, ap, ◌∙◌, Bor}
use Rattle.std.specs.Prelude.{MatchOption, IfSome}
use Rattle.std.specs.Str.Pattern.{FindsTextPrefix}
use Rattle.arti_tree.proofs.keys.behind.Goals as goal

rest_by : (r : Option (Bor (List ℕ))) (n s : List ℕ) → MatchOption r (FindsTextPrefix n s None) (λ x. (k : ℕ) × FindsTextPrefix n s (Some k) × (x.now ≡ drop k s) × (length x.now + k ≡ length s)) → IfSome r (λ x. s ≡ n ++ x.now)
rest_by None n s m = tt
rest_by (Some x) n s m = m.1.1 ∙ ap (λ (l : List ℕ). n ++ l) (sym m.2)

none_by : (r : Option (Bor (List ℕ))) (n s : List ℕ) → MatchOption r (FindsTextPrefix n s None) (λ x. (k : ℕ) × FindsTextPrefix n s (Some k) × (x.now ≡ drop k s) × (length x.now + k ≡ length s)) → r ≡ None → (rest : List ℕ) → s ≢ n ++ rest
none_by None n s m e = m
none_by (Some x) n s m e = cc

pub returns-clause-none : goal.returns-clause-none
returns-clause-none c = none_by c.strip_prefix.result c.args.whole.now c.args.path.now c.strip_prefix.ensures.cases

pub returns-clause-rest : goal.returns-clause-rest
returns-clause-rest c = rest_by c.strip_prefix.result c.args.whole.now c.args.path.now c.strip_prefix.ensures.cases
