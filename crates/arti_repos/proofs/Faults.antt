-- A definition without a fault doesn't lead back to itself.
use Rattle.std.proofs.Common.{◌≡◌, ℕ, Bool, List, refl, Option, Some, None}
use Rattle.std.specs.Option.{option_map, option_or}
use Rattle.arti_rows.specs.declared.rows.RepoDef.{RepoDef}
use Rattle.arti_repos.specs.declared.fault.RepoFault.TheVariants.{Cycle}
use Rattle.arti_repos.specs.Cycles.{cycle}
use Rattle.arti_repos.specs.Refused.{key_fault, class_fault, member_fault, cycle_fault, default_fault, count_fault, define_fault}

behind : {X : Type 0} (a b : Option X) → option_or a b ≡ None → b ≡ None
behind None b e = e
behind (Some x) b e = cc

front : {X : Type 0} (a b : Option X) → option_or a b ≡ None → a ≡ None
front None b e = refl
front (Some x) b e = cc

unmapped : (o : Option (List (List ℕ))) → option_map Cycle o ≡ None → o ≡ None
unmapped None e = refl
unmapped (Some x) e = cc

pub no_cycle : (defs : List RepoDef) (d : RepoDef) (update : Bool) (limit : ℕ) → define_fault defs d update limit ≡ None → cycle defs d ≡ None
no_cycle defs d update limit none =
    unmapped (cycle defs d)
    (front (cycle_fault defs d) (option_or (default_fault defs d.default_to) (count_fault defs d limit))
    (behind (member_fault defs d) (option_or (cycle_fault defs d) (option_or (default_fault defs d.default_to) (count_fault defs d limit)))
    (behind (class_fault defs d) _ (behind (key_fault defs d update) _ none))))
