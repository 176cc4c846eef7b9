use Rattle.std.proofs.Common.{◌≡◌, ℕ, ◌<◌, ◌≤◌, ◌-◌, List, [], ◌∷◌, ◌++◌, length, get_or, drop, None, sym, subst, rules}
use Rattle.std.specs.List.{filter}
use Rattle.arti_rows.specs.Key.{Key}
use Rattle.arti_tree.specs.Rows.{row_at, IsFolder}
use Rattle.arti_tree.specs.Adds.{is_missing}
use Rattle.arti_tree.specs.Chains.{CanAdd}
use Rattle.arti_tree.proofs.Climbing.{can_add}
use Rattle.arti_tree.proofs.tree.Tree.put.Goals as goal

pub add_all-requires-clause-can : goal.add_all-requires-clause-can
add_all-requires-clause-can c =
    let rows = c.args.self.now in
    let k : Key = c.args.key in
    let fs = c.in_ok-folders.folders.items in
    let n : ℕ = c.in-Ok.there in
    let pushed : c.push.new.self.items ≡ drop n fs ++ k ∷ [] = search rules in
    let none : row_at rows k ≡ None = search rules in
    let facts = subst (λ (l : List Key). (n ≤ length l) × (filter (is_missing rows) l ≡ drop n l) × (0 < n → IsFolder rows (get_or l (n - 1) k))) c.deref.ensures.value (c.in-Ok.ensures.within, c.in-Ok.ensures.missing, c.in-Ok.ensures.last) in
    subst (λ (l : List Key). CanAdd rows l) (sym pushed) (can_add k fs c.rules-2.ensures c.in_ok-folders.ensures rows n facts.0 facts.2 facts.1 none)
