use Rattle.std.proofs.Common.{◌≡◌, ℕ, ◌<◌, ◌≤◌, Result, Ok, Err, List, length, get_or}
use Rattle.std.specs.Prelude.{MatchResult, IfOk, IfErr}
use Rattle.std.proofs.lemmas.List.Sorted.{searched}
use Rattle.arti_tree.specs.Ids.{IsGap}
use Rattle.arti_tree.proofs.IdLists.{rises_or_same}
use Rattle.arti_tree.proofs.ids.place_in.Goals as goal

by_result : (xs : List ℕ) (x : ℕ) (r : Result ℕ ℕ) → MatchResult r (λ i. (i < length xs) × (get_or xs i 0 ≡ x)) (λ i. (i ≤ length xs) × ((k : ℕ) → k < i → get_or xs k 0 < x) × ((k : ℕ) → i ≤ k → k < length xs → x < get_or xs k 0))
    → IfOk r (λ i. (i < length xs) × (get_or xs i 0 ≡ x)) × IfErr r (λ i. IsGap xs x i)
by_result xs x (Ok i) m = (m, tt)
by_result xs x (Err i) m = (tt, record { within = m.0; before = m.1; behind = m.2 })

pub returns : goal.returns
returns c =
    let ids = c.args.ids.now in
    let both = by_result ids c.args.id c.binary_search.result (searched ids c.args.id c.binary_search.result c.binary_search.ensures.position (λ i j le below. rises_or_same 0 ids c.requires i j le below)) in
    record { found = both.0; gap = both.1 }
