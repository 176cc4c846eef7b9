use Rattle.std.proofs.Common.{◌≡◌, ℕ, ◌≤◌, zero, suc, List, [], ◌∷◌, ◌++◌, length, take, drop, vec_len, refl, ap, ◌∙◌, arith, rules}
use Rattle.arti_tree.specs.Shifts.{left_by}
use Rattle.arti_tree.proofs.Merging.{left_by_is}
use Rattle.arti_tree.proofs.ids.drop_ascending.Goals as goal

front : (k n : ℕ) (xs rest : List ℕ) → k ≤ length xs → length xs ≤ n → take k (take n (xs ++ rest)) ≡ take k xs
front zero n xs rest le within = refl
front (suc k) n [] rest le within = absurd (omega arith)
front (suc k) zero (x ∷ xs) rest le within = absurd (omega arith)
front (suc k) (suc n) (x ∷ xs) rest le within = ap (λ (l : List ℕ). x ∷ l) (front k n xs rest (omega arith) (omega arith))

pub returns : goal.returns
returns c =
    let fewer : List ℕ = c.args.fewer.now in
    let new : List ℕ = c.close_up-kept.new.ids in
    let same : length new ≡ length c.deref_mut.result.now = c.close_up-kept.ensures.long in
    let long : length c.deref_mut.result.now ≡ vec_len c.args.ids.now = search rules in
    c.truncate.ensures.items
    ∙ front c.close_up-kept.result (vec_len c.args.ids.now) new (drop (length new) c.args.ids.now.items) c.close_up-kept.ensures.within (omega (arith, same, long))
    ∙ c.close_up-kept.ensures.left ∙ ap (left_by fewer) c.deref_mut.ensures.value ∙ left_by_is fewer c.args.ids.now.items c.requires.fewer_ascend c.requires.ascend
