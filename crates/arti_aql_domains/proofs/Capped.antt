-- Counts that stand still at 4,097.
use Rattle.std.proofs.Common.{◌≡◌, ℕ, zero, suc, ◌+◌, ◌*◌, ◌<◌, ◌≤◌, min, List, length, get_or, drop, sym, ap, ◌∙◌, ⊎_elim, arith}
use Rattle.std.proofs.Math.Nat.{mul_comm, mul_assoc, mul-le-mul_left}
use Rattle.std.proofs.lemmas.Bool.{cases_lt}
use Rattle.arti_query_model.specs.Cases.{cases, product_of_cases}
use Rattle.arti_aql_domains.specs.declared.cond.Cond.{Cond}
use Rattle.arti_aql_domains.specs.Conditions.{cond_view, conds_view}
use Rattle.arti_aql_domains.proofs.Next.{next}

times_more : (a k : ℕ) → a * 1 ≤ a * suc k
times_more a k = mul-le-mul_left a (omega arith)

capped_high : (a q : ℕ) → 4097 ≤ a → min 4097 (4097 * q) ≡ min 4097 (a * q)
capped_high a zero h = omega arith
capped_high a (suc k) h = let m : a * 1 ≤ a * suc k = times_more a k in let n : a * 1 ≡ a = omega arith in
    let left : min 4097 (4097 * suc k) ≡ 4097 = omega arith in
    let right : min 4097 (a * suc k) ≡ 4097 = omega (arith, m, n, h) in
    left ∙ sym right

-- a factor that stands still gives a product that does
capped : (a q : ℕ) → min 4097 (min 4097 a * q) ≡ min 4097 (a * q)
capped a q = ⊎_elim
    (λ low. let e : min 4097 a ≡ a = omega (arith, low) in ap (λ x. min 4097 (x * q)) e)
    (λ high. let e : min 4097 a ≡ 4097 = omega (arith, high) in ap (λ x. min 4097 (x * q)) e ∙ capped_high a q high)
    (cases_lt a 4097)

swapped : (p c q : ℕ) → p * c * q ≡ c * (p * q)
swapped p c q = ap (λ x. x * q) (mul_comm p c) ∙ mul_assoc c p q

-- the product goes on with a factor
capped_product : (p c q : ℕ) → min 4097 (min 4097 (p * min 4097 c) * q) ≡ min 4097 (p * (c * q))
capped_product p c q =
    capped (p * min 4097 c) q ∙ ap (λ x. min 4097 x) (swapped p (min 4097 c) q) ∙ capped c (p * q) ∙ ap (λ x. min 4097 x) (sym (swapped p c q) ∙ mul_assoc p c q)

pub more_product : (parts : List Cond) (i : ℕ) (x : Cond) (total p few m : ℕ)
    → i < length parts → x ≡ get_or parts i x → few ≡ min 4097 (cases (cond_view x)) → m ≡ min 4097 (p * few)
    → total ≡ min 4097 (p * product_of_cases (conds_view (drop i parts))) → total ≡ min 4097 (m * product_of_cases (conds_view (drop (i + 1) parts)))
more_product parts i x total p few m lt is gives makes so =
    so ∙ ap (λ l. min 4097 (p * product_of_cases (conds_view l))) (next parts i x lt is)
    ∙ sym (ap (λ k. min 4097 (k * product_of_cases (conds_view (drop (i + 1) parts)))) (makes ∙ ap (λ k. min 4097 (p * k)) gives)
    ∙ capped_product p (cases (cond_view x)) (product_of_cases (conds_view (drop (i + 1) parts))))
