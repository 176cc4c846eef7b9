-- What lies before and behind a key in the default order.
use Rattle.std.proofs.Common.{◌≡◌, ℕ, ◌+◌, ◌<◌, ◌≤◌, subst, arith, Less, Greater, ⊎_elim}
use Rattle.std.proofs.lemmas.Bool.{cases_lt}
use Rattle.arti_rows.specs.Key.{Key, key_cmp}
use Rattle.arti_rows.specs.KeyLaws.{key_cmp-total, key_cmp-Less, key_cmp-Greater}

-- up to one that is less, all are
pub before_more : (keys : ℕ → Key) (n m : ℕ) (x : Key) → ((i j : ℕ) → i < j → j < n → key_cmp (keys i) (keys j) ≡ Less) → m < n → key_cmp (keys m) x ≡ Less → (k : ℕ) → k < m + 1 → key_cmp (keys k) x ≡ Less
before_more keys n m x up within here k below =
    ⊎_elim (λ (l : k < m). key_cmp-total.trans (keys k) (keys m) x (up k m l within) here) (λ (l : m ≤ k). let same : m ≡ k = omega arith in subst (λ (i : ℕ). key_cmp (keys i) x ≡ Less) same here) (cases_lt k m)

-- from one that is greater on, all are
pub behind_more : (keys : ℕ → Key) (n m : ℕ) (x : Key) → ((i j : ℕ) → i < j → j < n → key_cmp (keys i) (keys j) ≡ Less) → key_cmp (keys m) x ≡ Greater → (k : ℕ) → m ≤ k → k < n → key_cmp (keys k) x ≡ Greater
behind_more keys n m x up here k above within =
    ⊎_elim (λ (l : m < k). key_cmp-Less x (keys k) (key_cmp-total.trans x (keys m) (keys k) (key_cmp-Greater (keys m) x here) (up m k l within))) (λ (l : k ≤ m). let same : m ≡ k = omega arith in subst (λ (i : ℕ). key_cmp (keys i) x ≡ Greater) same here) (cases_lt m k)
