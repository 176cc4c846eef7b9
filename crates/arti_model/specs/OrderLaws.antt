-- What is put among others in the order of its key keeps that order.
use Rattle.std.proofs.Common.{◌≡◌, zero, suc, Bool, true, List, [], ◌∷◌, ◌++◌, refl, arith, Ordering, Less, Equal, Greater}
use Rattle.std.specs.Prelude.{All, filter}
use Rattle.std.specs.List.{AllPairs}
use Rattle.std.specs.Ordering.{is_lt}
use Rattle.std.proofs.lemmas.List.Elements.{All-cons, All-head, All-tail, All-append, All-weaker, filter_passes}
use Rattle.std.proofs.lemmas.List.Kept.{AllPairs-cons, AllPairs-filter}
use Rattle.arti_rows.specs.Key.{Key, key_cmp}
use Rattle.arti_rows.specs.KeyLaws.{key_cmp-total}
use Rattle.arti_model.specs.Store.{Item, InDefaultOrder, put_item}

less_by : (o : Ordering) → is_lt o ≡ true → o ≡ Less
less_by Less e = refl
less_by Equal e = cc
less_by Greater e = cc

-- of whatever has a key
module _ {X : Type 0} (key_of : X → Key) where
  abbrev Before : X → X → Type 0
  Before a b = key_cmp (key_of a) (key_of b) ≡ Less

  heads : (x : X) (xs : List X) → AllPairs Before (x ∷ xs) → All (Before x) xs
  heads x xs p k d lt = p zero (suc k) d (omega arith) (omega arith)

  tails : (x : X) (xs : List X) → AllPairs Before (x ∷ xs) → AllPairs Before xs
  tails x xs p i j d lt within = p (suc i) (suc j) d (omega arith) (omega arith)

  pairs_append : (xs ys : List X) → All (λ x. All (Before x) ys) xs → AllPairs Before xs → AllPairs Before ys → AllPairs Before (xs ++ ys)
  pairs_append [] ys across p q = q
  pairs_append (x ∷ xs) ys across p q =
      AllPairs-cons Before x (xs ++ ys) (All-append (Before x) xs ys (heads x xs p) (All-head (λ y. All (Before y) ys) x xs across))
      (pairs_append xs ys (All-tail (λ y. All (Before y) ys) x xs across) (tails x xs p) q)

  pub put_by_key : (new : X) (xs : List X) → AllPairs Before xs
      → AllPairs Before (filter (λ x. is_lt (key_cmp (key_of x) (key_of new))) xs ++ new ∷ filter (λ x. is_lt (key_cmp (key_of new) (key_of x))) xs)
  put_by_key new xs order =
      let less : X → Bool = λ x. is_lt (key_cmp (key_of x) (key_of new)) in
      let more : X → Bool = λ x. is_lt (key_cmp (key_of new) (key_of x)) in
      let before : All (λ x. Before x new) (filter less xs) =
      All-weaker (λ x. less x ≡ true) (λ x. Before x new) (λ x e. less_by (key_cmp (key_of x) (key_of new)) e) (filter less xs) (filter_passes less xs) in
      let behind : All (λ y. Before new y) (filter more xs) =
      All-weaker (λ y. more y ≡ true) (λ y. Before new y) (λ y e. less_by (key_cmp (key_of new) (key_of y)) e) (filter more xs) (filter_passes more xs) in
      pairs_append (filter less xs) (new ∷ filter more xs)
      (All-weaker (λ x. Before x new) (λ x. All (Before x) (new ∷ filter more xs))
      (λ x e. All-cons (Before x) new (filter more xs) e
      (All-weaker (λ y. Before new y) (Before x) (λ y f. key_cmp-total.trans (key_of x) (key_of new) (key_of y) e f) (filter more xs) behind))
      (filter less xs) before)
      (AllPairs-filter Before less xs order)
      (AllPairs-cons Before new (filter more xs) behind (AllPairs-filter Before more xs order))

-- of an item
pub put_in_order : {F : Type 0} (new : Item F) (items : List (Item F)) → InDefaultOrder items → InDefaultOrder (put_item new items)
put_in_order new items order = put_by_key (λ item. item.key) new items order
