-- The order of keys.
use Rattle.std.proofs.Common.{◌≡◌, ℕ, List, true, false, refl, sym, ap, ◌∙◌, Ordering, Less, Equal, Greater}
use Rattle.std.specs.Ordering.{nat_cmp, ordering_reverse, is_eq}
use Rattle.std.specs.Str.{bytes_eq}
use Rattle.std.specs.Cmp.{IsTotalOrder}
use Rattle.std.specs.Cmp.Lexicographic.{slice_cmp, texts_ties}
use Rattle.std.proofs.lemmas.Cmp.{nat_list_cmp_total}

pub total : IsTotalOrder (slice_cmp nat_cmp)
total = nat_list_cmp_total

reverse_less : (o : Ordering) → Less ≡ ordering_reverse o → o ≡ Greater
reverse_less Less e = cc
reverse_less Equal e = cc
reverse_less Greater e = refl

reverse_greater : (o : Ordering) → Greater ≡ ordering_reverse o → o ≡ Less
reverse_greater Less e = refl
reverse_greater Equal e = cc
reverse_greater Greater e = cc

pub to_greater : (a b : List ℕ) → slice_cmp nat_cmp a b ≡ Less → slice_cmp nat_cmp b a ≡ Greater
to_greater a b h = reverse_less (slice_cmp nat_cmp b a) (sym h ∙ total.antisymm a b)

pub to_less : (a b : List ℕ) → slice_cmp nat_cmp a b ≡ Greater → slice_cmp nat_cmp b a ≡ Less
to_less a b h = reverse_greater (slice_cmp nat_cmp b a) (sym h ∙ total.antisymm a b)

pub same_at_equal : (a b : List ℕ) → slice_cmp nat_cmp a b ≡ Equal → bytes_eq a b ≡ true
same_at_equal a b h = texts_ties a b ∙ ap is_eq h

pub other_at_less : (a b : List ℕ) → slice_cmp nat_cmp a b ≡ Less → bytes_eq a b ≡ false
other_at_less a b h = texts_ties a b ∙ ap is_eq h

pub other_at_greater : (a b : List ℕ) → slice_cmp nat_cmp b a ≡ Less → bytes_eq a b ≡ false
other_at_greater a b h = texts_ties a b ∙ ap is_eq (to_greater b a h)
