-- The default order of keys is total, and two keys are one exactly where neither comes first.
use Rattle.std.proofs.Common.{◌≡◌, ◌≢◌, ℕ, Bool, true, false, List, refl, sym, ap, ◌∙◌, Ordering, Less, Equal, Greater}
use Rattle.std.specs.Prelude.{nat_eq, ◌&&◌}
use Rattle.std.specs.Ordering.{nat_cmp, ordering_then, ordering_reverse, is_eq}
use Rattle.std.specs.Cmp.{IsTotalOrder}
use Rattle.std.specs.Cmp.Lexicographic.{pointwise, slice_cmp, texts_ties, bytes_decides}
use Rattle.std.proofs.lemmas.Bool.{and_parts, false_from_ne_true}
use Rattle.std.proofs.lemmas.Cmp.{then_total, on_total, nat_list_cmp_total, tied_itself}
use Rattle.arti_rows.specs.Key.{Key, key_cmp, same_key}

-- ---- key_cmp

pub key_cmp-total : IsTotalOrder key_cmp
key_cmp-total =
    then_total (on_total (λ (k : Key). k.repo) nat_list_cmp_total)
    (then_total (on_total (λ (k : Key). k.path) nat_list_cmp_total) (on_total (λ (k : Key). k.name) nat_list_cmp_total))

reverse_less : (o : Ordering) → Less ≡ ordering_reverse o → o ≡ Greater
reverse_less Less e = cc
reverse_less Equal e = cc
reverse_less Greater e = refl

reverse_greater : (o : Ordering) → Greater ≡ ordering_reverse o → o ≡ Less
reverse_greater Less e = refl
reverse_greater Equal e = cc
reverse_greater Greater e = cc

-- what comes first has the other behind it
pub key_cmp-Less : (a b : Key) → key_cmp a b ≡ Less → key_cmp b a ≡ Greater
key_cmp-Less a b h = reverse_less (key_cmp b a) (sym h ∙ key_cmp-total.antisymm a b)

pub key_cmp-Greater : (a b : Key) → key_cmp a b ≡ Greater → key_cmp b a ≡ Less
key_cmp-Greater a b h = reverse_greater (key_cmp b a) (sym h ∙ key_cmp-total.antisymm a b)

pub key_cmp-refl : (a : Key) → key_cmp a a ≡ Equal
key_cmp-refl a = tied_itself key_cmp-total a

-- no key comes before itself
pub key_cmp-irrefl : (a : Key) → key_cmp a a ≢ Less
key_cmp-irrefl a h = let e = key_cmp-refl a in cc

-- ---- same_key

three : (x y z : Ordering) → (is_eq x && is_eq y && is_eq z) ≡ is_eq (ordering_then x (ordering_then y z))
three Less y z = refl
three Equal Less z = refl
three Equal Equal z = refl
three Equal Greater z = refl
three Greater y z = refl

pub same_key-is_eq : (a b : Key) → same_key a b ≡ is_eq (key_cmp a b)
same_key-is_eq a b =
    ap (λ (t : Bool). t && pointwise nat_eq a.path b.path && pointwise nat_eq a.name b.name) (texts_ties a.repo b.repo)
    ∙ ap (λ (t : Bool). is_eq (slice_cmp nat_cmp a.repo b.repo) && t && pointwise nat_eq a.name b.name) (texts_ties a.path b.path)
    ∙ ap (λ (t : Bool). is_eq (slice_cmp nat_cmp a.repo b.repo) && is_eq (slice_cmp nat_cmp a.path b.path) && t) (texts_ties a.name b.name)
    ∙ three (slice_cmp nat_cmp a.repo b.repo) (slice_cmp nat_cmp a.path b.path) (slice_cmp nat_cmp a.name b.name)

pub same_key-Equal : (a b : Key) → key_cmp a b ≡ Equal → same_key a b ≡ true
same_key-Equal a b h = same_key-is_eq a b ∙ ap is_eq h

pub same_key-Less : (a b : Key) → key_cmp a b ≡ Less → same_key a b ≡ false
same_key-Less a b h = same_key-is_eq a b ∙ ap is_eq h

pub same_key-Greater : (a b : Key) → key_cmp a b ≡ Greater → same_key a b ≡ false
same_key-Greater a b h = same_key-is_eq a b ∙ ap is_eq h

pub same_key-refl : (a : Key) → same_key a a ≡ true
same_key-refl a = same_key-Equal a a (key_cmp-refl a)

-- two keys that are one are the same
pub same_key-true : (a b : Key) → same_key a b ≡ true → a ≡ b
same_key-true a b e =
    let p = and_parts (pointwise nat_eq a.repo b.repo && pointwise nat_eq a.path b.path) (pointwise nat_eq a.name b.name) e in
    let q = and_parts (pointwise nat_eq a.repo b.repo) (pointwise nat_eq a.path b.path) p.0 in
    let repo : a.repo ≡ b.repo = (bytes_decides a.repo b.repo).0 q.0 in
    let path : a.path ≡ b.path = (bytes_decides a.path b.path).0 q.1 in
    let name : a.name ≡ b.name = (bytes_decides a.name b.name).0 p.1 in
    ap (λ (t : List ℕ). record { repo = t; path = a.path; name = a.name }) repo
    ∙ ap (λ (t : List ℕ). record { repo = b.repo; path = t; name = a.name }) path
    ∙ ap (λ (t : List ℕ). record { repo = b.repo; path = b.path; name = t }) name

pub same_key-other : (a b : Key) → a ≢ b → same_key a b ≡ false
same_key-other a b ne = false_from_ne_true (same_key a b) (λ e. ne (same_key-true a b e))

-- neither of two keys comes first, so they are the same
pub key_cmp-Equal : (a b : Key) → key_cmp a b ≡ Equal → a ≡ b
key_cmp-Equal a b h = same_key-true a b (same_key-Equal a b h)

-- of two keys of which one comes first, one at most is this one
pub same_key-apart : (a b key : Key) → key_cmp a b ≡ Less → same_key a key ≡ true → same_key b key ≡ false
same_key-apart a b key less here =
    same_key-other b key (λ same. key_cmp-irrefl b (sym (ap (λ (k : Key). key_cmp k b) (same_key-true a key here ∙ sym same)) ∙ less))
