-- Paths, cut at their dots.
use Rattle.std.proofs.Common.{◌≡◌, ℕ, suc, ◌+◌, ◌<◌, Bool, true, false, not, cond, List, [], ◌∷◌, ◌++◌, length, take, drop, Option, Some, None, refl, sym, ap, ◌∙◌, arith}
use Rattle.std.specs.Prelude.{◌==◌, option_map}
use Rattle.std.specs.List.{position_or_len, before_first, after_first}
use Rattle.std.proofs.lemmas.List.{append_assoc}
use Rattle.arti_query_model.specs.declared.fields.Rel.{Rel}
use Rattle.arti_query_model.specs.Paths.{cut, path_text, before_names, is_property_text, end_of}
use Rattle.arti_aql_domains.specs.Paths.{behind}

abbrev dot : ℕ → Bool
dot b = b == 46

by_bool : {P : Type 0} (b : Bool) → (b ≡ true → P) → (b ≡ false → P) → P
by_bool true t f = t refl
by_bool false t f = f refl

-- a path that begins with no `@` begins like any part
begins_alike : (path : List ℕ) → is_property_text path ≡ false → cut true path ≡ cut false path
begins_alike [] h = refl
begins_alike (b ∷ bs) h = let plain : (b == 64) ≡ false = h in rw plain

-- without a dot there is one part
uncut : (bs : List ℕ) → position_or_len dot bs ≡ length bs → cut false bs ≡ record { names = []; last = bs }
uncut [] e = refl
uncut (b ∷ bs) e = by_bool (b == 46)
    (λ t. absurd (let none : 0 ≡ suc (length bs) = sym (ap (λ v. cond (not v) (1 + position_or_len dot bs) 0) t) ∙ e in omega arith))
    (λ f. let more : 1 + position_or_len dot bs ≡ suc (length bs) = sym (ap (λ v. cond (not v) (1 + position_or_len dot bs) 0) f) ∙ e in
    let first : cut false (b ∷ bs) ≡ before_names b (cut false bs).names (cut false bs).last = rw f in
    first ∙ ap (λ c. before_names b c.names c.last) (uncut bs (omega arith)))

-- the first part ends at the first dot
cut_first : (bs : List ℕ) → position_or_len dot bs < length bs → cut false bs ≡ behind (before_first dot bs) (cut true (after_first dot bs))
cut_first [] h = absurd (omega arith)
cut_first (b ∷ bs) h = by_bool (b == 46)
    (λ t. rw t)
    (λ f. let n = position_or_len dot bs in
    let at : position_or_len dot (b ∷ bs) ≡ 1 + n = ap (λ v. cond (not v) (1 + n) 0) f in
    let one : 1 + n ≡ suc n = omega arith in
    let two : suc n + 1 ≡ suc (n + 1) = omega arith in
    let front : before_first dot (b ∷ bs) ≡ b ∷ before_first dot bs = ap (λ k. take k (b ∷ bs)) (at ∙ one) in
    let back : after_first dot (b ∷ bs) ≡ after_first dot bs = ap (λ k. drop (k + 1) (b ∷ bs)) (at ∙ one) ∙ ap (λ k. drop k (b ∷ bs)) two in
    let first : cut false (b ∷ bs) ≡ before_names b (cut false bs).names (cut false bs).last = rw f in
    first ∙ ap (λ c. before_names b c.names c.last) (cut_first bs (omega (arith, at, h)))
    ∙ ap (λ x. behind x (cut true (after_first dot bs))) (sym front) ∙ ap (λ x. behind (before_first dot (b ∷ bs)) (cut true x)) (sym back))

pub whole_part : (path : List ℕ) → is_property_text path ≡ false → position_or_len dot path ≡ length path → path_text path ≡ record { names = []; last = path }
whole_part path plain h = begins_alike path plain ∙ uncut path h

pub first_part : (path name rest : List ℕ) → is_property_text path ≡ false → name ≡ before_first dot path → rest ≡ after_first dot path → position_or_len dot path < length path
    → path_text path ≡ behind name (path_text rest)
first_part path name rest plain front back h = rw (front, back) (begins_alike path plain ∙ cut_first path h)

-- ---- relations, one after the other

pub end_of_more : (root : Rel) (path : List Rel) (rel : Rel) → end_of root (path ++ rel ∷ []) ≡ rel
end_of_more root [] rel = refl
end_of_more root (first ∷ path) rel = end_of_more first path rel

pub behind_more : (path : List Rel) (rel : Rel) (rest : Option (List Rel))
    → option_map (λ rels. path ++ rels) (option_map (λ rels. rel ∷ rels) rest) ≡ option_map (λ rels. (path ++ rel ∷ []) ++ rels) rest
behind_more path rel None = refl
behind_more path rel (Some rels) = ap Some (sym (append_assoc path (rel ∷ []) rels))
