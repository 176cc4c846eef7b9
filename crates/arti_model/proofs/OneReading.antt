-- Bytes begin with one thing, and are requests in one way.
use Rattle.std.proofs.Common.{◌≡◌, ℕ, ◌-◌, ◌<◌, ◌⊎◌, inl, inr, Bool, true, false, List, [], ◌∷◌, ◌++◌, length, take, drop, refl, sym, ap, ◌∙◌, subst, arith, length-append}
use Rattle.std.specs.Prelude.{MatchBool}
use Rattle.std.proofs.Math.Seq.{take-append_seam, drop-append_seam}
use Rattle.httparse.proofs.GrammarLemmas.{request_unique}
use Rattle.arti_model.specs.declared.Why.{Why}
use Rattle.arti_model.specs.Requests.{Request, Whole, Ending, End, Cut, Bad, TooMany, Start, AtEnd, AtCut, AtBad, Head, start_with, HeadOrNone, is_line_byte, StartsAt, skip, Begins, EndsSo, RequestBytes}

same_head : (content : ℕ) (bytes : List ℕ) (s t : Start) → HeadOrNone content bytes s → HeadOrNone content bytes t → s ≡ t
same_head content bytes s t (inl x) (inl y) =
    let same = request_unique bytes x.0 y.0 x.1 y.1 x.2.reads y.2.reads in
    x.3 ∙ ap (λ h. start_with content h x.1) same.0 ∙ ap (start_with content y.0) same.1 ∙ sym y.3
same_head content bytes s t (inl x) (inr y) = absurd (y.0 x.0 x.1 x.2)
same_head content bytes s t (inr x) (inl y) = absurd (x.0 y.0 y.1 y.2)
same_head content bytes s t (inr x) (inr y) = x.1 ∙ sym y.1

same_at_byte : (content : ℕ) (bytes : List ℕ) (s t : Start) (line : Bool) (bad : Start)
    → MatchBool line (s ≡ bad) (HeadOrNone content bytes s) → MatchBool line (t ≡ bad) (HeadOrNone content bytes t) → s ≡ t
same_at_byte content bytes s t true bad x y = x ∙ sym y
same_at_byte content bytes s t false bad x y = same_head content bytes s t x y

same_start : (content : ℕ) (bytes : List ℕ) (s t : Start) → StartsAt content bytes s → StartsAt content bytes t → s ≡ t
same_start content [] s t x y = x ∙ sym y
same_start content (b ∷ bytes) s t x y = same_at_byte content (b ∷ bytes) s t (is_line_byte b) _ x y

-- bytes begin with one thing
pub begins_once : (content : ℕ) (bytes : List ℕ) (s t : Start) → Begins content bytes s → Begins content bytes t → s ≡ t
begins_once content bytes s t x y = same_start content (skip 1024 bytes) s t x y

-- the bytes begin with a head whose body is cut, or they are cut before
abbrev IsCut : ℕ → List ℕ → Type 0
IsCut content bytes =
    Begins content bytes AtCut
    ⊎ ((q : Request) × (n : ℕ) × (rest : List ℕ) × Begins content bytes (Head q n rest) × (length rest < n))

not_end_and_cut : (content : ℕ) (bytes : List ℕ) → Begins content bytes AtEnd → IsCut content bytes → ⊥
not_end_and_cut content bytes x (inl y) = let e = begins_once content bytes AtEnd AtCut x y in cc
not_end_and_cut content bytes x (inr y) =
    let e = begins_once content bytes AtEnd (Head y.0 y.1 y.2) x y.3 in cc

not_bad_and_cut : (content : ℕ) (bytes : List ℕ) (why : Why) → Begins content bytes (AtBad why) → IsCut content bytes → ⊥
not_bad_and_cut content bytes why x (inl y) = let e = begins_once content bytes (AtBad why) AtCut x y in cc
not_bad_and_cut content bytes why x (inr y) =
    let e = begins_once content bytes (AtBad why) (Head y.0 y.1 y.2) x y.3 in cc

-- the bytes end in one way
ends_once : (content most : ℕ) (bytes : List ℕ) (e f : Ending) → EndsSo content most bytes e → EndsSo content most bytes f → e ≡ f
ends_once content most bytes End End x y = refl
ends_once content most bytes End Cut x y = absurd (not_end_and_cut content bytes x y.1)
ends_once content most bytes End (Bad why) x y =
    let e = begins_once content bytes AtEnd (AtBad why) x y.1 in cc
ends_once content most bytes End TooMany x y = absurd (y.1 x)
ends_once content most bytes Cut End x y = absurd (not_end_and_cut content bytes y x.1)
ends_once content most bytes Cut Cut x y = refl
ends_once content most bytes Cut (Bad why) x y = absurd (not_bad_and_cut content bytes why y.1 x.1)
ends_once content most bytes Cut TooMany x y = absurd (omega (arith, x.0, y.0))
ends_once content most bytes (Bad why) End x y =
    let e = begins_once content bytes (AtBad why) AtEnd x.1 y in cc
ends_once content most bytes (Bad why) Cut x y = absurd (not_bad_and_cut content bytes why x.1 y.1)
ends_once content most bytes (Bad why) (Bad other) x y =
    let e = begins_once content bytes (AtBad why) (AtBad other) x.1 y.1 in cc
ends_once content most bytes (Bad why) TooMany x y = absurd (omega (arith, x.0, y.0))
ends_once content most bytes TooMany End x y = absurd (x.1 y)
ends_once content most bytes TooMany Cut x y = absurd (omega (arith, x.0, y.0))
ends_once content most bytes TooMany (Bad why) x y = absurd (omega (arith, x.0, y.0))
ends_once content most bytes TooMany TooMany x y = refl

-- bytes that begin with a request don't end there
begun_goes_on : (content most : ℕ) (bytes : List ℕ) (e : Ending) (q : Request) (body after : List ℕ) → 0 < most
    → Begins content bytes (Head q (length body) (body ++ after)) → EndsSo content most bytes e → ⊥
begun_goes_on content most bytes End q body after some head y =
    let e = begins_once content bytes AtEnd (Head q (length body) (body ++ after)) y head in cc
begun_goes_on content most bytes Cut q body after some head (positive, inl y) =
    let e = begins_once content bytes AtCut (Head q (length body) (body ++ after)) y head in cc
begun_goes_on content most bytes Cut q body after some head (positive, inr y) =
    let same : Head q (length body) (body ++ after) ≡ Head y.0 y.1 y.2 =
    begins_once content bytes (Head q (length body) (body ++ after)) (Head y.0 y.1 y.2) head y.3 in
    let size : length body ≡ y.1 = cc in
    let rest : body ++ after ≡ y.2 = cc in
    omega (arith, y.4, ap length rest, length-append body after)
begun_goes_on content most bytes (Bad why) q body after some head y =
    let e = begins_once content bytes (AtBad why) (Head q (length body) (body ++ after)) y.1 head in cc
begun_goes_on content most bytes TooMany q body after some head y = omega (arith, y.0)

-- two requests that the same bytes begin with, and what stands behind them
same_first : (content : ℕ) (bytes : List ℕ) (q r : Whole) (a b : List ℕ)
    → Begins content bytes (Head q.head (length q.body) (q.body ++ a)) → Begins content bytes (Head r.head (length r.body) (r.body ++ b))
    → (q ≡ r) × (a ≡ b)
same_first content bytes q r a b x y =
    let same : Head q.head (length q.body) (q.body ++ a) ≡ Head r.head (length r.body) (r.body ++ b) = begins_once content bytes _ _ x y in
    let head : q.head ≡ r.head = cc in
    let size : length q.body ≡ length r.body = cc in
    let rest : q.body ++ a ≡ r.body ++ b = cc in
    let body : q.body ≡ r.body =
    sym (take-append_seam q.body a) ∙ ap (take (length q.body)) rest ∙ ap (λ n. take n (r.body ++ b)) size ∙ take-append_seam r.body b in
    let after : a ≡ b =
    sym (drop-append_seam q.body a) ∙ ap (drop (length q.body)) rest ∙ ap (λ n. drop n (r.body ++ b)) size ∙ drop-append_seam r.body b in
    ((λ i. record { head = head i; body = body i }), after)

-- the same of the rest behind a first request
rest_once : (last : Bool) (qs rs : List Whole) (e f : Ending) (P Q : Type 0) → (P → Q → (qs ≡ rs) × (e ≡ f))
    → MatchBool last ((qs ≡ []) × (e ≡ End)) P → MatchBool last ((rs ≡ []) × (f ≡ End)) Q → (qs ≡ rs) × (e ≡ f)
rest_once true qs rs e f P Q go x y = (x.0 ∙ sym y.0, x.1 ∙ sym y.1)
rest_once false qs rs e f P Q go x y = go x y

-- bytes are requests in one way
pub reads_once : (content most : ℕ) (bytes : List ℕ) (qs rs : List Whole) (e f : Ending)
    → RequestBytes content most bytes qs e → RequestBytes content most bytes rs f → (qs ≡ rs) × (e ≡ f)
reads_once content most bytes [] [] e f x y = (refl, ends_once content most bytes e f x y)
reads_once content most bytes [] (r ∷ rs) e f x y =
    absurd (begun_goes_on content most bytes e r.head r.body y.0 y.1 y.2 x)
reads_once content most bytes (q ∷ qs) [] e f x y =
    absurd (begun_goes_on content most bytes f q.head q.body x.0 x.1 x.2 y)
reads_once content most bytes (q ∷ qs) (r ∷ rs) e f x y =
    let first = same_first content bytes q r x.0 y.0 x.2 y.2 in
    let go : RequestBytes content (most - 1) x.0 qs e → RequestBytes content (most - 1) y.0 rs f → (qs ≡ rs) × (e ≡ f) =
    λ u v. reads_once content (most - 1) x.0 qs rs e f u (subst (λ bs. RequestBytes content (most - 1) bs rs f) (sym first.1) v) in
    let y3 = subst (λ (w : Whole). MatchBool w.head.last ((rs ≡ []) × (f ≡ End)) (RequestBytes content (most - 1) y.0 rs f)) (sym first.0) y.3 in
    let rest = rest_once q.head.last qs rs e f _ _ go x.3 y3 in
    ((λ i. first.0 i ∷ rest.0 i), rest.1)
