-- A definition more, or another in its stead, that doesn't lead back to itself.
use Rattle.std.proofs.Common.{◌≡◌, ℕ, suc, ◌+◌, ◌<◌, Bool, true, false, cond, List, [], ◌∷◌, length, get_or, refl, sym, ap, subst, ◌∙◌, arith, Ordering, Less, Equal, Greater, Option, Some, None}
use Rattle.std.specs.Prelude.{All, filter, is_some}
use Rattle.std.specs.Option.{option_map, option_or, option_map_or}
use Rattle.std.specs.List.{find}
use Rattle.std.specs.Str.{bytes_eq}
use Rattle.std.specs.Ordering.{nat_cmp, is_lt}
use Rattle.std.specs.Cmp.Lexicographic.{slice_cmp}
use Rattle.std.proofs.lemmas.Bool.{false≢true}
use Rattle.std.proofs.lemmas.List.Folds.{find-append}
use Rattle.std.proofs.lemmas.List.Elements.{All-nil, All-cons, All-weaker, filter_passes}
use Rattle.arti_rows.specs.declared.rows.RepoDef.{RepoDef}
use Rattle.arti_repos.specs.Definitions.{has_key, definition, put_definition}
use Rattle.arti_repos.specs.Cycles.{members_of, first_way, way_to, cycle}
use Rattle.arti_repos.specs.Ranks.{IsRank, IsAcyclic}
use Rattle.arti_repos.proofs.Keys.{total, to_less, same_at_equal, other_at_less, other_at_greater}
use Rattle.arti_repos.proofs.Places.{less_by}
use Rattle.arti_repos.proofs.Texts.{eq_text, text_eq, none_found, find_kept}
use Rattle.arti_repos.proofs.Ways.{way_is}

or_none : {X : Type 0} (o : Option X) → option_or o None ≡ o
or_none None = refl
or_none (Some x) = refl

module _ (d : RepoDef) (defs : List RepoDef) (k : List ℕ) where
  abbrev less : RepoDef → Bool
  less x = is_lt (slice_cmp nat_cmp x.key d.key)

  abbrev more : RepoDef → Bool
  more x = is_lt (slice_cmp nat_cmp d.key x.key)

  split : definition (put_definition d defs) k ≡ option_or (find (has_key k) (filter less defs)) (cond (has_key k d) (Some d) (find (has_key k) (filter more defs)))
  split = find-append (has_key k) (filter less defs) (d ∷ filter more defs)

  none_less : ((x : RepoDef) → slice_cmp nat_cmp x.key d.key ≡ Less → has_key k x ≡ false) → find (has_key k) (filter less defs) ≡ None
  none_less f =
      none_found (has_key k) (filter less defs)
      (All-weaker (λ (x : RepoDef). less x ≡ true) (λ x. has_key k x ≡ false) (λ x e. f x (less_by (slice_cmp nat_cmp x.key d.key) e)) (filter less defs) (filter_passes less defs))

  none_more : ((x : RepoDef) → slice_cmp nat_cmp d.key x.key ≡ Less → has_key k x ≡ false) → find (has_key k) (filter more defs) ≡ None
  none_more f =
      none_found (has_key k) (filter more defs)
      (All-weaker (λ (x : RepoDef). more x ≡ true) (λ x. has_key k x ≡ false) (λ x e. f x (less_by (slice_cmp nat_cmp d.key x.key) e)) (filter more defs) (filter_passes more defs))

  by_order : (o : Ordering) → slice_cmp nat_cmp d.key k ≡ o → definition (put_definition d defs) k ≡ cond (has_key k d) (Some d) (definition defs k)
  by_order Equal e =
      let here : has_key k d ≡ true = same_at_equal d.key k e in
      let same : d.key ≡ k = eq_text d.key k here in
      split ∙ ap (λ (o : Option RepoDef). option_or o (cond (has_key k d) (Some d) (find (has_key k) (filter more defs)))) (none_less (λ x lt. other_at_less x.key k (ap (slice_cmp nat_cmp x.key) (sym same) ∙ lt)))
      ∙ ap (λ b. cond b (Some d) (find (has_key k) (filter more defs))) here ∙ sym (ap (λ b. cond b (Some d) (definition defs k)) here)
  by_order Less e =
      split ∙ ap (λ (o : Option RepoDef). option_or o (cond (has_key k d) (Some d) (find (has_key k) (filter more defs)))) (none_less (λ x lt. other_at_less x.key k (total.trans x.key d.key k lt e)))
      ∙ ap (λ (o : Option RepoDef). cond (has_key k d) (Some d) o) (find_kept (has_key k) more defs (λ x is. ap (λ (j : List ℕ). is_lt (slice_cmp nat_cmp d.key j)) (eq_text x.key k is) ∙ ap is_lt e))
  by_order Greater e =
      let below : slice_cmp nat_cmp k d.key ≡ Less = to_less d.key k e in
      let other : has_key k d ≡ false = other_at_greater d.key k below in
      split
      ∙ ap (λ (o : Option RepoDef). option_or o (cond (has_key k d) (Some d) (find (has_key k) (filter more defs)))) (find_kept (has_key k) less defs (λ x is. ap (λ (j : List ℕ). is_lt (slice_cmp nat_cmp j d.key)) (eq_text x.key k is) ∙ ap is_lt below))
      ∙ ap (λ b. option_or (definition defs k) (cond b (Some d) (find (has_key k) (filter more defs)))) other
      ∙ ap (λ (o : Option RepoDef). option_or (definition defs k) o) (none_more (λ x lt. other_at_greater x.key k (total.trans k d.key x.key below lt)))
      ∙ or_none (definition defs k) ∙ sym (ap (λ b. cond b (Some d) (definition defs k)) other)

  -- what is found at a key then
  pub found_then : definition (put_definition d defs) k ≡ cond (has_key k d) (Some d) (definition defs k)
  found_then = by_order (slice_cmp nat_cmp d.key k) refl

abbrev Way : Type 0
Way = Option (List (List ℕ))

abbrev top : (List ℕ → ℕ) → List (List ℕ) → ℕ
top rank [] = 0
top rank (m ∷ ms) = rank m + top rank ms

below_top : (rank : List ℕ → ℕ) (ms : List (List ℕ)) → All (λ m. rank m < suc (top rank ms)) ms
below_top rank [] = All-nil (λ m. rank m < 1)
below_top rank (m ∷ ms) =
    All-cons (λ j. rank j < suc (rank m + top rank ms)) m ms (omega arith)
    (All-weaker (λ j. rank j < suc (top rank ms)) (λ j. rank j < suc (rank m + top rank ms)) (λ j lt. omega (arith, lt)) ms (below_top rank ms))

both_by : (a b : Way) → option_or a b ≡ None → (a ≡ None) × (b ≡ None)
both_by None b e = (refl, e)
both_by (Some x) b e = cc

all_none : (f : List ℕ → Way) (ms : List (List ℕ)) → first_way f ms ≡ None → All (λ m. f m ≡ None) ms
all_none f [] none = All-nil (λ m. f m ≡ None)
all_none f (m ∷ ms) none = let both = both_by (f m) (first_way f ms) none in All-cons (λ j. f j ≡ None) m ms both.0 (all_none f ms both.1)

unmapped : (k : List ℕ) (o : Way) → option_map (λ way. k ∷ way) o ≡ None → o ≡ None
unmapped k None e = refl
unmapped k (Some x) e = cc

module _ (defs : List RepoDef) (d : RepoDef) (rank : List ℕ → ℕ) (falls : IsRank defs rank) (none : cycle defs d ≡ None) where
  abbrev ways : List ℕ → Way
  ways = λ m. way_to (length defs) defs d.key m

  abbrev its_rank : ℕ
  its_rank = suc (top rank d.members)

  -- those that lead to the definition stand above it
  abbrev lifted : Bool → Bool → ℕ → ℕ
  lifted true leads n = its_rank
  lifted false true n = n + suc its_rank
  lifted false false n = n

  abbrev new_rank : List ℕ → ℕ
  new_rank k = lifted (bytes_eq k d.key) (is_some (ways k)) (rank k)

  target_leads : (m : List ℕ) → bytes_eq m d.key ≡ true → ways m ≡ None → ⊥
  target_leads m here none_here =
      let way : ways m ≡ Some (m ∷ []) = way_is defs rank d.key falls m ∙ ap (λ b. cond b (Some (m ∷ [])) (option_map (λ way. m ∷ way) (first_way ways (members_of defs m)))) here in cc

  -- one that doesn't lead there keeps its rank
  stays_by : (m : List ℕ) (b : Bool) → bytes_eq m d.key ≡ b → ways m ≡ None → new_rank m ≡ rank m
  stays_by m true e none_here = absurd (target_leads m e none_here)
  stays_by m false e none_here = ap (λ b. lifted b (is_some (ways m)) (rank m)) e ∙ ap (λ (o : Way). lifted false (is_some o) (rank m)) none_here

  stays : (m : List ℕ) → ways m ≡ None → new_rank m ≡ rank m
  stays m none_here = stays_by m (bytes_eq m d.key) refl none_here

  at_most : (b l : Bool) (n : ℕ) → lifted b l n < n + suc (suc its_rank)
  at_most true l n = omega arith
  at_most false true n = omega arith
  at_most false false n = omega arith

  own : All (λ m. new_rank m < its_rank) d.members
  own =
      λ i e lt.
      let m = get_or d.members i e in
      let none_here : ways m ≡ None = all_none ways d.members (unmapped d.key (first_way ways d.members) none) i e lt in
      let low = below_top rank d.members i e lt in
      let same = stays m none_here in omega (arith, low, same)

  way_by_none : (k : List ℕ) → bytes_eq k d.key ≡ false → ways k ≡ None → first_way ways (members_of defs k) ≡ None
  way_by_none k other none_here =
      unmapped k (first_way ways (members_of defs k)) (sym (way_is defs rank d.key falls k ∙ ap (λ b. cond b (Some (k ∷ [])) (option_map (λ way. k ∷ way) (first_way ways (members_of defs k)))) other) ∙ none_here)

  others_by : (k : List ℕ) (o : Way) → bytes_eq k d.key ≡ false → ways k ≡ o → All (λ m. new_rank m < new_rank k) (members_of defs k)
  others_by k None other is =
      λ i e lt.
      let m = get_or (members_of defs k) i e in
      let none_here : ways m ≡ None = all_none ways (members_of defs k) (way_by_none k other is) i e lt in
      let low = falls k i e lt in
      let same = stays m none_here in
      let kept = stays k is in omega (arith, low, same, kept)
  others_by k (Some way) other is =
      λ i e lt.
      let m = get_or (members_of defs k) i e in
      let low = falls k i e lt in
      let high : new_rank k ≡ rank k + suc its_rank = ap (λ b. lifted b (is_some (ways k)) (rank k)) other ∙ ap (λ (o : Way). lifted false (is_some o) (rank k)) is in
      let most = at_most (bytes_eq m d.key) (is_some (ways m)) (rank m) in omega (arith, low, high, most)

  falls_by : (k : List ℕ) (b : Bool) → has_key k d ≡ b → All (λ m. new_rank m < new_rank k) (members_of (put_definition d defs) k)
  falls_by k true is =
      let same : d.key ≡ k = eq_text d.key k is in
      let members : members_of (put_definition d defs) k ≡ d.members = ap (λ (o : Option RepoDef). option_map_or (λ x. x.members) o []) (found_then d defs k ∙ ap (λ b. cond b (Some d) (definition defs k)) is) in
      let high : its_rank ≡ new_rank k = sym (ap (λ b. lifted b (is_some (ways k)) (rank k)) (text_eq k d.key (sym same))) in
      subst (All (λ m. new_rank m < new_rank k)) (sym members) (subst (λ (n : ℕ). All (λ m. new_rank m < n) d.members) high own)
  falls_by k false is =
      let members : members_of (put_definition d defs) k ≡ members_of defs k = ap (λ (o : Option RepoDef). option_map_or (λ x. x.members) o []) (found_then d defs k ∙ ap (λ b. cond b (Some d) (definition defs k)) is) in
      subst (All (λ m. new_rank m < new_rank k)) (sym members) (others_by k (ways k) (turned (bytes_eq k d.key) refl) refl)
    where
      turned : (b : Bool) → bytes_eq k d.key ≡ b → bytes_eq k d.key ≡ false
      turned true e = absurd (false≢true (sym is ∙ text_eq d.key k (sym (eq_text k d.key e))))
      turned false e = e

  pub stays_acyclic : IsAcyclic (put_definition d defs)
  stays_acyclic = (new_rank, λ k. falls_by k (has_key k d) refl)
