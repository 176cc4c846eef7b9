-- The walk over the keys that are still to be looked at.
use Rattle.std.proofs.Common.{◌≡◌, ℕ, ◌+◌, ◌<◌, Bool, true, false, cond, List, [], ◌∷◌, ◌++◌, length, length-append, append_assoc, refl, sym, ap, subst, ◌∙◌, arith, ◌⊎◌, inl, inr, ⊎_elim, Option, Some}
use Rattle.std.specs.Prelude.{All, ◌||◌}
use Rattle.std.specs.Option.{option_map_or}
use Rattle.std.specs.List.{flat_map, list_any}
use Rattle.std.proofs.lemmas.Bool.{false≢true}
use Rattle.std.proofs.lemmas.Grind.{flat_map-append}
use Rattle.std.proofs.lemmas.List.{append-nil}
use Rattle.std.proofs.lemmas.List.Folds.{list_any-append}
use Rattle.std.proofs.lemmas.List.Elements.{All-nil, All-cons, All-head, All-tail, All-weaker}
use Rattle.arti_rows.specs.declared.rows.Class.TheVariants.{Virtual}
use Rattle.arti_rows.specs.declared.rows.RepoDef.{RepoDef}
use Rattle.arti_repos.specs.Definitions.{is_of, has_key}
use Rattle.arti_repos.specs.Walks.{expanded, expand, firsts, leaves}
use Rattle.arti_repos.specs.Cycles.{members_of}
use Rattle.arti_repos.specs.Ranks.{IsRank}
use Rattle.arti_repos.specs.Met.{was_met, owed, IsOld, Meets}
use Rattle.arti_repos.specs.Visits.{coming, itself, Visits}
use Rattle.arti_repos.proofs.Texts.{eq_text, text_eq, found_passes, or_true, or_front}
use Rattle.arti_repos.proofs.Marking.{none_was}
use Rattle.arti_repos.proofs.Expanding.{expand_is}
use Rattle.arti_repos.proofs.Searching.{or_cases}

-- a definition of that key is among them
abbrev has : List RepoDef → List ℕ → Bool
has found key = list_any (has_key key) found

abbrev AllIn : List RepoDef → List RepoDef → Type 0
AllIn found xs = All (λ (x : RepoDef). has found x.key ≡ true) xs

abbrev Contained : List RepoDef → List RepoDef → Type 0
Contained a b = (j : List ℕ) → has a j ≡ true → has b j ≡ true

either : (a b : List RepoDef) (j : List ℕ) → has (a ++ b) j ≡ (has a j || has b j)
either a b j = list_any-append (has_key j) a b

fronts : (a b : List RepoDef) → Contained a (a ++ b)
fronts a b j h = either a b j ∙ or_front (has a j) (has b j) h

backs : (a b : List RepoDef) → Contained b (a ++ b)
backs a b j h = either a b j ∙ or_true (has a j) (has b j) h

joined : (a b c : List RepoDef) → Contained a c → Contained b c → Contained (a ++ b) c
joined a b c f g j h = or_cases (has a j) (has b j) (sym (either a b j) ∙ h) (f j) (g j)

all_in_more : (a b xs : List RepoDef) → Contained a b → AllIn a xs → AllIn b xs
all_in_more a b xs more all = All-weaker (λ (x : RepoDef). has a x.key ≡ true) (λ x. has b x.key ≡ true) (λ x h. more x.key h) xs all

within : (found xs : List RepoDef) → AllIn found xs → Contained xs found
within found [] all j h = absurd (false≢true h)
within found (x ∷ xs) all j h =
    or_cases (has_key j x) (has xs j) h (λ here. subst (λ (k : List ℕ). has found k ≡ true) (eq_text x.key j here) (All-head (λ (y : RepoDef). has found y.key ≡ true) x xs all))
    (λ rest. within found xs (All-tail (λ (y : RepoDef). has found y.key ≡ true) x xs all) j rest)

themselves : (xs : List RepoDef) → AllIn xs xs
themselves [] = All-nil (λ (y : RepoDef). has [] y.key ≡ true)
themselves (x ∷ xs) =
    All-cons (λ (y : RepoDef). has (x ∷ xs) y.key ≡ true) x xs (or_front (has_key x.key x) (has xs x.key) (text_eq x.key x.key refl))
    (all_in_more xs (x ∷ xs) xs (λ j h. or_true (has_key j x) (has xs j) h) (themselves xs))

-- those that stand earlier are left out
left_out : (found xs ys : List RepoDef) → AllIn found xs → firsts found (xs ++ ys) ≡ firsts found ys
left_out found [] ys all = refl
left_out found (x ∷ xs) ys all =
    ap (λ b. cond b (firsts found (xs ++ ys)) (x ∷ firsts (found ++ x ∷ []) (xs ++ ys))) (All-head (λ (y : RepoDef). has found y.key ≡ true) x xs all)
    ∙ left_out found xs ys (All-tail (λ (y : RepoDef). has found y.key ≡ true) x xs all)

module _ (defs : List RepoDef) (root : List ℕ) where
  abbrev those : List ℕ → List RepoDef
  those = λ k. expand (length defs) defs k

  -- what a key stands for is found, at the latest when these were looked at
  abbrev pub Shown : (List ℕ → ℕ) → List RepoDef → List ℕ → List (List ℕ) → Type 0
  Shown rank found k [] = AllIn found (those k)
  Shown rank found k (p ∷ ps) = AllIn found (those k) ⊎ ((rank p < rank k) × Shown rank (found ++ those p) k ps)

  shown_done : (rank : List ℕ → ℕ) (found : List RepoDef) (k : List ℕ) (ps : List (List ℕ)) → AllIn found (those k) → Shown rank found k ps
  shown_done rank found k [] all = all
  shown_done rank found k (p ∷ ps) all = inl all

  shown_wider : (rank : List ℕ → ℕ) (a b : List RepoDef) (k : List ℕ) (ps : List (List ℕ)) → Contained a b → Shown rank a k ps → Shown rank b k ps
  shown_wider rank a b k [] more s = all_in_more a b (those k) more s
  shown_wider rank a b k (p ∷ ps) more s =
      ⊎_elim (λ all. inl (all_in_more a b (those k) more all))
      (λ h. inr (h.0, shown_wider rank (a ++ those p) (b ++ those p) k ps (joined a (those p) (b ++ those p) (λ j g. fronts b (those p) j (more j g)) (backs b (those p))) h.1)) s

  shown_more : (rank : List ℕ → ℕ) (found : List RepoDef) (k : List ℕ) (ms ps : List (List ℕ)) → All (λ m. rank m < rank k) ms → Shown rank (found ++ flat_map those ms) k ps → Shown rank found k (ms ++ ps)
  shown_more rank found k [] ps all s = subst (λ (l : List RepoDef). Shown rank l k ps) (append-nil found) s
  shown_more rank found k (m ∷ ms) ps all s =
      inr (
        All-head (λ j. rank j < rank k) m ms all,
        shown_more rank (found ++ those m) k ms ps (All-tail (λ j. rank j < rank k) m ms all) (subst (λ (l : List RepoDef). Shown rank l k ps) (sym (append_assoc found (those m) (flat_map those ms))) s),
      )

  seen_shown : (rank : List ℕ → ℕ) (found : List RepoDef) (k : List ℕ) (ps : List (List ℕ)) → Shown rank found k (k ∷ ps) → AllIn found (those k)
  seen_shown rank found k ps s = ⊎_elim (λ all. all) (λ h. absurd (omega (arith, h.0))) s

  -- what is found and what is left make up the whole, and those that were met are found already
  pub record Walked (flags : List Bool) (left : List (List ℕ)) (found : List RepoDef) : Type 0 where
    pub whole : found ++ firsts found (flat_map those left) ≡ leaves defs root
    pub known : (k : List ℕ) → has found k ≡ true → was_met defs flags k ≡ true
    pub met : (rank : List ℕ → ℕ) → IsRank defs rank → (k : List ℕ) → was_met defs flags k ≡ true → Shown rank found k left

  pub begun : (met : List Bool) → All (λ b. b ≡ false) met → Walked met (root ∷ []) []
  begun met none = record {
    whole = ap (firsts []) (append-nil (those root));
    known = λ k h. absurd (false≢true h);
    met = λ rank falls k was. absurd (false≢true (sym (none_was defs met k none) ∙ was));
  }

  pub ended : (met : List Bool) (left : List (List ℕ)) (found : List RepoDef) → Walked met left found → left ≡ [] → found ≡ leaves defs root
  ended met left found w none =
      sym (append-nil found) ∙ ap (λ (l : List (List ℕ)). found ++ firsts found (flat_map those l)) (sym none) ∙ w.whole

  module _ (rank : List ℕ → ℕ) (falls : IsRank defs rank) where
    old_shown : (met : List Bool) (m : List ℕ) (left : List (List ℕ)) (found : List RepoDef) → Walked met (m ∷ left) found → IsOld defs met m → AllIn found (those m)
    old_shown met m left found w old =
        ⊎_elim (λ none. subst (AllIn found) (sym (expand_is defs rank falls m ∙ ap (expanded those) none)) (All-nil (λ (x : RepoDef). has found x.key ≡ true)))
        (λ was. seen_shown rank found m left (w.met rank falls m was)) old

    pub passed : (met : List Bool) (m : List ℕ) (left : List (List ℕ)) (found : List RepoDef) → Walked met (m ∷ left) found → IsOld defs met m → Walked met left found
    passed met m left found w old =
        let all = old_shown met m left found w old in record {
          whole = ap (λ (l : List RepoDef). found ++ l) (sym (left_out found (those m) (flat_map those left) all)) ∙ w.whole;
          known = w.known;
          met = λ r g k was.
              ⊎_elim (λ done. shown_done r found k left done)
              (λ h. shown_wider r (found ++ those m) found k left (joined found (those m) found (λ j x. x) (within found (those m) all)) h.1)
              (w.met r g k was);
        }

    module _ (met new : List Bool) (m : List ℕ) (left : List (List ℕ)) (found : List RepoDef) (d : RepoDef) (w : Walked met (m ∷ left) found) (meets : Meets defs met m d new) where
      its : d.key ≡ m
      its = eq_text d.key m (found_passes (has_key m) defs d meets.is)

      those_are : those m ≡ expanded those (Some d)
      those_are = expand_is defs rank falls m ∙ ap (expanded those) meets.is

      members : members_of defs m ≡ d.members
      members = ap (λ (o : Option RepoDef). option_map_or (λ x. x.members) o []) meets.is

      was_new : (k : List ℕ) → was_met defs met k ≡ true → was_met defs new k ≡ true
      was_new k was = meets.met k ∙ or_front (was_met defs met k) (has_key k d) was

      virtual : is_of Virtual d ≡ true → Walked new (d.members ++ left) found
      virtual is =
          let flat : those m ≡ flat_map those d.members = those_are ∙ ap (λ b. cond b (flat_map those d.members) (d ∷ [])) is in record {
            whole =
                ap (λ (l : List RepoDef). found ++ firsts found l) (flat_map-append those d.members left)
                ∙ ap (λ (l : List RepoDef). found ++ firsts found (l ++ flat_map those left)) (sym flat) ∙ w.whole;
            known = λ k h. was_new k (w.known k h);
            met = λ r g k was.
                let falling : All (λ j. r j < r m) d.members = subst (All (λ j. r j < r m)) members (g m) in
                or_cases (was_met defs met k) (has_key k d) (sym (meets.met k) ∙ was)
                (λ before.
                ⊎_elim (λ done. shown_done r found k (d.members ++ left) done)
                (λ h.
                shown_more r found k d.members left (All-weaker (λ j. r j < r m) (λ j. r j < r k) (λ j lt. omega (arith, lt, h.0)) d.members falling)
                (subst (λ (l : List RepoDef). Shown r (found ++ l) k left) flat h.1))
                (w.met r g k before))
                (λ now.
                subst (λ (j : List ℕ). Shown r found j (d.members ++ left)) (sym its ∙ eq_text d.key k now)
                (shown_more r found m d.members left falling
                (shown_done r (found ++ flat_map those d.members) m left
                (subst (AllIn (found ++ flat_map those d.members)) (sym flat) (all_in_more (flat_map those d.members) (found ++ flat_map those d.members) (flat_map those d.members) (backs found (flat_map those d.members)) (themselves (flat_map those d.members)))))));
          }

      not_found : (b : Bool) → has found d.key ≡ b → has found d.key ≡ false
      not_found true e = absurd (false≢true (sym meets.fresh ∙ w.known m (ap (has found) (sym its) ∙ e)))
      not_found false e = e

      leaf : is_of Virtual d ≡ false → Walked new left (found ++ d ∷ [])
      leaf is =
          let one : those m ≡ d ∷ [] = those_are ∙ ap (λ b. cond b (flat_map those d.members) (d ∷ [])) is in record {
            whole =
                append_assoc found (d ∷ []) (firsts (found ++ d ∷ []) (flat_map those left))
                ∙ ap (λ b. found ++ cond b (firsts found (flat_map those left)) (d ∷ firsts (found ++ d ∷ []) (flat_map those left))) (sym (not_found (has found d.key) refl))
                ∙ ap (λ (l : List RepoDef). found ++ firsts found (l ++ flat_map those left)) (sym one) ∙ w.whole;
            known = λ k h.
                or_cases (has found k) (has (d ∷ []) k) (sym (either found (d ∷ []) k) ∙ h) (λ before. was_new k (w.known k before))
                (λ now. or_cases (has_key k d) false now (λ here. meets.met k ∙ or_true (was_met defs met k) (has_key k d) here) (λ never. absurd (false≢true never)));
            met = λ r g k was.
                or_cases (was_met defs met k) (has_key k d) (sym (meets.met k) ∙ was)
                (λ before.
                ⊎_elim (λ done. shown_done r (found ++ d ∷ []) k left (all_in_more found (found ++ d ∷ []) (those k) (fronts found (d ∷ [])) done))
                (λ h. subst (λ (l : List RepoDef). Shown r (found ++ l) k left) one h.1)
                (w.met r g k before))
                (λ now.
                subst (λ (j : List ℕ). Shown r (found ++ d ∷ []) j left) (sym its ∙ eq_text d.key k now)
                (shown_done r (found ++ d ∷ []) m left
                (subst (AllIn (found ++ d ∷ [])) (sym one) (all_in_more (d ∷ []) (found ++ d ∷ []) (d ∷ []) (backs found (d ∷ [])) (themselves (d ∷ []))))));
          }

      abbrev Goes : List (List ℕ) → List RepoDef → Type 0
      Goes l f = Walked new l f

      by_class : (b : Bool) → is_of Virtual d ≡ b → Walked new (coming d ++ left) (found ++ itself d)
      by_class true is =
          subst (λ (l : List (List ℕ)). Goes (l ++ left) (found ++ itself d)) (sym (ap (λ b. cond b d.members []) is))
          (subst (λ (f : List RepoDef). Goes (d.members ++ left) f) (sym (append-nil found) ∙ ap (λ b. found ++ cond b [] (d ∷ [])) (sym is)) (virtual is))
      by_class false is =
          subst (λ (l : List (List ℕ)). Goes (l ++ left) (found ++ itself d)) (sym (ap (λ b. cond b d.members []) is))
          (subst (λ (f : List RepoDef). Goes left f) (ap (λ b. found ++ cond b [] (d ∷ [])) (sym is)) (leaf is))

    pub visited : (met new : List Bool) (m : List ℕ) (left after : List (List ℕ)) (found more : List RepoDef) → Walked met (m ∷ left) found → Visits defs m met left found new after more → Walked new after more
    visited met new m left after found more w v =
        ⊎_elim (λ s. subst (λ l. Walked l after more) (sym s.met) (subst (λ (l : List (List ℕ)). Walked met l more) (sym s.left) (subst (λ (f : List RepoDef). Walked met left f) (sym s.found) (passed met m left found w s.old))))
        (λ e. subst (λ (l : List (List ℕ)). Walked new l more) (sym e.1.left) (subst (λ (f : List RepoDef). Walked new (coming e.0 ++ left) f) (sym e.1.found) (by_class met new m left found e.0 w e.1.meets (is_of Virtual e.0) refl)))
        v

  coming_less : (b : Bool) (d : RepoDef) → length (cond b d.members []) < length d.members + 1
  coming_less true d = omega arith
  coming_less false d = omega arith

  pub lessened : (met new : List Bool) (m : List ℕ) (left after : List (List ℕ)) (found more : List RepoDef) → Visits defs m met left found new after more
      → owed defs new + length after < owed defs met + length (m ∷ left)
  lessened met new m left after found more v =
      ⊎_elim (λ s. let a : length after ≡ length left = ap length s.left in let b : owed defs new ≡ owed defs met = ap (owed defs) s.met in omega (arith, a, b))
      (λ e.
      let a : length after ≡ length (coming e.0) + length left = ap length e.1.left ∙ length-append (coming e.0) left in
      let b = e.1.meets.owed in let c = coming_less (is_of Virtual e.0) e.0 in omega (arith, a, b, c))
      v
