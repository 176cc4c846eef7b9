-- The search for a chain back.
use Rattle.std.proofs.Common.{◌≡◌, ℕ, ◌+◌, ◌<◌, Bool, true, false, cond, List, [], ◌∷◌, ◌++◌, length, length-append, refl, sym, ap, subst, ◌∙◌, arith, ◌⊎◌, inl, inr, ⊎_elim, Option, Some, None}
use Rattle.std.specs.Prelude.{All, ◌||◌}
use Rattle.std.specs.Option.{option_map, option_or, option_map_or}
use Rattle.std.specs.Str.{bytes_eq}
use Rattle.std.proofs.lemmas.Bool.{false≢true}
use Rattle.std.proofs.lemmas.List.Elements.{All-head, All-tail, All-weaker}
use Rattle.arti_rows.specs.declared.rows.RepoDef.{RepoDef}
use Rattle.arti_repos.specs.declared.frame.Frame.{Frame}
use Rattle.arti_repos.specs.Definitions.{has_key}
use Rattle.arti_repos.specs.Cycles.{members_of, first_way, way_to, cycle}
use Rattle.arti_repos.specs.Ranks.{IsRank}
use Rattle.arti_repos.specs.Frames.{pending, led, path_of, IsDone, Takes}
use Rattle.arti_repos.specs.Met.{was_met, owed, IsOld, Meets}
use Rattle.arti_repos.proofs.Texts.{eq_text, found_passes}
use Rattle.arti_repos.proofs.Framing.{pending_end, led_end}
use Rattle.arti_repos.proofs.Marking.{none_was}
use Rattle.arti_repos.proofs.Ways.{way_is}

abbrev Way : Type 0
Way = Option (List (List ℕ))

pub or_cases : {G : Type 0} (a b : Bool) → (a || b) ≡ true → (a ≡ true → G) → (b ≡ true → G) → G
or_cases true b e f g = f refl
or_cases false b e f g = g e

map_twice : (front : List (List ℕ)) (m : List ℕ) (o : Way) → option_map (λ way. front ++ m ∷ way) o ≡ option_map (λ way. front ++ way) (option_map (λ way. m ∷ way) o)
map_twice front m None = refl
map_twice front m (Some way) = refl

module _ (defs : List RepoDef) (d : RepoDef) where
  abbrev ways : List ℕ → Way
  ways = λ m. way_to (length defs) defs d.key m

  -- the key doesn't lead back, at the latest when these were looked at and don't
  abbrev pub Fails : (List ℕ → ℕ) → List ℕ → List (List ℕ) → Type 0
  Fails rank k [] = ways k ≡ None
  Fails rank k (p ∷ ps) = (ways k ≡ None) ⊎ ((rank p < rank k) × (ways p ≡ None → Fails rank k ps))

  fails_done : (rank : List ℕ → ℕ) (k : List ℕ) (ps : List (List ℕ)) → ways k ≡ None → Fails rank k ps
  fails_done rank k [] none = none
  fails_done rank k (p ∷ ps) none = inl none

  fails_more : (rank : List ℕ → ℕ) (k : List ℕ) (ms ps : List (List ℕ)) → All (λ m. rank m < rank k) ms → (first_way ways ms ≡ None → Fails rank k ps) → Fails rank k (ms ++ ps)
  fails_more rank k [] ps all f = f refl
  fails_more rank k (m ∷ ms) ps all f =
      inr (All-head (λ j. rank j < rank k) m ms all, λ none. fails_more rank k ms ps (All-tail (λ j. rank j < rank k) m ms all) (λ rest. f (ap (λ (o : Way). option_or o (first_way ways ms)) none ∙ rest)))

  seen_fails : (rank : List ℕ → ℕ) (k : List ℕ) (ps : List (List ℕ)) → Fails rank k (k ∷ ps) → ways k ≡ None
  seen_fails rank k ps f = ⊎_elim (λ none. none) (λ h. absurd (omega (arith, h.0))) f

  next_fails : (rank : List ℕ → ℕ) (k m : List ℕ) (ps : List (List ℕ)) → ways m ≡ None → Fails rank k (m ∷ ps) → Fails rank k ps
  next_fails rank k m ps none f = ⊎_elim (λ done. fails_done rank k ps done) (λ h. h.1 none) f

  -- the frames lead as the definition does, and those that were met lead nowhere else
  pub record Searching (frames : List Frame) (flags : List Bool) : Type 0 where
    pub count : length flags ≡ length defs
    pub leads : led ways frames ≡ cycle defs d
    pub met : (rank : List ℕ → ℕ) → IsRank defs rank → (k : List ℕ) → was_met defs flags k ≡ true → Fails rank k (pending frames)

  pub begun : (f : Frame) (met : List Bool) → f.key.now ≡ d.key → f.rest.now ≡ d.members → length met ≡ length defs → All (λ b. b ≡ false) met → Searching (f ∷ []) met
  begun f met key rest long none = record {
    count = long;
    leads = ap (λ (k : List ℕ). option_map (λ way. k ∷ way) (first_way ways f.rest.now)) key ∙ ap (λ (l : List (List ℕ)). option_map (λ way. d.key ∷ way) (first_way ways l)) rest;
    met = λ rank falls k was. absurd (false≢true (sym (none_was defs met k none) ∙ was));
  }

  module _ (rank : List ℕ → ℕ) (falls : IsRank defs rank) where
    -- the key itself
    pub arrived : (frames left : List Frame) (met : List Bool) (m : List ℕ) → Searching frames met → Takes frames m left → bytes_eq m d.key ≡ true → Some (path_of left ++ m ∷ []) ≡ cycle defs d
    arrived frames left met m s t here =
        let way : ways m ≡ Some (m ∷ []) = way_is defs rank d.key falls m ∙ ap (λ b. cond b (Some (m ∷ [])) (option_map (λ way. m ∷ way) (first_way ways (members_of defs m)))) here in
        sym (ap (λ (o : Way). option_or (option_map (λ way. path_of left ++ way) o) (led ways left)) way) ∙ sym (t.led ways) ∙ s.leads

    through : (m : List ℕ) → bytes_eq m d.key ≡ false → ways m ≡ option_map (λ way. m ∷ way) (first_way ways (members_of defs m))
    through m other = way_is defs rank d.key falls m ∙ ap (λ b. cond b (Some (m ∷ [])) (option_map (λ way. m ∷ way) (first_way ways (members_of defs m)))) other

    old_fails : (met : List Bool) (m : List ℕ) (ps : List (List ℕ)) → bytes_eq m d.key ≡ false → IsOld defs met m → (was_met defs met m ≡ true → Fails rank m (m ∷ ps)) → ways m ≡ None
    old_fails met m ps other old fails =
        ⊎_elim (λ none. through m other ∙ ap (λ (o : Option RepoDef). option_map (λ way. m ∷ way) (first_way ways (option_map_or (λ e. e.members) o []))) none) (λ was. seen_fails rank m ps (fails was)) old

    -- one that has no definition, or was met before
    pub passed : (frames left : List Frame) (met : List Bool) (m : List ℕ) → Searching frames met → Takes frames m left → bytes_eq m d.key ≡ false → IsOld defs met m → Searching left met
    passed frames left met m s t other old =
        let none : ways m ≡ None = old_fails met m (pending left) other old (λ was. subst (Fails rank m) t.pending (s.met rank falls m was)) in record {
          count = s.count;
          leads = sym (t.led ways ∙ ap (λ (o : Way). option_or (option_map (λ way. path_of left ++ way) o) (led ways left)) none) ∙ s.leads;
          met = λ r f k was. next_fails r k m (pending left) none (subst (Fails r k) t.pending (s.met r f k was));
        }

    -- one that is met for the first time
    pub entered : (frames left : List Frame) (met new : List Bool) (m : List ℕ) (e : RepoDef) (f : Frame) → Searching frames met → Takes frames m left → bytes_eq m d.key ≡ false → Meets defs met m e new
        → f.key.now ≡ e.key → f.rest.now ≡ e.members → length new ≡ length defs → Searching (left ++ f ∷ []) new
    entered frames left met new m e f s t other meets key rest long =
        let its : e.key ≡ m = eq_text e.key m (found_passes (has_key m) defs e meets.is) in
        let members : members_of defs m ≡ e.members = ap (λ (o : Option RepoDef). option_map_or (λ x. x.members) o []) meets.is in
        let way : ways m ≡ option_map (λ way. m ∷ way) (first_way ways e.members) = through m other ∙ ap (λ (l : List (List ℕ)). option_map (λ way. m ∷ way) (first_way ways l)) members in
        let left_is : pending (left ++ f ∷ []) ≡ e.members ++ pending left = pending_end left f ∙ ap (λ (l : List (List ℕ)). l ++ pending left) rest in
        let fails : first_way ways e.members ≡ None → ways m ≡ None = λ none. way ∙ ap (option_map (λ w. m ∷ w)) none in record {
          count = long;
          leads =
              led_end ways left f
              ∙ ap (λ (k : List ℕ). option_or (option_map (λ w. path_of left ++ k ∷ w) (first_way ways f.rest.now)) (led ways left)) (key ∙ its)
              ∙ ap (λ (l : List (List ℕ)). option_or (option_map (λ w. path_of left ++ m ∷ w) (first_way ways l)) (led ways left)) rest
              ∙ ap (λ (o : Way). option_or o (led ways left)) (map_twice (path_of left) m (first_way ways e.members))
              ∙ ap (λ (o : Way). option_or (option_map (λ w. path_of left ++ w) o) (led ways left)) (sym way)
              ∙ sym (t.led ways) ∙ s.leads;
          met = λ r g k was.
              let falling : All (λ j. r j < r m) e.members = subst (All (λ j. r j < r m)) members (g m) in
              subst (Fails r k) (sym left_is)
              (or_cases (was_met defs met k) (has_key k e) (sym (meets.met k) ∙ was)
              (λ before.
              ⊎_elim (λ done. fails_done r k (e.members ++ pending left) done)
              (λ h. fails_more r k e.members (pending left) (All-weaker (λ j. r j < r m) (λ j. r j < r k) (λ j lt. omega (arith, lt, h.0)) e.members falling) (λ none. h.1 (fails none)))
              (subst (Fails r k) t.pending (s.met r g k before)))
              (λ now. subst (λ (j : List ℕ). Fails r j (e.members ++ pending left)) (sym its ∙ eq_text e.key k now) (fails_more r m e.members (pending left) falling (λ none. fails_done r m (pending left) (fails none)))));
        }

  pub ended : (frames : List Frame) (met : List Bool) → Searching frames met → IsDone frames → None ≡ cycle defs d
  ended frames met s done = sym (done.led ways) ∙ s.leads

  pub passed_less : (frames left : List Frame) (met : List Bool) (m : List ℕ) → Takes frames m left → owed defs met + length (pending left) < owed defs met + length (pending frames)
  passed_less frames left met m t = let long : length (pending frames) ≡ length (m ∷ pending left) = ap length t.pending in omega (arith, long)

  pub entered_less : (frames left : List Frame) (met new : List Bool) (m : List ℕ) (e : RepoDef) (f : Frame) → Takes frames m left → Meets defs met m e new → f.rest.now ≡ e.members
      → owed defs new + length (pending (left ++ f ∷ [])) < owed defs met + length (pending frames)
  entered_less frames left met new m e f t meets rest =
      let long : length (pending frames) ≡ length (m ∷ pending left) = ap length t.pending in
      let more : length (pending (left ++ f ∷ [])) ≡ length e.members + length (pending left) =
      ap length (pending_end left f ∙ ap (λ (l : List (List ℕ)). l ++ pending left) rest) ∙ length-append e.members (pending left) in
      let paid = meets.owed in omega (arith, long, more, paid)
