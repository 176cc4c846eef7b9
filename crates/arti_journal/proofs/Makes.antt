-- What a crash leaves while a journal is made.
use Rattle.std.proofs.Common.{refl, ◌≡◌, ◌≢◌, ℕ, ◌≤◌, List, [], ◌∷◌, ◌++◌, length, take, drop, sym, ◌∙◌, ap, subst, arith}
use Rattle.std.proofs.lemmas.List.{length-take}
use Rattle.arti_ground.specs.State.{Bytes, State, Holds, Cut, In, Follows, IsDurable, Passes, DiskTime, Writing}
use Rattle.arti_ground.specs.Moments.{passes_map, passes_then}
use Rattle.std.proofs.lemmas.List.Elements.{All-nil}
use Rattle.arti_journal.specs.Journal.{IsBody, header, StandsFor, HoldsJournal}
use Rattle.arti_journal.specs.Parts.{IsUnmade, Making}

-- an image that comes from one of the start, with the file still short
record From (start : State) (file : ℕ) (c : Bytes) : Type 0 where
  from : Bytes
  was : start.may_leave from
  others : (f : ℕ) → f ≢ file → c f ≡ from f
  short : length (c file) ≤ 17

-- the bytes that are written first
abbrev pub unmade_bytes : List ℕ
unmade_bytes = 65 ∷ 82 ∷ 84 ∷ 73 ∷ 74 ∷ 78 ∷ 76 ∷ 49 ∷ 0 ∷ 0 ∷ 0 ∷ 0 ∷ 0 ∷ 0 ∷ 0 ∷ 0 ∷ 0 ∷ []

cut_short : (old new : List ℕ) → Cut 0 old new → length old ≤ 17 → length new ≤ 17
cut_short old new cut le = omega (arith, ap length cut.front, length-take (length new) old)

module _ (start cut : State) (file : ℕ) (unmade : IsUnmade start file) (told : cut.told ≡ start.told) (images : Follows (In file (Cut 0)) start cut) where
  origin : (c : Bytes) → cut.may_leave c → From start file c
  origin c left =
      let step = images c left in
      record { from = step.0; was = step.1; others = step.2.others; short = cut_short (step.0 file) (c file) step.2.here (unmade.images step.0 step.1) }

  cut_moments : DiskTime start cut → Passes start cut (Making start file)
  cut_moments = passes_map start cut (λ c w. cut.may_leave c × (w ≡ start.told)) (Making start file) (λ c w at.
      let o = origin c at.0 in record { told = at.1; from = o.from; was = o.was; others = o.others; short = o.short })

  write_moments : (mid : State) → Passes cut mid (Writing cut file 0 17) → Passes cut mid (Making start file)
  write_moments mid = passes_map cut mid (Writing cut file 0 17) (Making start file) (λ c w at.
      let o = origin at.from at.was in
      record {
        told = at.told ∙ told;
        from = o.from;
        was = o.was;
        others = λ f ne. at.torn.others f ne ∙ o.others f ne;
        short = omega (arith, at.torn.here.no_longer, o.short);
      })

  pub first_moments : (mid : State) → DiskTime start cut → Passes cut mid (Writing cut file 0 17) → Passes start mid (Making start file)
  first_moments mid time write = passes_then start cut mid (Making start file) (cut_moments time) (write_moments mid write)

  module _ (mid : State) (stays : cut.may_leave cut.files) (emptied : cut.files file ≡ []) (written : In file (λ old new. Holds old 0 unmade_bytes new) cut.files mid.files) (durable : IsDurable mid) (mid_told : mid.told ≡ cut.told) where
    has : mid.files file ≡ unmade_bytes
    has = written.here ∙ ap (λ (l : List ℕ). take 0 l ++ unmade_bytes ++ drop 17 l) emptied

    gate_moments : (end : State) → Passes mid end (Writing mid file 8 1) → Passes mid end (Making start file)
    gate_moments end = passes_map mid end (Writing mid file 8 1) (Making start file) (λ c w at.
        let o = origin cut.files stays in
        let from_mid : at.from ≡ mid.files = durable at.from at.was in
        record {
          told = at.told ∙ mid_told ∙ told;
          from = o.from;
          was = o.was;
          others = λ f ne. at.torn.others f ne ∙ ap (λ (b : Bytes). b f) from_mid ∙ written.others f ne ∙ o.others f ne;
          short = omega (arith, at.torn.here.no_longer, ap (λ (b : Bytes). length (b file)) from_mid, ap length has);
        })

    pub all_moments : (end : State) → DiskTime start cut → Passes cut mid (Writing cut file 0 17) → Passes mid end (Writing mid file 8 1) → Passes start end (Making start file)
    all_moments end time write gate = passes_then start mid end (Making start file) (first_moments mid time write) (gate_moments end gate)

    pub made : (end : State) → In file (λ old new. Holds old 8 (1 ∷ []) new) mid.files end.files → IsDurable end → HoldsJournal end file 17 []
    unfolding header
    made end opens lasting =
        let is : end.files file ≡ header ++ 0 ∷ [] = opens.here ∙ ap (λ (l : List ℕ). take 8 l ++ (1 ∷ []) ++ drop 9 l) has in
        let stands : StandsFor [] (end.files file) = record { gate = 0; rest = []; shut = omega arith; fits = All-nil IsBody; whole = is } in
        record { reads = stands; images = λ c left. subst (λ (b : Bytes). StandsFor [] (b file)) (sym (lasting c left)) stands; length_is = refl }
