-- The two halves of an append, and what a crash leaves in each.
use Rattle.std.proofs.Common.{arith, ◌-◌, ◌≡◌, ◌≢◌, ℕ, ◌+◌, List, [], ◌∷◌, ◌++◌, length, drop, sym, ◌∙◌, subst, inl, inr, ◌⊎◌, ⊎_elim}
use Rattle.arti_ground.specs.State.{Bytes, State, Holds, Torn, In, IsDurable, Passes, Writing}
use Rattle.arti_ground.specs.Moments.{passes_map, passes_then}
use Rattle.arti_journal.specs.Journal.{IsBody, opened, StandsFor, HoldsJournal, IsBefore, IsAfter, Appending, Appended}
use Rattle.arti_journal.specs.Parts.{framed}
use Rattle.arti_journal.proofs.Bytes.{torn_behind, written_behind, torn_gate, written_gate, stands_either, stands_open, length-opened}

-- in each outcome of a write behind the closed gate the bytes stand for the same
torn_stands : (bodies : List (List ℕ)) (bytes c : List ℕ) (n : ℕ) → StandsFor bodies bytes → Torn (length (opened bodies) + 1) n bytes c → StandsFor bodies c
torn_stands bodies bytes c n stands torn = record {
  gate = stands.gate;
  rest = drop (length (opened bodies) + 1) c;
  shut = stands.shut;
  fits = stands.fits;
  whole = torn_behind (opened bodies) stands.gate stands.rest n c (subst (λ (l : List ℕ). Torn (length (opened bodies) + 1) n l c) stands.whole torn);
}

module _ (start mid : State) (file used : ℕ) (bodies : List (List ℕ)) (body : List ℕ) (holds : HoldsJournal start file used bodies) (one : IsBody body) where
  abbrev P : Bytes → Bytes → Type 0
  P = Appending start file bodies body

  pub first_half : (at n : ℕ) → at ≡ length (opened bodies) + 1 → Passes start mid (Writing start file at n) → Passes start mid P
  first_half at n is passes = passes_map start mid (Writing start file at n) P (λ c w writing. record {
    told = writing.told;
    image = inl (record {
      from = writing.from;
      was = writing.was;
      others = writing.torn.others;
      stands = torn_stands bodies (writing.from file) (c file) n (holds.images writing.from writing.was) (subst (λ (k : ℕ). Torn k n (writing.from file) (c file)) is writing.torn.here);
    });
  }) passes

  module _ (written : In file (λ old new. Holds old (length (opened bodies) + 1) (framed body) new) start.files mid.files) (durable : IsDurable mid) (told : mid.told ≡ start.told) where
    behind : List ℕ
    behind = drop (length (opened bodies) + 1 + length (framed body)) (opened bodies ++ holds.reads.gate ∷ holds.reads.rest)

    -- between the halves the framed body stands behind the closed gate
    staged : mid.files file ≡ opened bodies ++ holds.reads.gate ∷ (framed body ++ behind)
    unfolding behind
    staged = written_behind (opened bodies) holds.reads.gate holds.reads.rest (framed body) (mid.files file)
        (subst (λ (l : List ℕ). Holds l (length (opened bodies) + 1) (framed body) (mid.files file)) holds.reads.whole written.here)

    others : (c : Bytes) → ((f : ℕ) → f ≢ file → c f ≡ mid.files f) → (f : ℕ) → f ≢ file → c f ≡ start.files f
    others c same f ne = same f ne ∙ written.others f ne

    outcome : (c : Bytes) → start.may_leave start.files → In file (Torn (length (opened bodies)) 1) mid.files c → IsBefore start file bodies c ⊎ IsAfter start file bodies body c
    outcome c stays torn =
        let here : Torn (length (opened bodies)) 1 (opened bodies ++ holds.reads.gate ∷ (framed body ++ behind)) (c file) =
        subst (λ (l : List ℕ). Torn (length (opened bodies)) 1 l (c file)) staged torn.here in
        let gate = torn_gate (opened bodies) holds.reads.gate (framed body ++ behind) (c file) here in
        ⊎_elim
        (λ stands. inl (record { from = start.files; was = stays; others = others c torn.others; stands = subst (StandsFor bodies) (sym gate.1) stands }))
        (λ stands. inr (record { others = others c torn.others; stands = subst (StandsFor (bodies ++ body ∷ [])) (sym gate.1) stands }))
        (stands_either bodies body behind gate.0 holds.reads.fits one)

    pub second_half : (end : State) → start.may_leave start.files → Passes mid end (Writing mid file (length (opened bodies)) 1) → Passes mid end P
    second_half end stays passes = passes_map mid end (Writing mid file (length (opened bodies)) 1) P (λ c w writing. record {
      told = writing.told ∙ told;
      image = outcome c stays (subst (λ (b : Bytes). In file (Torn (length (opened bodies)) 1) b c) (durable writing.from writing.was) writing.torn);
    }) passes

    pub appended : (end : State) → In file (λ old new. Holds old (length (opened bodies)) (1 ∷ []) new) mid.files end.files → IsDurable end → Appended start end file used bodies body
    appended end opens lasting =
        let is : end.files file ≡ opened bodies ++ 1 ∷ (framed body ++ behind) = written_gate (opened bodies) holds.reads.gate (framed body ++ behind) (end.files file)
        (subst (λ (l : List ℕ). Holds l (length (opened bodies)) (1 ∷ []) (end.files file)) staged opens.here) in
        let stands : StandsFor (bodies ++ body ∷ []) (end.files file) = subst (StandsFor (bodies ++ body ∷ [])) (sym is) (stands_open bodies body behind holds.reads.fits one) in
        record {
          journal = record {
            reads = stands;
            images = λ c left. subst (λ (b : Bytes). StandsFor (bodies ++ body ∷ []) (b file)) (sym (lasting c left)) stands;
            length_is = omega (arith, holds.length_is, length-opened bodies body);
          };
          others = others end.files opens.others;
          durable = lasting;
        }

-- The same at the numbers and bytes of the code: the used length, and the framed bytes that were written.
module _ (start mid : State) (file used : ℕ) (bytes : List ℕ) (bodies : List (List ℕ)) (body : List ℕ) (holds : HoldsJournal start file used bodies) (one : IsBody body) where
  at : used - 1 ≡ length (opened bodies)
  at = omega (arith, holds.length_is)

  pub first_moments : Passes start mid (Writing start file used (length bytes)) → Passes start mid (Appending start file bodies body)
  first_moments = first_half start mid file used bodies body holds one used (length bytes) holds.length_is

  module _ (bytes_are : bytes ≡ framed body) (written : In file (λ old new. Holds old used bytes new) start.files mid.files) (durable : IsDurable mid) (told : mid.told ≡ start.told) (end : State) where
    placed : In file (λ old new. Holds old (length (opened bodies) + 1) (framed body) new) start.files mid.files
    placed = subst (λ (k : ℕ). In file (λ old new. Holds old k (framed body) new) start.files mid.files) holds.length_is
        (subst (λ (l : List ℕ). In file (λ old new. Holds old used l new) start.files mid.files) bytes_are written)

    pub all_moments : start.may_leave start.files → Passes start mid (Writing start file used (length bytes)) → Passes mid end (Writing mid file (used - 1) 1) → Passes start end (Appending start file bodies body)
    all_moments stays first second = passes_then start mid end (Appending start file bodies body) (first_moments first)
        (second_half start mid file used bodies body holds one placed durable told end stays (subst (λ (k : ℕ). Passes mid end (Writing mid file k 1)) at second))

    pub leaves : In file (λ old new. Holds old (used - 1) (1 ∷ []) new) mid.files end.files → IsDurable end → Appended start end file used bodies body
    leaves opens lasting = appended start mid file used bodies body holds one placed durable told end (subst (λ (k : ℕ). In file (λ old new. Holds old k (1 ∷ []) new) mid.files end.files) at opens) lasting
