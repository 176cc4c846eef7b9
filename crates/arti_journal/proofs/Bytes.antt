-- What a write behind a gate byte, and a write of the gate byte, make of the bytes of a file.
use Rattle.std.proofs.Common.{◌≡◌, ℕ, ◌+◌, ◌<◌, List, [], ◌∷◌, ◌++◌, length, get_or, take, drop, refl, sym, ◌∙◌, ap, subst, arith, append_assoc, length-append, take-append-drop, inl, inr, ◌⊎◌}
use Rattle.std.proofs.lemmas.List.{take_at, drop_at, drop_more, append-nil}
use Rattle.std.proofs.lemmas.Bool.{cases_eq}
use Rattle.std.specs.Int.{w32, to_be_bytes}
use Rattle.arti_ground.specs.State.{Holds, Torn}
use Rattle.std.specs.Prelude.{All}
use Rattle.std.proofs.lemmas.List.Elements.{All-nil, All-cons, All-append}
use Rattle.arti_journal.specs.Journal.{IsBody, records, opened, StandsFor, header}
use Rattle.arti_journal.specs.Parts.{framed}

module _ (front : List ℕ) (gate : ℕ) (rest : List ℕ) where
  size : length (front ++ gate ∷ []) ≡ length front + 1
  size = omega (arith, length-append front (gate ∷ []))

  split : front ++ gate ∷ rest ≡ (front ++ gate ∷ []) ++ rest
  split = sym (append_assoc front (gate ∷ []) rest)

  head : take (length front + 1) (front ++ gate ∷ rest) ≡ front ++ gate ∷ []
  head = ap (λ (l : List ℕ). take (length front + 1) l) split ∙ take_at (front ++ gate ∷ []) rest (length front + 1) size

  back : drop (length front + 1) (front ++ gate ∷ rest) ≡ rest
  back = ap (λ (l : List ℕ). drop (length front + 1) l) split ∙ drop_at (front ++ gate ∷ []) rest (length front + 1) size

  -- the gate stands in each outcome of a write behind it
  pub torn_behind : (n : ℕ) (c : List ℕ) → Torn (length front + 1) n (front ++ gate ∷ rest) c → c ≡ front ++ gate ∷ drop (length front + 1) c
  torn_behind n c torn =
      sym (take-append-drop (length front + 1) c) ∙ ap (λ (l : List ℕ). l ++ drop (length front + 1) c) (torn.before ∙ head)
      ∙ append_assoc front (gate ∷ []) (drop (length front + 1) c)

  pub written_behind : (bytes new : List ℕ) → Holds (front ++ gate ∷ rest) (length front + 1) bytes new → new ≡ front ++ gate ∷ (bytes ++ drop (length front + 1 + length bytes) (front ++ gate ∷ rest))
  written_behind bytes new holds =
      let end = drop (length front + 1 + length bytes) (front ++ gate ∷ rest) in
      holds ∙ ap (λ (l : List ℕ). l ++ bytes ++ end) head ∙ append_assoc (front ++ gate ∷ []) bytes end ∙ append_assoc front (gate ∷ []) (bytes ++ end)

  -- only the gate byte is in doubt after a write of it
  pub torn_gate : (c : List ℕ) → Torn (length front) 1 (front ++ gate ∷ rest) c → (g : ℕ) × (c ≡ front ++ g ∷ rest)
  torn_gate c torn =
      let k = length front in
      let g = get_or c k 0 in
      let long : k < length c = omega (arith, torn.no_shorter, length-append front (gate ∷ rest)) in
      let tail : drop k c ≡ g ∷ rest = drop_more c k 0 long ∙ ap (λ (l : List ℕ). g ∷ l) (torn.after ∙ back) in
      (g, sym (take-append-drop k c) ∙ ap (λ (l : List ℕ). l ++ drop k c) (torn.before ∙ take_at front (gate ∷ rest) k refl) ∙ ap (λ (l : List ℕ). front ++ l) tail)

  pub written_gate : (new : List ℕ) → Holds (front ++ gate ∷ rest) (length front) (1 ∷ []) new → new ≡ front ++ 1 ∷ rest
  written_gate new holds =
      holds ∙ ap (λ (l : List ℕ). l ++ (1 ∷ []) ++ drop (length front + 1) (front ++ gate ∷ rest)) (take_at front (gate ∷ rest) (length front) refl)
      ∙ ap (λ (l : List ℕ). front ++ (1 ∷ []) ++ l) back ∙ append_assoc front (1 ∷ []) rest

pub records-push : (bodies : List (List ℕ)) (body rest : List ℕ) → records (bodies ++ body ∷ []) ++ rest ≡ records bodies ++ ((1 ∷ to_be_bytes w32 (length body) ++ body) ++ rest)
records-push [] body rest = ap (λ (l : List ℕ). l ++ rest) (append-nil (1 ∷ to_be_bytes w32 (length body) ++ body))
records-push (b ∷ bodies) body rest =
    let one = 1 ∷ to_be_bytes w32 (length b) ++ b in
    append_assoc one (records (bodies ++ body ∷ [])) rest ∙ ap (λ (l : List ℕ). one ++ l) (records-push bodies body rest)
    ∙ sym (append_assoc one (records bodies) ((1 ∷ to_be_bytes w32 (length body) ++ body) ++ rest))

length-records : (bodies : List (List ℕ)) (body : List ℕ) → length (records (bodies ++ body ∷ [])) ≡ length (records bodies) + length body + 5
length-records [] body = omega (arith, length-append (1 ∷ to_be_bytes w32 (length body) ++ body) [], length-append (1 ∷ to_be_bytes w32 (length body)) body)
length-records (b ∷ bodies) body =
    let one = 1 ∷ to_be_bytes w32 (length b) ++ b in
    omega (arith, length-records bodies body, length-append one (records bodies), length-append one (records (bodies ++ body ∷ [])))

-- the gate behind a new record
pub length-opened : (bodies : List (List ℕ)) (body : List ℕ) → length (opened (bodies ++ body ∷ [])) ≡ length (opened bodies) + length body + 5
length-opened bodies body = omega (arith, length-records bodies body, length-append header (records bodies), length-append header (records (bodies ++ body ∷ [])))

all_more : (bodies : List (List ℕ)) (body : List ℕ) → All IsBody bodies → IsBody body → All IsBody (bodies ++ body ∷ [])
all_more bodies body all one = All-append IsBody bodies (body ∷ []) all (All-cons IsBody body [] one (All-nil IsBody))

-- an open gate before a framed body makes it one of the bodies
pub stands_open : (bodies : List (List ℕ)) (body rest : List ℕ) → All IsBody bodies → IsBody body → StandsFor (bodies ++ body ∷ []) (opened bodies ++ 1 ∷ (framed body ++ rest))
stands_open bodies body rest all one = record {
  gate = 0;
  rest = rest;
  shut = omega arith;
  fits = all_more bodies body all one;
  whole =
      let len = to_be_bytes w32 (length body) in
      append_assoc header (records bodies) (1 ∷ (framed body ++ rest))
      ∙ ap (λ (l : List ℕ). header ++ (records bodies ++ 1 ∷ l)) (append_assoc (len ++ body) (0 ∷ []) rest)
      ∙ ap (λ (l : List ℕ). header ++ l) (sym (records-push bodies body (0 ∷ rest)))
      ∙ sym (append_assoc header (records (bodies ++ body ∷ [])) (0 ∷ rest));
}

-- whatever the gate byte is, the bytes stand for the bodies with the new one or without
pub stands_either : (bodies : List (List ℕ)) (body rest : List ℕ) (g : ℕ) → All IsBody bodies → IsBody body
    → StandsFor bodies (opened bodies ++ g ∷ (framed body ++ rest)) ⊎ StandsFor (bodies ++ body ∷ []) (opened bodies ++ g ∷ (framed body ++ rest))
stands_either bodies body rest g all one = elim (cases_eq g 1) [
  | inl is_open ↦ inr (subst (λ (v : ℕ). StandsFor (bodies ++ body ∷ []) (opened bodies ++ v ∷ (framed body ++ rest))) (sym is_open) (stands_open bodies body rest all one))
  | inr shut ↦ inl (record { gate = g; rest = framed body ++ rest; shut = shut; fits = all; whole = refl })
]
