-- How far the records of a journal were read.
use Rattle.std.proofs.Common.{inl, inr, ◌≡◌, ◌≢◌, ℕ, ◌+◌, ◌≤◌, ◌<◌, List, [], ◌∷◌, ◌++◌, length, get_or, take, drop, refl, sym, ◌∙◌, ap, arith, add-one, append_assoc, length-append, take-append-drop, drop-cons}
use Rattle.std.specs.Prelude.{All}
use Rattle.std.proofs.lemmas.List.{take_all, append-nil}
use Rattle.std.proofs.lemmas.List.Elements.{All-nil, All-cons, All-head, All-tail, All-append}
use Rattle.arti_ground.specs.State.{Reads}
use Rattle.arti_journal.specs.Journal.{IsBody, records, opened, opened_record, StandsFor, IsJournal, header}
use Rattle.arti_journal.specs.Parts.{Begins, Follow}
use Rattle.arti_journal.proofs.Bytes.{records-push, length-opened}
use Rattle.arti_journal.proofs.Chains.{begins, steps, none_follow}

-- these bodies were read up to a place, and whatever follows the header begins with them
pub record IsRead (bytes : List ℕ) (bodies : List (List ℕ)) (place : ℕ) : Type 0 where
  pub fits : All IsBody bodies
  pub place_is : place ≡ length (opened bodies)
  pub whole : bytes ≡ opened bodies ++ drop place bytes
  pub only : (others : List (List ℕ)) → Follow others (drop 16 bytes) → (more : List (List ℕ)) × (others ≡ bodies ++ more) × Follow more (drop place bytes)

pub none_read : (bytes : List ℕ) → take 16 bytes ≡ header → IsRead bytes [] 16
unfolding header
none_read bytes is = record {
  fits = All-nil IsBody;
  place_is = refl;
  whole = sym (take-append-drop 16 bytes) ∙ ap (λ (l : List ℕ). l ++ drop 16 bytes) (is ∙ sym (append-nil header));
  only = λ others follow. (others, refl, follow);
}

pub one_read : (bytes : List ℕ) (bodies : List (List ℕ)) (body : List ℕ) (place : ℕ) → IsRead bytes bodies place → Begins body (drop place bytes) (drop (place + 5 + length body) bytes)
    → IsRead bytes (bodies ++ body ∷ []) (place + 5 + length body)
one_read bytes bodies body place read begins =
    let rest = drop (place + 5 + length body) bytes in
    record {
      fits = All-append IsBody bodies (body ∷ []) read.fits (All-cons IsBody body [] begins.fits (All-nil IsBody));
      place_is = omega (arith, read.place_is, length-opened bodies body);
      whole = read.whole ∙ ap (λ (l : List ℕ). opened bodies ++ l) begins.whole ∙ append_assoc header (records bodies) (opened_record body ++ rest)
          ∙ ap (λ (l : List ℕ). header ++ l) (sym (records-push bodies body rest)) ∙ sym (append_assoc header (records (bodies ++ body ∷ [])) rest);
      only = λ others follow.
          let was = read.only others follow in
          let next = steps was.0 (drop place bytes) body rest begins was.2 in
          (next.0, was.1 ∙ ap (λ (l : List (List ℕ)). bodies ++ l) next.1 ∙ sym (append_assoc bodies (body ∷ []) next.0), next.2);
    }

-- a closed gate ends them
pub all_read : (bytes : List ℕ) (bodies : List (List ℕ)) (place : ℕ) → IsRead bytes bodies place → place < length bytes → get_or bytes place 0 ≢ 1 → StandsFor bodies bytes
all_read bytes bodies place read within shut = record {
  gate = get_or bytes place 0;
  rest = drop (place + 1) bytes;
  shut = shut;
  fits = read.fits;
  whole = read.whole ∙ ap (λ (l : List ℕ). opened bodies ++ l) (rw add-one (drop-cons bytes place 0 within));
}

-- what follows the header of a journal
pub behind_header : (bodies : List (List ℕ)) (bytes : List ℕ) → StandsFor bodies bytes → (take 16 bytes ≡ header) × Follow bodies (drop 16 bytes)
unfolding header
behind_header bodies bytes stands =
    let split : bytes ≡ header ++ (records bodies ++ stands.gate ∷ stands.rest) = stands.whole ∙ append_assoc header (records bodies) (stands.gate ∷ stands.rest) in (
      ap (λ (l : List ℕ). take 16 l) split,
      record { gate = stands.gate; rest = stands.rest; shut = stands.shut; fits = stands.fits; whole = ap (λ (l : List ℕ). drop 16 l) split },
    )

-- what was read of the front of a file
pub front_read : (bytes before head : List ℕ) (n : ℕ) → Reads bytes 0 before head n → length before ≡ 16 → length head ≡ 16 → 17 < length bytes → (n ≡ 16) × (head ≡ take 16 bytes)
front_read bytes before head n read all long more =
    let count : n ≡ 16 = omega (arith, read.count, all, more) in
    (count, sym (take_all n head (omega (arith, count, long))) ∙ read.front ∙ ap (λ (k : ℕ). take k bytes) count)

follows_once : (bodies others : List (List ℕ)) (bytes : List ℕ) → Follow bodies bytes → Follow others bytes → bodies ≡ others
follows_once [] others bytes one other =
    sym (none_follow others bytes other (λ is. one.shut (sym (ap (λ (l : List ℕ). get_or l 0 0) one.whole) ∙ is)))
follows_once (body ∷ bodies) others bytes one other =
    let first = begins (body ∷ bodies) bytes one (ap (λ (l : List ℕ). get_or l 0 0) one.whole) in
    let next = steps others bytes body (records bodies ++ one.gate ∷ one.rest) (record {
      fits = All-head IsBody body bodies one.fits;
      more = omega (arith, length-append (records bodies) (one.gate ∷ one.rest));
      whole = one.whole ∙ append_assoc (opened_record body) (records bodies) (one.gate ∷ one.rest);
    }) other in
    ap (λ (l : List (List ℕ)). body ∷ l) (follows_once bodies next.0 (records bodies ++ one.gate ∷ one.rest)
    (record { gate = one.gate; rest = one.rest; shut = one.shut; fits = All-tail IsBody body bodies one.fits; whole = refl }) next.2) ∙ sym next.1

-- bytes stand for one list of bodies at most
pub stands_once : (bodies others : List (List ℕ)) (bytes : List ℕ) → StandsFor bodies bytes → StandsFor others bytes → bodies ≡ others
stands_once bodies others bytes one other = follows_once bodies others (drop 16 bytes) (behind_header bodies bytes one).1 (behind_header others bytes other).1

-- so few bytes have no record
pub few_bytes : (bodies : List (List ℕ)) (bytes : List ℕ) → length bytes ≤ 17 → StandsFor bodies bytes → bodies ≡ []
unfolding header
few_bytes [] bytes few stands = refl
few_bytes (body ∷ bodies) bytes few stands =
    absurd (omega (arith, few, ap length stands.whole, length-append (opened (body ∷ bodies)) (stands.gate ∷ stands.rest), length-append header (records (body ∷ bodies)), length-append (opened_record body) (records bodies)))

pub journals_once : (bodies others : List (List ℕ)) (bytes : List ℕ) → IsJournal bodies bytes → IsJournal others bytes → bodies ≡ others
journals_once bodies others bytes (inl none) (inl none') = none.1 ∙ sym none'.1
journals_once bodies others bytes (inl none) (inr stands) = none.1 ∙ sym (few_bytes others bytes none.0 stands)
journals_once bodies others bytes (inr stands) (inl none) = few_bytes bodies bytes none.0 stands ∙ sym none.1
journals_once bodies others bytes (inr stands) (inr stands') = stands_once bodies others bytes stands stands'
