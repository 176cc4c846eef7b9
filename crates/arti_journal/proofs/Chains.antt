-- What stands at a gate is determined by the bytes behind it.
use Rattle.std.proofs.Common.{◌≡◌, ◌≢◌, ℕ, ◌+◌, ◌-◌, ◌≤◌, ◌<◌, List, [], ◌∷◌, ◌++◌, length, get_or, take, drop, refl, sym, ◌∙◌, ap, subst, arith, append_assoc, length-append, length-drop, take-append-drop}
use Rattle.std.specs.Int.{w32, to_be_bytes, from_be_bytes}
use Rattle.std.proofs.lemmas.List.{get_or-take, take_all, drop-take, take_at, drop_at, drop-drop}
use Rattle.std.proofs.lemmas.List.Elements.{All-head, All-tail}
use Rattle.std.proofs.lemmas.Nat.{from_be_bytes-to_be_bytes_4}
use Rattle.arti_ground.specs.State.{Reads}
use Rattle.arti_journal.specs.Journal.{IsBody, records, opened_record}
use Rattle.arti_journal.specs.Parts.{Begins, Follow, HasRoom}

length-four : (n : ℕ) → length (to_be_bytes w32 n) ≡ 4
length-four n = refl

-- the length behind a gate is that of the body
length_read : (body rest : List ℕ) → IsBody body → from_be_bytes w32 (take 4 (drop 1 (opened_record body ++ rest))) ≡ length body
length_read body rest fits = from_be_bytes-to_be_bytes_4 (length body) (omega (arith, fits.most))

-- what stands behind a record of a body
behind : (body rest : List ℕ) → drop (5 + length body) (opened_record body ++ rest) ≡ rest
behind body rest = drop_at (opened_record body) rest (5 + length body) (omega (arith, length-append (to_be_bytes w32 (length body)) body))

body_read : (body rest : List ℕ) → take (length body) (drop 5 (opened_record body ++ rest)) ≡ body
body_read body rest = take_at body rest (length body) refl

-- two records at one place are one
pub same_body : (a b rest other : List ℕ) → IsBody a → IsBody b → opened_record a ++ rest ≡ opened_record b ++ other → a ≡ b
same_body a b rest other fits fits' same =
    let size : length a ≡ length b = sym (length_read a rest fits) ∙ ap (λ (l : List ℕ). from_be_bytes w32 (take 4 (drop 1 l))) same ∙ length_read b other fits' in
    sym (body_read a rest) ∙ ap (λ (l : List ℕ). take (length a) (drop 5 l)) same ∙ ap (λ (k : ℕ). take k (drop 5 (opened_record b ++ other))) size ∙ body_read b other

-- an open gate begins a record
pub begins : (bodies : List (List ℕ)) (bytes : List ℕ) → Follow bodies bytes → get_or bytes 0 0 ≡ 1
    → (body : List ℕ) × (more : List (List ℕ)) × (rest : List ℕ) × (bodies ≡ body ∷ more) × IsBody body × (bytes ≡ opened_record body ++ rest) × Follow more rest
begins [] bytes follow is = absurd (follow.shut (sym (ap (λ (l : List ℕ). get_or l 0 0) follow.whole) ∙ is))
begins (body ∷ more) bytes follow is = (
  body,
  more,
  records more ++ follow.gate ∷ follow.rest,
  refl,
  All-head IsBody body more follow.fits,
  follow.whole ∙ append_assoc (opened_record body) (records more) (follow.gate ∷ follow.rest),
  record { gate = follow.gate; rest = follow.rest; shut = follow.shut; fits = All-tail IsBody body more follow.fits; whole = refl },
)

some_rest : (bodies : List (List ℕ)) (bytes : List ℕ) → Follow bodies bytes → 1 ≤ length bytes
some_rest bodies bytes follow = omega (arith, ap length follow.whole, length-append (records bodies) (follow.gate ∷ follow.rest))

-- the length behind an open gate is one that a body may have, and the next gate stands within the bytes
pub head_fits : (bodies : List (List ℕ)) (bytes : List ℕ) (len : ℕ) → Follow bodies bytes → get_or bytes 0 0 ≡ 1 → len ≡ from_be_bytes w32 (take 4 (drop 1 bytes)) → HasRoom len (length bytes)
head_fits bodies bytes len follow is read =
    let b = begins bodies bytes follow is in
    let size : len ≡ length b.0 = read ∙ ap (λ (l : List ℕ). from_be_bytes w32 (take 4 (drop 1 l))) b.5 ∙ length_read b.0 b.2 b.4 in (
      omega (arith, size, b.4.some),
      omega (arith, size, b.4.most),
      omega (arith, size, ap length b.5, length-append (opened_record b.0) b.2, length-append (to_be_bytes w32 (length b.0)) b.0, some_rest b.1 b.2 b.6),
    )

-- a record that was read is the first of those that follow
pub steps : (bodies : List (List ℕ)) (bytes body rest : List ℕ) → Begins body bytes rest → Follow bodies bytes → (more : List (List ℕ)) × (bodies ≡ body ∷ more) × Follow more rest
steps bodies bytes body rest read follow =
    let b = begins bodies bytes follow (ap (λ (l : List ℕ). get_or l 0 0) read.whole) in
    let same : b.0 ≡ body = same_body b.0 body b.2 rest b.4 read.fits (sym b.5 ∙ read.whole) in
    let behind_them : b.2 ≡ rest =
    sym (behind b.0 b.2) ∙ ap (λ (l : List ℕ). drop (5 + length b.0) l) (sym b.5 ∙ read.whole) ∙ ap (λ (k : List ℕ). drop (5 + length k) (opened_record body ++ rest)) same ∙ behind body rest in
    (b.1, b.3 ∙ ap (λ (k : List ℕ). k ∷ b.1) same, subst (Follow b.1) behind_them b.6)

-- where the gate is closed no body follows
pub none_follow : (bodies : List (List ℕ)) (bytes : List ℕ) → Follow bodies bytes → get_or bytes 0 0 ≢ 1 → bodies ≡ []
none_follow [] bytes follow shut = refl
none_follow (body ∷ more) bytes follow shut = absurd (shut (ap (λ (l : List ℕ). get_or l 0 0) follow.whole))

-- what five bytes that were read at a gate say
module _ (bytes before head : List ℕ) (place n : ℕ) (read : Reads bytes place before head n) (five : length before ≡ 5) (within : place < length bytes) where
  tail : List ℕ
  tail = drop place bytes

  some : 1 ≤ n
  some = omega (arith, read.count, five)

  pub gate_read : get_or (drop place bytes) 0 0 ≡ get_or head 0 0
  gate_read = sym (get_or-take n (drop place bytes) 0 0 some) ∙ ap (λ (l : List ℕ). get_or l 0 0) (sym read.front) ∙ get_or-take n head 0 0 some

  gate_here : get_or head 0 0 ≡ 1 → get_or (drop place bytes) 0 0 ≡ 1
  gate_here one = gate_read ∙ one

  -- they are too few
  pub no_head : get_or head 0 0 ≡ 1 → n < 5 → (bodies : List (List ℕ)) → Follow bodies (drop place bytes) → ⊥
  no_head one few bodies follow =
      let room = head_fits bodies (drop place bytes) (from_be_bytes w32 (take 4 (drop 1 (drop place bytes)))) follow (gate_here one) refl in
      absurd (omega (arith, room.2, room.0, few, read.count, five, length-drop place bytes))

  module _ (all : 5 ≤ n) (long : length head ≡ 5) where
    pub head_is : head ≡ take 5 (drop place bytes)
    head_is =
        let five_read : n ≡ 5 = omega (arith, all, read.count, five) in
        sym (take_all n head (omega (arith, all, long))) ∙ read.front ∙ ap (λ (k : ℕ). take k (drop place bytes)) five_read

    len_here : drop 1 head ≡ take 4 (drop 1 (drop place bytes))
    len_here = ap (λ (l : List ℕ). drop 1 l) head_is ∙ drop-take 1 4 (drop place bytes)

    -- no body has the length that they say
    pub no_room : (len size : ℕ) → get_or head 0 0 ≡ 1 → len ≡ from_be_bytes w32 (drop 1 head) → size ≡ length bytes → ¬ HasRoom len (size - place) → (bodies : List (List ℕ)) → Follow bodies (drop place bytes) → ⊥
    no_room len size one is same bad bodies follow =
        bad (subst (HasRoom len) (length-drop place bytes ∙ ap (λ (k : ℕ). k - place) (sym same))
        (head_fits bodies (drop place bytes) len follow (gate_here one) (is ∙ ap (from_be_bytes w32) len_here)))

first_of : (head : List ℕ) → get_or head 0 0 ≡ 1 → (rest : List ℕ) → drop 1 head ≡ rest → length head ≡ 5 → head ≡ 1 ∷ rest
first_of [] one rest is five = absurd (omega (arith, five))
first_of (h ∷ hs) one rest is five = ap (λ (k : ℕ). k ∷ hs) one ∙ ap (λ (l : List ℕ). 1 ∷ l) is

-- an open gate and the length behind it
pub open_read : (head : List ℕ) (len : ℕ) → length head ≡ 5 → get_or head 0 0 ≡ 1 → to_be_bytes w32 len ≡ drop 1 head → head ≡ 1 ∷ to_be_bytes w32 len
open_read head len five one size = first_of head one (to_be_bytes w32 len) (sym size) five

-- the bytes that were read at an open gate are a record
pub record_read : (bytes body : List ℕ) (place len size : ℕ) → take 5 (drop place bytes) ≡ 1 ∷ to_be_bytes w32 len → HasRoom len (size - place) → size ≡ length bytes → place < size
    → length body ≡ len → body ≡ take len (drop (place + 5) bytes) → Begins body (drop place bytes) (drop (place + 5 + length body) bytes)
record_read bytes body place len size front room same within long is = record {
  fits = record { some = omega (arith, room.0, long); most = omega (arith, room.1, long) };
  more = omega (arith, length-drop (place + 5 + length body) bytes, room.2, long, same);
  whole =
      sym (take-append-drop 5 (drop place bytes))
      ∙ ap (λ (l : List ℕ). l ++ drop 5 (drop place bytes)) (front ∙ ap (λ (k : ℕ). 1 ∷ to_be_bytes w32 k) (sym long))
      ∙ ap (λ (l : List ℕ). (1 ∷ to_be_bytes w32 (length body)) ++ l) (drop-drop 5 place bytes ∙ sym (take-append-drop len (drop (place + 5) bytes)) ∙ ap (λ (l : List ℕ). l ++ drop len (drop (place + 5) bytes)) (sym is))
      ∙ ap (λ (l : List ℕ). (1 ∷ to_be_bytes w32 (length body)) ++ (body ++ l)) (drop-drop len (place + 5) bytes ∙ ap (λ (k : ℕ). drop (place + 5 + k) bytes) (sym long));
}
