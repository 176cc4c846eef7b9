-- What is copied from a part of a file.
use Rattle.std.proofs.Common.{◌≡◌, ◌≢◌, inl, inr, ℕ, ◌+◌, ◌-◌, ◌≤◌, ◌<◌, List, ◌++◌, length, take, drop, sym, ◌∙◌, ap, arith, length-drop, take-append-drop}
use Rattle.std.specs.Prelude.{min}
use Rattle.std.proofs.Math.Seq.{take-append-add}
use Rattle.std.proofs.lemmas.List.{take-append-le, take_at, drop-drop, drop-take, take-take, length-take}
use Rattle.std.proofs.lemmas.Bool.{cases_eq}
use Rattle.arti_journal.specs.Parts.{Seen, Shows, Reaches, IsPiece}

-- a part of the first bytes is that part of them all
pub part_of_front : (bytes : List ℕ) (skip n all : ℕ) → skip + n ≤ all → take n (drop skip (take all bytes)) ≡ take n (drop skip bytes)
part_of_front bytes skip n all le =
    let rest : all ≡ skip + (all - skip) = omega (arith, le) in
    ap (λ (k : ℕ). take n (drop skip (take k bytes))) rest ∙ ap (λ (l : List ℕ). take n l) (drop-take skip (all - skip) bytes) ∙ take-take n (all - skip) (drop skip bytes) (omega (arith, le))

module _ (seen : Seen) (bytes before after : List ℕ) (at n : ℕ) (shows : Shows seen bytes) (taken : take n after ≡ take n (drop (at - seen.from) seen.held)) (inside : n ≤ length seen.held - (at - seen.from))
    (all : Reaches seen at → n ≡ min (length before) (length seen.held - (at - seen.from))) (reached : n ≢ 0 → Reaches seen at) (there : at < length bytes → Reaches seen at) where
  size : length seen.held ≤ length bytes - seen.from
  size = omega (arith, ap length shows.same, length-take (length seen.held) (drop seen.from bytes), length-drop seen.from bytes)

  front : Reaches seen at → take n after ≡ take n (drop at bytes)
  front r =
      let skip = at - seen.from in
      let place : seen.from + skip ≡ at = omega (arith, r.0) in
      taken ∙ ap (λ (l : List ℕ). take n (drop skip l)) shows.same ∙ part_of_front (drop seen.from bytes) skip n (length seen.held) (omega (arith, inside, r.1, r.0))
      ∙ ap (λ (l : List ℕ). take n l) (drop-drop skip seen.from bytes) ∙ ap (λ (k : ℕ). take n (drop k bytes)) place

  -- what was copied from a window is a piece of the file
  pub given : IsPiece bytes at before after n
  given = record {
    front = elim (cases_eq n 0) [
      | inl none ↦ ap (λ (k : ℕ). take k after) none ∙ ap (λ (k : ℕ). take k (drop at bytes)) (sym none)
      | inr some ↦ front (reached some)
    ];
    within = elim (cases_eq n 0) [
      | inl none ↦ omega (arith, none)
      | inr some ↦ omega (arith, inside, size, (reached some).0, (reached some).1)
    ];
    some = λ none lt. omega (arith, none, all (there lt), (there lt).0, (there lt).1);
  }

-- one piece more
pub more_read : (bytes before tail front : List ℕ) (at done n : ℕ) → length front ≡ done → front ≡ take done (drop at bytes) → IsPiece bytes (at + done) before tail n → take (done + n) (front ++ tail) ≡ take (done + n) (drop at bytes)
more_read bytes before tail front at done n size is piece =
    let split : drop at bytes ≡ front ++ drop (at + done) bytes = sym (take-append-drop done (drop at bytes)) ∙ ap (λ (l : List ℕ). l ++ drop done (drop at bytes)) (sym is) ∙ ap (λ (l : List ℕ). front ++ l) (drop-drop done at bytes) in
    ap (λ (k : ℕ). take (k + n) (front ++ tail)) (sym size) ∙ take-append-add front tail n ∙ ap (λ (l : List ℕ). front ++ l) piece.front
    ∙ sym (take-append-add front (drop (at + done) bytes) n) ∙ ap (λ (k : ℕ). take (k + n) (front ++ drop (at + done) bytes)) size ∙ ap (λ (l : List ℕ). take (done + n) l) (sym split)

-- the same in a buffer with something behind it
pub more_read_in : (bytes before tail front post : List ℕ) (at done n : ℕ) → length front ≡ done → front ≡ take done (drop at bytes) → n ≤ length tail → IsPiece bytes (at + done) before tail n
    → take (done + n) (front ++ (tail ++ post)) ≡ take (done + n) (drop at bytes)
more_read_in bytes before tail front post at done n size is le piece =
    let seam = take-append-add front (tail ++ post) n in
    let less = take-append-add front tail n in
    ap (λ (k : ℕ). take (k + n) (front ++ (tail ++ post))) (sym size) ∙ seam ∙ ap (λ (l : List ℕ). front ++ l) (take-append-le n tail post le) ∙ sym less
    ∙ ap (λ (k : ℕ). take (k + n) (front ++ tail)) size ∙ more_read bytes before tail front at done n size is piece

-- bytes that were copied to the front of a buffer, out of the first ones of another
pub copied_from : (buf copied rest : List ℕ) (skip n len : ℕ) → copied ≡ take (skip + n - skip) (drop skip buf) → length copied ≡ n → skip + n ≤ len → take n (copied ++ rest) ≡ take n (drop skip (take len buf))
copied_from buf copied rest skip n len is long le =
    let count : skip + n - skip ≡ n = omega arith in
    take_at copied rest n long ∙ is ∙ ap (λ (k : ℕ). take k (drop skip buf)) count ∙ sym (part_of_front buf skip n len le)
