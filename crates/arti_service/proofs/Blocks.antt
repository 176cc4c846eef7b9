-- A content that is told in blocks.
use Rattle.std.proofs.Common.{◌≡◌, ◌⊎◌, inl, inr, ⊎_elim, ℕ, ◌+◌, ◌<◌, ◌≤◌, List, ◌++◌, length, take, drop, refl, sym, ap, ◌∙◌, append_assoc, arith}
use Rattle.std.specs.Prelude.{min}
use Rattle.std.proofs.lemmas.List.{take-append-le, take-take, take_all, length-take}
use Rattle.std.proofs.lemmas.Bool.{cases_lt}
use Rattle.std.proofs.Math.Seq.{take-add}
use Rattle.arti_ground.specs.State.{Bytes, State, Passes, LeavesDisk, OnlyReads, Reads}
use Rattle.arti_ground.specs.Moments.{passes_map, passes_then}
use Rattle.arti_service.specs.declared.answering.Stop.{Stop}
use Rattle.arti_service.specs.declared.answering.Stop.TheVariants as stop
use Rattle.arti_service.specs.Cuts.{TellsFront, StopsTelling}
use Rattle.arti_service.specs.Moments.{Telling}

-- the first k bytes of the n behind the first `at`
front_of : (at n k : ℕ) (bytes : List ℕ) → take at bytes ++ take k (take n (drop at bytes)) ≡ take (at + min k n) bytes
front_of at n k bytes =
    ap (λ (l : List ℕ). take at bytes ++ l) (least k n (drop at bytes)) ∙ sym (take-add at (min k n) bytes)
  where
    least : (k n : ℕ) (l : List ℕ) → take k (take n l) ≡ take (min k n) l
    least k n l = ⊎_elim
        (λ (le : k ≤ n). take-take k n l le ∙ ap (λ (m : ℕ). take m l) (sym (omega (arith, le))))
        (λ (lt : n < k). take_all k (take n l) (omega (arith, length-take n l, lt)) ∙ ap (λ (m : ℕ). take m l) (sym (omega (arith, lt))))
        (le_or k n)
      where
        le_or : (k n : ℕ) → (k ≤ n) ⊎ (n < k)
        le_or k n = ⊎_elim (λ lt. inr lt) (λ le. inl le) (cases_lt n k)

module _ (s0 s s1 s2 : State) (line : ℕ) (bytes : List ℕ) (at n : ℕ) (piece : List ℕ)
    (told : s.told line ≡ s0.told line ++ take at bytes) (disk : LeavesDisk s0 s) (reads : OnlyReads s s1) (is : piece ≡ take n (drop at bytes)) where
  -- what was told before the block
  told1 : s1.told line ≡ s0.told line ++ take at bytes
  told1 = ap (λ (t : Bytes). t line) reads.told ∙ told

  pub with_front : (k : ℕ) (w : List ℕ) → w ≡ s1.told line ++ take k piece → w ≡ s0.told line ++ take (at + min k n) bytes
  with_front k w e =
      e ∙ ap (λ (l : List ℕ). l ++ take k piece) told1 ∙ append_assoc (s0.told line) (take at bytes) (take k piece)
      ∙ ap (λ (l : List ℕ). s0.told line ++ (take at bytes ++ take k l)) is
      ∙ ap (λ (l : List ℕ). s0.told line ++ l) (front_of at n k bytes)

  pub block_told : s2.told line ≡ s1.told line ++ piece → s2.told line ≡ s0.told line ++ take (at + n) bytes
  block_told e =
      e ∙ ap (λ (l : List ℕ). l ++ piece) told1 ∙ append_assoc (s0.told line) (take at bytes) piece
      ∙ ap (λ (l : List ℕ). s0.told line ++ (take at bytes ++ l)) is
      ∙ ap (λ (l : List ℕ). s0.told line ++ l) (sym (take-add at n bytes))

  -- moments of reading tell nothing more
  reading_moment : (c w : Bytes) → s.may_leave c × (w ≡ s.told) → Telling s0 line bytes c w
  reading_moment c w here = record { was = disk.images c here.0; n = at; told = ap (λ (t : Bytes). t line) here.1 ∙ told }

  telling_moment : (c w : Bytes) → Telling s1 line piece c w → Telling s0 line bytes c w
  telling_moment c w here = record { was = disk.images c (reads.disk.images c here.was); n = at + min here.n n; told = with_front here.n (w line) here.told }

  pub read_time : Passes s0 s (Telling s0 line bytes) → Passes s0 s1 (Telling s0 line bytes)
  read_time time = passes_then s0 s s1 _ time (passes_map s s1 _ _ reading_moment reads.time)

  pub block_time : Passes s0 s (Telling s0 line bytes) → Passes s1 s2 (Telling s1 line piece) → Passes s0 s2 (Telling s0 line bytes)
  block_time time telling = passes_then s0 s1 s2 _ (read_time time) (passes_map s1 s2 _ _ telling_moment telling)

  pub block_stops : (x : Stop) → (x ≡ stop.Memory → ⊥) → StopsTelling x piece (s1.told line) (s2.told line) → TellsFront bytes (s0.told line) (s2.told line)
  block_stops stop.Disk some stops = absurd stops
  block_stops stop.Tell some stops = (at + min stops.0 n, with_front stops.0 (s2.told line) stops.1)
  block_stops stop.Memory some stops = absurd (some refl)

-- the piece of the buffer is that of the content
pub piece_is : (bytes other : List ℕ) (at n room : ℕ) (before after old : List ℕ) → other ≡ bytes → Reads other at before after n → n ≤ length after → take n (after ++ drop room old) ≡ take n (drop at bytes)
piece_is bytes other at n room before after old same reads le =
    take-append-le n after (drop room old) le ∙ reads.front ∙ ap (λ (l : List ℕ). take n (drop at l)) same

-- nothing was read: all of the content was told
pub all_told : (bytes other : List ℕ) (at : ℕ) (before after : List ℕ) (n : ℕ) → other ≡ bytes → Reads other at before after n → n ≡ 0 → 0 < length before → take at bytes ≡ bytes
all_told bytes other at before after n same reads none some =
    take_all at bytes (omega (arith, reads.count, none, some, ap length same))

-- the place is behind the content
pub past_end : (len at place : ℕ) (file : List ℕ) → len ≤ at → take at (take len (drop place file)) ≡ take len (drop place file)
past_end len at place file le = take_all at (take len (drop place file)) (omega (arith, length-take len (drop place file), le))

pub leaves_three : (a b d e : State) → LeavesDisk a b → OnlyReads b d → LeavesDisk d e → LeavesDisk a e
leaves_three a b d e p q r = record { files = r.files ∙ q.disk.files ∙ p.files; images = λ image left. p.images image (q.disk.images image (r.images image left)) }

pub leaves_both : (a b d : State) → LeavesDisk a b → LeavesDisk b d → LeavesDisk a d
leaves_both a b d p q = record { files = q.files ∙ p.files; images = λ image left. p.images image (q.images image left) }
