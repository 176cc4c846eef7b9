-- Bytes that are compared block by block.
use Rattle.std.proofs.Common.{◌≡◌, ℕ, ◌+◌, ◌-◌, ◌≤◌, Bool, List, ◌++◌, length, length-drop, take, drop, sym, ◌∙◌, ap, subst, arith}
use Rattle.std.proofs.lemmas.List.{drop-drop, drop-take, take-take, take_all, take_at, length-take-le}
use Rattle.std.specs.Prelude.{min}
use Rattle.std.specs.Bool.{Decides}
use Rattle.arti_ground.specs.State.{Bytes, Reads}
use Rattle.arti_rows.specs.declared.rows.FileRef.{FileRef}
use Rattle.arti_rows.specs.Sizes.{contents_file}
use Rattle.arti_blobs.specs.Contents.{content}
use Rattle.arti_blobs.proofs.Fronts.{take_both}

module _ (bytes : List ℕ) where
  -- a block of a content
  block : (place done n len : ℕ) → done + n ≤ len → take n (drop done (take len (drop place bytes))) ≡ take n (drop (place + done) bytes)
  block place done n len le =
      let rest : len ≡ done + (len - done) = omega (arith, le) in
      ap (λ (k : ℕ). take n (drop done (take k (drop place bytes)))) rest
      ∙ ap (λ (l : List ℕ). take n l) (drop-take done (len - done) (drop place bytes))
      ∙ take-take n (len - done) (drop done (drop place bytes)) (omega (arith, le))
      ∙ ap (λ (l : List ℕ). take n l) (drop-drop done place bytes)

  -- contents with a block that differs differ
  pub same_blocks : (first second done n len : ℕ) → done + n ≤ len → take len (drop first bytes) ≡ take len (drop second bytes) → take n (drop (first + done) bytes) ≡ take n (drop (second + done) bytes)
  same_blocks first second done n len le same =
      sym (block first done n len le) ∙ ap (λ (l : List ℕ). take n (drop done l)) same ∙ block second done n len le

  one_more : (place done n : ℕ) → take (done + n) (drop place bytes) ≡ take done (drop place bytes) ++ take n (drop (place + done) bytes)
  one_more place done n = take_both done n (drop place bytes) ∙ ap (λ (l : List ℕ). take done (drop place bytes) ++ take n l) (drop-drop done place bytes)

  pub same_more : (first second done n : ℕ) → take done (drop first bytes) ≡ take done (drop second bytes) → take n (drop (first + done) bytes) ≡ take n (drop (second + done) bytes)
      → take (done + n) (drop first bytes) ≡ take (done + n) (drop second bytes)
  same_more first second done n front next =
      one_more first done n ∙ ap (λ (l : List ℕ). l ++ take n (drop (first + done) bytes)) front ∙ ap (λ (l : List ℕ). take done (drop second bytes) ++ l) next
      ∙ sym (one_more second done n)

-- a buffer that was filled has the bytes from that place on
pub read_whole : (bytes before after : List ℕ) (at n : ℕ) → Reads bytes at before after n → length after ≡ length before → at + length before ≤ length bytes → after ≡ take (length before) (drop at bytes)
read_whole bytes before after at n read long within =
    let count : n ≡ length before = omega (arith, read.count, within) in
    sym (take_all n after (omega (arith, count, long))) ∙ read.front ∙ ap (λ (k : ℕ). take k (drop at bytes)) count

-- what was decided of a block, at another state and length that are the same
pub block_of : (a b : Bytes) (k n first second : ℕ) (r : Bool) → a ≡ b → k ≡ n → Decides r (take k (drop first (a contents_file)) ≡ take k (drop second (a contents_file))) → Decides r (take n (drop first (b contents_file)) ≡ take n (drop second (b contents_file)))
block_of a b k n first second r same long decides =
    subst (λ (c : Bytes). Decides r (take n (drop first (c contents_file)) ≡ take n (drop second (c contents_file)))) same
    (subst (λ (m : ℕ). Decides r (take m (drop first (a contents_file)) ≡ take m (drop second (a contents_file)))) long decides)

pub content_length : (bytes : List ℕ) (file : FileRef) → file.place + file.len ≤ length bytes → length (content bytes file) ≡ file.len
content_length bytes file within = length-take-le file.len (drop file.place bytes) (omega (arith, within, length-drop file.place bytes))

-- a part of a content that was read into the front of a buffer
pub read_content : (bytes : List ℕ) (file : FileRef) (buf new : List ℕ) (at n m : ℕ) → Reads bytes (file.place + at) (take n buf) new m → n ≡ min (file.len - at) (length buf) → length new ≡ length (take n buf)
    → file.place + file.len ≤ length bytes → at ≤ file.len → Reads (content bytes file) at buf (new ++ drop n buf) m
read_content bytes file buf new at n m read is long within le =
    let room : length (take n buf) ≡ n = length-take-le n buf (omega (arith, is)) in
    let all : m ≡ n = omega (arith, read.count, room, is, within, le) in
    record {
      count = omega (arith, all, is, content_length bytes file within);
      front = take_at new (drop n buf) m (omega (arith, all, long, room)) ∙ sym (take_all m new (omega (arith, all, long, room))) ∙ read.front
          ∙ sym (block bytes file.place at m file.len (omega (arith, all, is, le)));
    }
