-- What a write behind the kept contents leaves, and what stands there then.
use Rattle.std.proofs.Common.{◌≡◌, ℕ, ◌+◌, ◌-◌, ◌≤◌, List, ◌++◌, length, take, drop, refl, sym, ◌∙◌, ap, arith, append_assoc, length-append, take-append-drop}
use Rattle.std.proofs.lemmas.List.{take_at, drop_at, drop-take, take-take, length-take-le}
use Rattle.arti_rows.specs.declared.rows.FileRef.{FileRef}
use Rattle.arti_rows.specs.Sizes.{contents_file}
use Rattle.arti_ground.specs.State.{Bytes, State, Holds, Torn, In, Follows, Passes, DiskTime}
use Rattle.arti_ground.specs.Moments.{passes_map}
use Rattle.arti_blobs.specs.Contents.{content, KeepsFront, Behind}

-- first bytes in two parts
pub take_both : (a b : ℕ) (l : List ℕ) → take (a + b) l ≡ take a l ++ take b (drop a l)
take_both a b l =
    sym (take-append-drop a (take (a + b) l)) ∙ ap (λ (m : List ℕ). m ++ drop a (take (a + b) l)) (take-take a (a + b) l (omega arith))
    ∙ ap (λ (m : List ℕ). take a l ++ m) (drop-take a b l)

module _ (end at n : ℕ) (le : end ≤ at) where
  torn_front : (old new : List ℕ) → Torn at n old new → take end new ≡ take end old
  torn_front old new torn = sym (take-take end at new le) ∙ ap (λ (l : List ℕ). take end l) torn.before ∙ take-take end at old le

  pub torn_keeps : (a b : Bytes) → In contents_file (Torn at n) a b → KeepsFront end a b
  torn_keeps a b torn = record { here = torn_front (a contents_file) (b contents_file) torn.here; others = torn.others }

  pub images_keep : (old new : State) → Follows (In contents_file (Torn at n)) old new → Follows (KeepsFront end) old new
  images_keep old new follows c left = let was = follows c left in (was.0, was.1, torn_keeps was.0 c was.2)

  pub moments_behind : (old new : State) → Follows (In contents_file (Torn at n)) old new → DiskTime old new → Passes old new (Behind old end)
  moments_behind old new follows time = passes_map old new _ (Behind old end) (λ c w here.
      let was = follows c here.0 in
      record { told = here.1; from = was.0; was = was.1; front = torn_keeps was.0 c was.2 }) time

module _ (old piece new : List ℕ) (at : ℕ) (within : at ≤ length old) (holds : Holds old at piece new) where
  rest : List ℕ
  rest = drop (at + length piece) old

  split : new ≡ take at old ++ (piece ++ rest)
  unfolding rest
  split = holds ∙ append_assoc (take at old) piece (drop (at + length piece) old)

  size : length (take at old) ≡ at
  size = length-take-le at old within

  pub written_front : (end : ℕ) → end ≤ at → take end new ≡ take end old
  written_front end le = sym (take-take end at new le) ∙ ap (λ (l : List ℕ). take end l) (ap (λ (l : List ℕ). take at l) split ∙ take_at (take at old) (piece ++ rest) at size) ∙ take-take end at old le

  pub written_length : at + length piece ≤ length new
  written_length = omega (arith, ap length split, length-append (take at old) (piece ++ rest), length-append piece rest, size)

  -- the staged bytes with the piece
  pub written_more : (end : ℕ) (bytes : List ℕ) → at ≡ end + length bytes → take (length bytes) (drop end old) ≡ bytes → take (length (bytes ++ piece)) (drop end new) ≡ bytes ++ piece
  written_more end bytes is there =
      let front : take at old ≡ take end old ++ bytes =
      ap (λ (k : ℕ). take k old) is ∙ take_both end (length bytes) old ∙ ap (λ (l : List ℕ). take end old ++ l) there in
      let whole : new ≡ take end old ++ ((bytes ++ piece) ++ rest) =
      split ∙ ap (λ (l : List ℕ). l ++ (piece ++ rest)) front ∙ append_assoc (take end old) bytes (piece ++ rest) ∙ ap (λ (l : List ℕ). take end old ++ l) (sym (append_assoc bytes piece rest)) in
      ap (λ (l : List ℕ). take (length (bytes ++ piece)) (drop end l)) whole
      ∙ ap (λ (l : List ℕ). take (length (bytes ++ piece)) l) (drop_at (take end old) ((bytes ++ piece) ++ rest) end (length-take-le end old (omega (arith, within, is))))
      ∙ take_at (bytes ++ piece) rest (length (bytes ++ piece)) refl

-- a part of the first bytes
part_of_front : (end place len : ℕ) (bytes : List ℕ) → place + len ≤ end → take len (drop place (take end bytes)) ≡ take len (drop place bytes)
part_of_front end place len bytes le =
    let rest : end ≡ place + (end - place) = omega (arith, le) in
    ap (λ (k : ℕ). take len (drop place (take k bytes))) rest ∙ ap (λ (l : List ℕ). take len l) (drop-take place (end - place) bytes)
    ∙ take-take len (end - place) (drop place bytes) (omega (arith, le))

pub contents_stay : (file : FileRef) (end : ℕ) (bytes others : List ℕ) → file.place + file.len ≤ end → take end others ≡ take end bytes → content others file ≡ content bytes file
contents_stay file end bytes others le same =
    sym (part_of_front end file.place file.len others le) ∙ ap (λ (l : List ℕ). take file.len (drop file.place l)) same ∙ part_of_front end file.place file.len bytes le
