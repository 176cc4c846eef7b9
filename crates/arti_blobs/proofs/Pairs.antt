-- Whether a staged content is a kept one.
use Rattle.std.proofs.Common.{◌≡◌, ℕ, ◌+◌, ◌≤◌, List, length, sym, ◌∙◌, ap, arith}
use Rattle.std.specs.Prelude.{All, Contains}
use Rattle.std.proofs.lemmas.List.Elements.{All-contains}
use Rattle.arti_rows.specs.declared.rows.Digests.{Digests}
use Rattle.arti_rows.specs.declared.rows.FileRef.{FileRef}
use Rattle.arti_blobs.specs.Contents.{content, IsSame, HasPair}
use Rattle.arti_blobs.proofs.Blocks.{content_length}

module _ (bytes : List ℕ) (kept : List FileRef) (wanted : List ℕ) (digests : Digests) (staged : FileRef) (its_bytes : content bytes staged ≡ wanted) (its_digests : staged.digests ≡ digests) where
  pub same_is_pair : (file : FileRef) → Contains kept file → IsSame bytes staged file → HasPair bytes kept wanted digests
  same_is_pair file is same = record {
    file = file;
    is_kept = is;
    same_bytes = same.same_bytes ∙ its_bytes;
    same_digests = same.same_digests ∙ its_digests;
  }

  pub none_is_pair : (end : ℕ) → end ≤ length bytes → All (λ (file : FileRef). file.place + file.len ≤ end) kept → staged.place + staged.len ≤ length bytes
      → ((file : FileRef) → Contains kept file → IsSame bytes staged file → ⊥) → HasPair bytes kept wanted digests → ⊥
  none_is_pair end reach within there none pair =
      let place : pair.file.place + pair.file.len ≤ end = All-contains (λ (file : FileRef). file.place + file.len ≤ end) kept pair.file within pair.is_kept in
      let same : content bytes pair.file ≡ content bytes staged = pair.same_bytes ∙ sym its_bytes in
      none pair.file pair.is_kept (record {
        same_length = sym (content_length bytes pair.file (omega (arith, place, reach))) ∙ ap length same ∙ content_length bytes staged there;
        same_digests = pair.same_digests ∙ sym its_digests;
        same_bytes = same;
      })
