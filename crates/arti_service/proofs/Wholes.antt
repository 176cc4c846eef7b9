-- Contents that stand whole.
use Rattle.std.proofs.Common.{◌≡◌, ℕ, List, [], ◌∷◌, length}
use Rattle.std.specs.Prelude.{All, Contains, Option, Some, None, IfSome}
use Rattle.std.proofs.lemmas.List.Elements.{All-weaker, All-contains, All-head, All-cons, All-nil}
use Rattle.arti_rows.specs.declared.rows.FileRef.{FileRef}
use Rattle.arti_rows.specs.declared.rows.ItemRow.{ItemRow}
use Rattle.arti_ground.specs.State.{State}
use Rattle.arti_blobs.specs.declared.staging.Staged.{Staged}
use Rattle.arti_blobs.specs.Contents.{content}
use Rattle.arti_store.specs.Items.{HasFileIn}
use Rattle.arti_store.specs.Store.{View, contents_at, HoldsOpen}
use Rattle.arti_store.specs.Commit.{MayName, Supplies}
use Rattle.arti_store.specs.ImageLaws.{contents_whole, named_whole, supplies_more}
use Rattle.arti_service.specs.Decisions.{AreWhole}
use Rattle.arti_service.specs.Queries.{IsWhole}

module _ (bytes : List ℕ) (kept : List FileRef) (whole : AreWhole bytes kept None) where
  by_file : (file : Option FileRef) → IfSome file (Contains kept) → IfSome file (λ f. length (content bytes f) ≡ f.len)
  by_file None has = tt
  by_file (Some f) has = whole f has

  -- the rows' contents do, where they are kept ones
  pub rows_whole : (rows : List ItemRow) → All (HasFileIn kept) rows → All (IsWhole bytes) rows
  rows_whole rows has = All-weaker (HasFileIn kept) (IsWhole bytes) (λ (row : ItemRow) h. by_file row.file h) rows has

module _ (s : State) (v : View) (holds : HoldsOpen s v) where
  abbrev IsLong : FileRef → Type 0
  IsLong file = length (content (contents_at s) file) ≡ file.len

  -- those that are kept do
  pub kept_whole : AreWhole (contents_at s) v.contents.kept None
  kept_whole file named = All-contains IsLong v.contents.kept file (contents_whole s v holds) named

  -- and the staged one
  pub staged_whole : (staged : Option Staged) → Supplies (Unit {0}) s v.contents staged [] → AreWhole (contents_at s) v.contents.kept staged
  staged_whole staged supplies file named =
      let P = MayName v.contents.kept staged in
      All-head IsLong file [] (named_whole s v holds staged (file ∷ []) (supplies_more s v.contents staged [] (file ∷ []) supplies (All-cons P file [] named (All-nil P))))
