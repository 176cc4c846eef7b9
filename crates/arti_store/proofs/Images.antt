-- What is read of a store's files, and what a crash may leave of them, stands for it, and goes on to do so.
use Rattle.std.proofs.Common.{◌≡◌, inr, ℕ, List, Option, sym, subst, arith}
use Rattle.std.specs.Prelude.{All}
use Rattle.arti_ground.specs.State.{State, Passes, Follows}
use Rattle.arti_ground.specs.Moments.{passes_map}
use Rattle.arti_journal.specs.Journal.{StandsFor}
use Rattle.arti_blobs.specs.declared.staging.Staging.{Staging}
use Rattle.arti_blobs.specs.Contents.{end_of, HoldsContents, KeepsFront, Behind}
use Rattle.arti_model.specs.Apply.{Holding}
use Rattle.arti_store.specs.Items.{items_of, HasFileIn}
use Rattle.arti_store.specs.Changes.{references}
use Rattle.arti_store.specs.Store.{View, holding_of, Makes, HoldsOpen, Standing}
use Rattle.arti_store.proofs.Meanings.{has_items}
use Rattle.arti_store.proofs.Holdings.{makes_stays, seen_stays}

-- ---- calls that leave what is kept

module _ (old new : State) (v : View) (staging : Option Staging) (has : All (HasFileIn v.contents.kept) v.rows) (holds : HoldsOpen old v) where
  abbrev later : View
  later = record v { contents = record { kept = v.contents.kept; staging = staging } }

  abbrev end : ℕ
  end = end_of v.contents.kept

  pub holding_stays : KeepsFront end old.files new.files → holding_of (new.files 3) later ≡ holding_of (old.files 3) v
  holding_stays front = seen_stays (old.files 3) (new.files 3) (references holds.changes) v.contents.kept holds.reads.refer front.here (items_of v.rows) (has_items v.contents.kept v.rows has)

  pub store_stays : KeepsFront end old.files new.files → Follows (KeepsFront end) old new → HoldsContents new later.contents → HoldsOpen new later
  store_stays front images contents =
      let same = holding_stays front in
      let limits = v.limits in
      record {
        bodies = holds.bodies;
        changes = holds.changes;
        journal = record {
          reads = subst (λ (b : List ℕ). StandsFor holds.bodies b) (sym (front.others 1 (omega arith))) holds.journal.reads;
          images = λ c left. let was = images c left in subst (λ (b : List ℕ). StandsFor holds.bodies b) (sym (was.2.others 1 (omega arith))) (holds.journal.images was.0 was.1);
          length_is = holds.journal.length_is;
        };
        each = holds.each;
        reads = subst (λ (h : Holding). Makes limits holds.changes (new.files 3) v.contents.kept h) (sym same)
            (makes_stays limits holds.changes (old.files 3) (new.files 3) v.contents.kept (holding_of (old.files 3) v) front.here holds.reads);
        images = λ c left.
            let was = images c left in
            subst (λ (h : Holding). Makes limits holds.changes (c 3) v.contents.kept h) (sym same)
            (makes_stays limits holds.changes (was.0 3) (c 3) v.contents.kept (holding_of (old.files 3) v) was.2.here (holds.images was.0 was.1));
        contents = contents;
      }

  pub standing : Passes old new (Behind old end) → Passes old new (Standing old v)
  standing passes = passes_map old new (Behind old end) (Standing old v) (λ c w here. record {
    told = here.told;
    image = record {
      bodies = holds.bodies;
      changes = holds.changes;
      kept = v.contents.kept;
      journal = inr (subst (λ (b : List ℕ). StandsFor holds.bodies b) (sym (here.front.others 1 (omega arith))) (holds.journal.images here.from here.was));
      each = holds.each;
      makes = makes_stays v.limits holds.changes (here.from 3) (c 3) v.contents.kept (holding_of (old.files 3) v) here.front.here (holds.images here.from here.was);
      used_is = holds.journal.length_is;
    };
  }) passes
