use Rattle.std.proofs.Common.{◌≡◌, inl, inr, List, sym, ap, subst}
use Rattle.std.specs.Prelude.{All, Contains}
use Rattle.arti_rows.specs.declared.rows.FileRef.{FileRef}
use Rattle.arti_blobs.specs.Contents.{Contents}
use Rattle.arti_store.specs.Items.{HasFileIn}
use Rattle.arti_store.specs.Changes.{references_of}
use Rattle.arti_store.specs.Commit.{kept_and}
use Rattle.arti_store.proofs.Holdings.{has_more}
use Rattle.arti_store.proofs.Commits.{and_contains}
use Rattle.arti_store.proofs.commit.take_up.Goals as goal

pub returns-in_err-keep_added-clause-either : goal.returns-in_err-keep_added-clause-either
returns-in_err-keep_added-clause-either c = inl (ap (λ (b : Contents). b.kept) c.in_err-keep_added.ensures.unchanged)

pub returns-clause-either : goal.returns-clause-either
returns-clause-either c = inr c.in_ok-keep_added.ensures.kept

pub returns-clause-files : goal.returns-clause-files
returns-clause-files c =
    let old : List FileRef = c.args.blobs.now.kept in
    let new : List FileRef = c.keep_added.new.blobs.kept in
    let kept : new ≡ kept_and old c.args.added = c.in_ok-keep_added.ensures.kept in
    c.do_all.ensures.files new
    (subst (λ (l : List FileRef). All (HasFileIn l) c.args.rows.now) (sym kept) (has_more old (kept_and old c.args.added) (λ f is. and_contains old c.args.added f is) c.args.rows.now c.requires.files))
    (subst (λ (l : List FileRef). All (Contains l) (references_of c.args.change.now.edits)) (sym kept) c.requires.references)
