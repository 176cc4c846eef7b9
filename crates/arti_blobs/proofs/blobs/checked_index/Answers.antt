use Rattle.std.proofs.Common.{ℕ, ◌<◌, length, get_or, Option, subst}
use Rattle.std.specs.Prelude.{IfSome}
use Rattle.std.proofs.lemmas.List.{get_or_default}
use Rattle.arti_rows.specs.declared.rows.FileRef.{FileRef}
use Rattle.arti_blobs.specs.Chains.{no_file, Adds}
use Rattle.arti_blobs.proofs.Kept.{follows_not}
use Rattle.arti_blobs.proofs.Checked.{checked_more}
use Rattle.arti_blobs.proofs.blobs.checked_index.Goals as goal

pub returns-in-None-clause-none : goal.returns-in-None-clause-none
returns-in-None-clause-none c = λ none all keeps short.
    let files = c.args.files.now in
    let i = c.files.file-index in
    let file : FileRef = get_or files i no_file in
    let lt : i < length files = c.files-test.true in
    follows_not files i file c.files.index c.files.end lt (get_or_default files i file no_file lt) c.files.invariant.indexed (c.in_ok-add_one.ensures.none c.in-None.is) all keeps short

pub files-preserved : goal.files-preserved
files-preserved c =
    let files = c.args.files.now in
    let i = c.files.file-index in
    let file : FileRef = get_or files i no_file in
    let lt : i < length files = c.files-test.true in
    checked_more files i file c.files.index c.files.end lt (get_or_default files i file no_file lt) c.files.invariant c.add_one.new.index c.in-Some.next
    (subst (λ (o : Option ℕ). IfSome o (Adds c.files.index c.files.end file c.add_one.new.index)) c.in-Some.is c.in_ok-add_one.ensures.added)
