use Rattle.std.proofs.Common.{◌≡◌, ◌+◌, ◌<◌, ◌≤◌, ℕ, List, [], ◌∷◌, ◌++◌, length, get_or, sym, ◌∙◌, subst, arith}
use Rattle.std.specs.Prelude.{Contains}
use Rattle.std.proofs.lemmas.Bool.{false≢true}
use Rattle.std.proofs.lemmas.List.{get_or_default}
use Rattle.arti_rows.specs.declared.rows.FileRef.{FileRef}
use Rattle.arti_blobs.specs.Chains.{no_file}
use Rattle.arti_blobs.specs.Contents.{end_of}
use Rattle.arti_blobs.proofs.Kept.{IsIndexed, room, read_old, read_new, read_all}
use Rattle.arti_blobs.proofs.blobs.index_of.Goals as goal
use Rattle.arti_blobs.proofs.blobs.index_of.Goals.{then-not-has+in_ok-push, else-not-has}

pub overflow_add-end : goal.overflow_add-end
overflow_add-end c =
    let files = c.args.kept.now in
    let i = c.files.file-index in
    let file : FileRef = get_or files i no_file in
    let lt : i < length files = c.files-test.true in
    let is_not : Contains c.files.index file → ⊥ = λ is. false≢true (sym c.if-not-has.true ∙ c.has.ensures.1 is) in
    let fits : c.files.end + file.len ≤ end_of c.requires.0 =
    room files i file c.files.index c.files.end lt (get_or_default files i file no_file lt) c.files.invariant is_not c.requires.0 c.requires.1 in
    omega (arith, fits, c.requires.2)

pub files-preserved : goal.files-preserved
files-preserved c =
    let files = c.args.kept.now in
    let i = c.files.file-index in
    let file : FileRef = get_or files i no_file in
    let lt : i < length files = c.files-test.true in
    let same : get_or files i file ≡ file = get_or_default files i file no_file lt in
    elim c.if-not-has.branch [
      | then-not-has+in_ok-push w ↦
          let is_not : Contains c.files.index file → ⊥ = λ is. false≢true (sym w.if-not-has.true ∙ c.has.ensures.1 is) in
          subst (λ (l : List FileRef). IsIndexed files (i + 1) l c.if-not-has.end) (sym (w.index-is ∙ w.in_ok-push.ensures.more))
          (subst (λ (n : ℕ). IsIndexed files (i + 1) (c.files.index ++ file ∷ []) n) (sym w.end-is)
          (read_new files i file c.files.index c.files.end lt same c.files.invariant is_not c.requires.0 c.requires.1))
      | else-not-has w ↦
          subst (λ (l : List FileRef). IsIndexed files (i + 1) l c.if-not-has.end) (sym w.index-is)
          (subst (λ (n : ℕ). IsIndexed files (i + 1) c.files.index n) (sym w.end-is)
          (read_old files i file c.files.index c.files.end lt same c.files.invariant (c.has.ensures.0 w.if-not-has.false)))
    ]

pub returns-clause-only : goal.returns-clause-only
returns-clause-only c = λ all keeps. read_all c.args.kept.now c.files.index all c.files.file-index c.files.end c.files-test.false c.files.invariant keeps
