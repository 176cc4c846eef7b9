use Rattle.std.proofs.Common.{◌≡◌, ℕ, ◌≤◌, List, [], length, sym, ◌∙◌, ap, subst, arith, rules}
use Rattle.std.proofs.lemmas.Bool.{false≢true}
use Rattle.arti_rows.specs.declared.rows.FileRef.{FileRef}
use Rattle.arti_ground.specs.State.{Bytes}
use Rattle.arti_blobs.specs.Contents.{Contents, end_of, Keeps, AllDiffer}
use Rattle.arti_store.specs.Store.{AreDistinct}
use Rattle.arti_store.proofs.References.{keeps_once}
use Rattle.arti_store.proofs.Openings.{distinct_if, differ_if}
use Rattle.arti_store.proofs.recovery.open_contents.Goals as goal

pub returns-then-kept_length-size-clause-none : goal.returns-then-kept_length-size-clause-none
returns-then-kept_length-size-clause-none g c = λ tells is all keeps short within distinct.
    let files : List FileRef = c.args.files.now in
    let kept : Keeps [] files c.in-Some.blobs.kept = search rules in
    let same : all ≡ c.in-Some.blobs.kept = keeps_once files [] all c.in-Some.blobs.kept keeps kept in
    omega (arith, within, ap end_of same, c.kept_length.ensures.sum, c.in_ok-size.ensures.length tells, c.if-kept_length-size.true)

pub returns-in-Ok-true-clause-distinct : goal.returns-in-Ok-true-clause-distinct
returns-in-Ok-true-clause-distinct g c = λ tells.
    let files : List FileRef = c.args.files.now in
    let bytes : List ℕ = (g.G.Ground.state c.args.ground.now).files 3 in
    let kept : Keeps [] files c.in-Some.blobs.kept = search rules in
    let third = ap (λ (b : Bytes). b 3) (c.length.ensures.disk tells).files in
    let differ : AllDiffer bytes c.in-Some.blobs.kept =
    subst (λ (b : List ℕ). AllDiffer b c.in-Some.blobs.kept) third ((c.in-Ok-true.ensures.differ tells).0 c.in-Ok-true.field-0-test) in
    let within : end_of c.in-Some.blobs.kept ≤ length bytes = omega (arith, c.kept_length.ensures.sum, c.in_ok-size.ensures.length tells, c.if-kept_length-size.false) in
    subst (λ (l : List FileRef). AreDistinct bytes l) (sym (ap (λ (b : Contents). b.kept) c.all_differ.ensures.unchanged)) (distinct_if bytes files c.in-Some.blobs.kept kept within differ)

pub returns-in-Ok-false-clause-none : goal.returns-in-Ok-false-clause-none
returns-in-Ok-false-clause-none g c = λ tells is all keeps short within distinct.
    let files : List FileRef = c.args.files.now in
    let bytes : List ℕ = (g.G.Ground.state c.args.ground.now).files 3 in
    let kept : Keeps [] files c.in-Some.blobs.kept = search rules in
    let same : all ≡ c.in-Some.blobs.kept = keeps_once files [] all c.in-Some.blobs.kept keeps kept in
    let third = ap (λ (b : Bytes). b 3) (c.length.ensures.disk tells).files in
    let differ = subst (λ (b : List ℕ). AllDiffer b c.in-Some.blobs.kept) (sym third) (differ_if bytes c.in-Some.blobs.kept (subst (λ (l : List FileRef). AreDistinct bytes l) same distinct)) in
    false≢true (sym c.in-Ok-false.field-0-test ∙ (c.in-Ok-false.ensures.differ tells).1 differ)
