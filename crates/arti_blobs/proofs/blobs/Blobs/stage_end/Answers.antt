use Rattle.std.proofs.Common.{◌≡◌, ◌+◌, ◌≤◌, ℕ, false, List, length, take, drop, Option, Some, None, Result, refl, sym, ◌∙◌, ap, subst, arith}
use Rattle.std.specs.Prelude.{All, IfOk, IfSome, IsSomeAnd, Contains, ◌↔◌}
use Rattle.std.proofs.lemmas.Bool.{false≢true}
use Rattle.arti_rows.specs.declared.rows.FileRef.{FileRef}
use Rattle.arti_rows.specs.Sizes.{contents_file}
use Rattle.arti_blobs.specs.declared.fault.StageFault.{StageFault}
use Rattle.arti_blobs.specs.declared.staging.Staging.{Staging}
use Rattle.arti_blobs.specs.declared.staging.Staged.{Staged}
use Rattle.arti_ground.specs.State.{Bytes}
use Rattle.arti_rows.specs.DigestsOf.{digests_of}
use Rattle.arti_blobs.specs.Digests.{Has}
use Rattle.arti_blobs.specs.Contents.{Contents, content, end_of, IsSame, HasPair, kept_with, staged_length, HoldsContents}
use Rattle.arti_blobs.proofs.Kept.{end_push}
use Rattle.arti_blobs.proofs.Pairs.{same_is_pair, none_is_pair}
use Rattle.arti_blobs.proofs.blobs.Blobs.stage_end.Goals as goal
use Rattle.arti_blobs.proofs.blobs.Blobs.stage_end.Goals.{in-Some, in-None}

pub returns-clause-kept : goal.returns-clause-kept
returns-clause-kept g c =
    let kept : c.self.inside.index ≡ c.args.self.now.kept = ap (λ (b : Contents). b.kept) c.self.view_is in
    let P : Staged → Type 0 = λ s. s.fresh ≡ false → Contains c.args.self.now.kept s.file in
    elim c.match-kept.branch [
      | in-Some w ↦
          let found : IfSome (Some w.in-Some.kept) (λ (file : FileRef). Contains c.self.inside.index file) = subst (λ (o : Option FileRef). IfSome o (λ file. Contains c.self.inside.index file)) w.in-Some.is c.in_ok-kept.ensures.kept in
          subst (λ (r : Result Staged StageFault). IfOk r P) (sym w.result-is) (λ fresh. subst (λ (l : List FileRef). Contains l w.in-Some.kept) kept found)
      | in-None w ↦ subst (λ (r : Result Staged StageFault). IfOk r P) (sym w.result-is) (λ fresh. absurd (false≢true (sym fresh)))
    ]

pub returns-clause-next : goal.returns-clause-next
returns-clause-next g c = λ tells.
    let before = (g.G.Ground.state c.args.outside.now).files contents_file in
    let after = (g.G.Ground.state c.find_same.new.outside).files contents_file in
    let same : length after ≡ length before = ap (λ (b : Bytes). length (b contents_file)) (c.find_same.ensures.reads tells).disk.files in
    let begun : c.args.self.now.staging ≡ Some c.unwrap-staging.result = sym (ap (λ (b : Contents). b.staging) c.self.view_is) ∙ sym c.take.ensures.value ∙ c.unwrap-staging.ensures in
    let within : end_of c.args.self.now.kept + c.unwrap-staging.result.len ≤ length before =
    subst (λ (o : Option Staging). end_of c.args.self.now.kept + staged_length o ≤ length before) begun (c.requires.holds tells) in
    let P : Staged → Type 0 = λ s. HoldsContents (g.G.Ground.state c.find_same.new.outside) (record { kept = kept_with c.args.self.now.kept s; staging = None }) in
    elim c.match-kept.branch [
      | in-Some w ↦ subst (λ (r : Result Staged StageFault). IfOk r P) (sym w.result-is) (omega (arith, within, same))
      | in-None w ↦ subst (λ (r : Result Staged StageFault). IfOk r P) (sym w.result-is) (omega (arith, within, same, end_push c.args.self.now.kept c.finish-file.result, c.finish-file.ensures.len))
    ]

pub returns-clause-fresh : goal.returns-clause-fresh
returns-clause-fresh g c = λ tells wanted held.
    let bytes = (g.G.Ground.state c.args.outside.now).files contents_file in
    let file = c.finish-file.result in
    let kept : c.self.inside.index ≡ c.args.self.now.kept = ap (λ (b : Contents). b.kept) c.self.view_is in
    let begun : c.args.self.now.staging ≡ Some c.unwrap-staging.result = sym (ap (λ (b : Contents). b.staging) c.self.view_is) ∙ sym c.take.ensures.value ∙ c.unwrap-staging.ensures in
    let has : Has c.unwrap-staging.result wanted = subst (λ (o : Option Staging). IsSomeAnd o (λ s. Has s wanted)) begun held.staged in
    let within : end_of c.args.self.now.kept + c.unwrap-staging.result.len ≤ length bytes =
    subst (λ (o : Option Staging). end_of c.args.self.now.kept + staged_length o ≤ length bytes) begun (c.requires.holds tells) in
    let place : file.place ≡ end_of c.args.self.now.kept = c.finish-file.ensures.place ∙ c.self.invariant.end_is ∙ ap end_of kept in
    let long : file.len ≡ length wanted = c.finish-file.ensures.len ∙ has.counted in
    let its_bytes : content bytes file ≡ wanted =
    ap (λ (n : ℕ). take n (drop file.place bytes)) long ∙ ap (λ (n : ℕ). take (length wanted) (drop n bytes)) place ∙ held.there in
    let its_digests : file.digests ≡ digests_of wanted = c.finish-file.ensures.digests wanted has in
    let Pair : Type 0 = HasPair bytes c.args.self.now.kept wanted (digests_of wanted) in
    let P : Staged → Type 0 = λ s. s.fresh ≡ false ↔ Pair in
    elim c.match-kept.branch [
      | in-Some w ↦
          let found : IfSome (Some w.in-Some.kept) (λ (f : FileRef). Contains c.self.inside.index f) = subst (λ (o : Option FileRef). IfSome o (λ f. Contains c.self.inside.index f)) w.in-Some.is c.in_ok-kept.ensures.kept in
          let same : IfSome (Some w.in-Some.kept) (λ (f : FileRef). IsSame bytes file f) = subst (λ (o : Option FileRef). IfSome o (λ f. IsSame bytes file f)) w.in-Some.is (c.in_ok-kept.ensures.same tells) in
          let pair : Pair = same_is_pair bytes c.args.self.now.kept wanted (digests_of wanted) file its_bytes its_digests w.in-Some.kept (subst (λ (l : List FileRef). Contains l w.in-Some.kept) kept found) same in
          subst (λ (r : Result Staged StageFault). IfOk r P) (sym w.result-is) (λ fresh. pair, λ is. refl)
      | in-None w ↦
          let none : (f : FileRef) → Contains c.args.self.now.kept f → IsSame bytes file f → ⊥ =
          λ f is. c.in_ok-kept.ensures.none tells w.in-None.is f (subst (λ (l : List FileRef). Contains l f) (sym kept) is) in
          let no_pair : Pair → ⊥ =
          none_is_pair bytes c.args.self.now.kept wanted (digests_of wanted) file its_bytes its_digests c.self.inside.end (omega (arith, within, c.self.invariant.end_is, ap end_of kept))
          (subst (All (λ (f : FileRef). f.place + f.len ≤ c.self.inside.end)) kept c.self.invariant.within) (omega (arith, place, within, c.finish-file.ensures.len)) none in
          subst (λ (r : Result Staged StageFault). IfOk r P) (sym w.result-is) (λ fresh. absurd (false≢true (sym fresh)), λ is. absurd (no_pair is))
    ]
