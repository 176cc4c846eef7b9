use Rattle.std.proofs.Common.{◌≡◌, ◌+◌, ◌≤◌, ℕ, ◌++◌, length, take, drop, Option, Some, sym, ◌∙◌, ap, subst, arith}
use Rattle.std.specs.Prelude.{IsSomeAnd}
use Rattle.arti_rows.specs.Sizes.{contents_file}
use Rattle.arti_blobs.specs.declared.staging.Staging.{Staging}
use Rattle.arti_blobs.specs.Digests.{Has}
use Rattle.arti_blobs.specs.Contents.{Contents, end_of, staged_length}
use Rattle.arti_blobs.proofs.Fronts.{images_keep, moments_behind, written_more}
use Rattle.arti_blobs.proofs.blobs.Blobs.stage_piece.Goals as goal

pub returns-in_err-write_at-clause-images : goal.returns-in_err-write_at-clause-images
returns-in_err-write_at-clause-images g c = λ tells.
    let end : end_of c.args.self.now.kept ≡ c.self.inside.end = sym (ap (λ (b : Contents). end_of b.kept) c.self.view_is) ∙ sym c.self.invariant.end_is in
    images_keep (end_of c.args.self.now.kept) (c.self.inside.end + c.unwrap-staging.result.len) (length c.args.piece.now) (omega (arith, end))
    (g.G.Ground.state c.args.outside.now) (g.G.Ground.state c.write_at.new.self) (c.write_at.ensures.images tells)

pub returns-in_err-write_at-clause-moments : goal.returns-in_err-write_at-clause-moments
returns-in_err-write_at-clause-moments g c = λ tells.
    let end : end_of c.args.self.now.kept ≡ c.self.inside.end = sym (ap (λ (b : Contents). end_of b.kept) c.self.view_is) ∙ sym c.self.invariant.end_is in
    moments_behind (end_of c.args.self.now.kept) (c.self.inside.end + c.unwrap-staging.result.len) (length c.args.piece.now) (omega (arith, end))
    (g.G.Ground.state c.args.outside.now) (g.G.Ground.state c.write_at.new.self) (c.write_at.ensures.images tells) (c.write_at.ensures.time tells)

pub returns-clause-images : goal.returns-clause-images
returns-clause-images g c = λ tells.
    let end : end_of c.args.self.now.kept ≡ c.self.inside.end = sym (ap (λ (b : Contents). end_of b.kept) c.self.view_is) ∙ sym c.self.invariant.end_is in
    images_keep (end_of c.args.self.now.kept) (c.self.inside.end + c.unwrap-staging.result.len) (length c.args.piece.now) (omega (arith, end))
    (g.G.Ground.state c.args.outside.now) (g.G.Ground.state c.write_at.new.self) (c.write_at.ensures.images tells)

pub returns-clause-moments : goal.returns-clause-moments
returns-clause-moments g c = λ tells.
    let end : end_of c.args.self.now.kept ≡ c.self.inside.end = sym (ap (λ (b : Contents). end_of b.kept) c.self.view_is) ∙ sym c.self.invariant.end_is in
    moments_behind (end_of c.args.self.now.kept) (c.self.inside.end + c.unwrap-staging.result.len) (length c.args.piece.now) (omega (arith, end))
    (g.G.Ground.state c.args.outside.now) (g.G.Ground.state c.write_at.new.self) (c.write_at.ensures.images tells) (c.write_at.ensures.time tells)

pub returns-clause-written : goal.returns-clause-written
returns-clause-written g c = λ tells bytes held.
    let end : end_of c.args.self.now.kept ≡ c.self.inside.end = sym (ap (λ (b : Contents). end_of b.kept) c.self.view_is) ∙ sym c.self.invariant.end_is in
    let begun : c.args.self.now.staging ≡ Some c.unwrap-staging.result = sym (ap (λ (b : Contents). b.staging) c.self.view_is) ∙ sym c.take.ensures.value ∙ c.unwrap-staging.ensures in
    let has : Has c.unwrap-staging.result bytes = subst (λ (o : Option Staging). IsSomeAnd o (λ s. Has s bytes)) begun held.staged in
    let within : end_of c.args.self.now.kept + c.unwrap-staging.result.len ≤ length ((g.G.Ground.state c.args.outside.now).files contents_file) =
    subst (λ (o : Option Staging). end_of c.args.self.now.kept + staged_length o ≤ length ((g.G.Ground.state c.args.outside.now).files contents_file)) begun (c.requires.holds tells) in
    let kept : end_of c.self.inside.index ≡ end_of c.args.self.now.kept = ap (λ (b : Contents). end_of b.kept) c.self.view_is in
    record {
      staged = c.take-2.ensures.bytes bytes has;
      there = ap (λ (n : ℕ). take (length (bytes ++ c.args.piece.now)) (drop n ((g.G.Ground.state c.write_at.new.self).files contents_file))) kept
          ∙ written_more ((g.G.Ground.state c.args.outside.now).files contents_file) c.args.piece.now ((g.G.Ground.state c.write_at.new.self).files contents_file) (c.self.inside.end + c.unwrap-staging.result.len)
          (omega (arith, within, end)) (c.in_ok-write_at.ensures.written tells).here (end_of c.args.self.now.kept) bytes (omega (arith, end, has.counted)) held.there;
    }
