use Rattle.std.proofs.Common.{◌≡◌, ◌+◌, ◌≤◌, ℕ, length, take, drop, sym, ◌∙◌, ap, subst, arith}
use Rattle.std.proofs.lemmas.Bool.Decides.{Decides-eqb}
use Rattle.std.proofs.lemmas.Slice.Eq.{slice_eq-Decides}
use Rattle.arti_rows.specs.Sizes.{contents_file}
use Rattle.arti_ground.specs.State.{Bytes, Reads}
use Rattle.arti_blobs.proofs.Blocks.{read_whole}
use Rattle.arti_blobs.proofs.comparing.same_block.Goals as goal

pub returns-then-m-n-clause-same : goal.returns-then-m-n-clause-same
returns-then-m-n-clause-same g c = λ tells.
    let bytes = (g.G.Ground.state c.args.outside.now).files contents_file in
    let n = length c.args.one.now in
    let of_one : c.read.new.buf ≡ take n (drop c.args.first bytes) =
    read_whole bytes c.args.one.now c.read.new.buf c.args.first c.in_ok-n.n (c.in_ok-n.ensures.bytes tells) c.read.auto.buf (c.requires.first tells) in
    let reads : Reads bytes c.args.second c.args.other.now c.read-2.new.buf c.in_ok-m.m =
    subst (λ (b : Bytes). Reads (b contents_file) c.args.second c.args.other.now c.read-2.new.buf c.in_ok-m.m) (c.read.ensures.disk tells).files (c.in_ok-m.ensures.bytes tells) in
    let within : c.args.second + length c.args.other.now ≤ length bytes = omega (arith, c.requires.second tells, c.requires.long) in
    let of_other : c.read-2.new.buf ≡ take n (drop c.args.second bytes) =
    read_whole bytes c.args.other.now c.read-2.new.buf c.args.second c.in_ok-m.m reads c.read-2.auto.buf within
    ∙ ap (λ (k : ℕ). take k (drop c.args.second bytes)) c.requires.long in
    let decides = slice_eq-Decides Decides-eqb c.read.new.buf c.read-2.new.buf c.eq.result c.eq.ensures in
    (λ t. sym of_one ∙ decides.0 t ∙ of_other, λ e. decides.1 (of_one ∙ e ∙ sym of_other))
