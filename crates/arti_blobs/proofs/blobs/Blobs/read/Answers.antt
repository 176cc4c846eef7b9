use Rattle.std.proofs.Common.{◌≡◌, ◌+◌, ◌≤◌, List, length, sym, ap, subst, arith}
use Rattle.std.specs.Prelude.{Contains}
use Rattle.std.proofs.lemmas.List.Elements.{All-contains}
use Rattle.arti_rows.specs.declared.rows.FileRef.{FileRef}
use Rattle.arti_rows.specs.Sizes.{contents_file}
use Rattle.arti_blobs.specs.Contents.{Contents, end_of}
use Rattle.arti_blobs.proofs.Blocks.{read_content}
use Rattle.arti_blobs.proofs.blobs.Blobs.read.Goals as goal

pub returns-clause-bytes : goal.returns-clause-bytes
returns-clause-bytes g c = λ tells.
    let file = c.args.file.now in
    let end = c.self.inside.end in
    let bytes = (g.G.Ground.state c.args.outside.now).files contents_file in
    let kept : c.self.inside.index ≡ c.args.self.now.kept = ap (λ (b : Contents). b.kept) c.self.view_is in
    let within : file.place + file.len ≤ end =
    All-contains (λ (f : FileRef). f.place + f.len ≤ end) c.self.inside.index file c.self.invariant.within (subst (λ (l : List FileRef). Contains l file) (sym kept) c.requires.kept) in
    let reach : end ≤ length bytes = omega (arith, c.requires.holds tells, c.self.invariant.end_is, ap end_of kept) in
    read_content bytes file c.args.buf.now c.read.new.buf c.args.at c.min-n.result c.in_ok-read.field-0 (c.in_ok-read.ensures.bytes tells) c.min-n.ensures c.read.auto.buf (omega (arith, within, reach)) (omega arith)
