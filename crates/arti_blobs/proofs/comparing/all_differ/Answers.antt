use Rattle.std.proofs.Common.{◌+◌, ◌≤◌, length, refl, sym, subst, arith}
use Rattle.arti_rows.specs.Sizes.{contents_file}
use Rattle.arti_ground.specs.State.{Bytes}
use Rattle.arti_blobs.proofs.Earlier.{differ_all}
use Rattle.arti_blobs.proofs.comparing.all_differ.Goals as goal

pub has_earlier-requires-clause-holds : goal.has_earlier-requires-clause-holds
has_earlier-requires-clause-holds g c = λ tells file is.
    subst (λ (b : Bytes). file.place + file.len ≤ length (b contents_file)) (sym (c.kept.invariant.reads tells).disk.files) (c.requires.holds tells file is)

pub returns-clause-differ : goal.returns-clause-differ
returns-clause-differ g c = λ tells. (
  λ yes. differ_all ((g.G.Ground.state c.args.outside.now).files contents_file) c.args.index.now (λ at lt has. c.kept.invariant.none tells at (omega (arith, lt, c.kept-test.false, c.len-len.ensures)) has),
  λ differ. refl,
)
