use Rattle.std.proofs.Common.{subst, sym, inl}
use Rattle.arti_ground.specs.State.{Bytes}
use Rattle.arti_ground.specs.Moments.{reads_one}
use Rattle.arti_journal.specs.Journal.{IsJournal}
use Rattle.arti_journal.proofs.Opens.{opening_since, opening_now}
use Rattle.arti_journal.proofs.journal.Journal.open.Goals as goal

pub returns-clause-none : goal.returns-clause-none
returns-clause-none g c = λ tells is bodies stands.
    c.read_or_make.ensures.none tells is bodies (subst (λ (b : Bytes). IsJournal bodies (b c.args.file)) (sym (c.sync.ensures.disk tells).files) stands)

pub returns-clause-now : goal.returns-clause-now
returns-clause-now g c = λ tells.
    opening_now (g.G.Ground.state c.args.outside.now) (g.G.Ground.state c.sync.new.self) (g.G.Ground.state c.read_or_make.new.outside) c.args.file
    (g.met.G.Ground.sound c.sync.new.self tells) (g.met.G.Ground.sound c.read_or_make.new.outside tells) (c.in_ok-sync.ensures.durable tells) (c.sync.ensures.disk tells).files (c.sync.ensures.told tells) (c.read_or_make.ensures.moments tells)

pub returns-clause-moments : goal.returns-clause-moments
returns-clause-moments g c = λ tells.
    let old = g.G.Ground.state c.args.outside.now in
    let mid = g.G.Ground.state c.sync.new.self in
    inl (opening_since old mid (g.G.Ground.state c.read_or_make.new.outside) c.args.file (g.met.G.Ground.sound c.args.outside.now tells)
    (reads_one old mid (c.sync.ensures.disk tells) (c.sync.ensures.told tells) (c.sync.ensures.time tells))
    (g.met.G.Ground.sound c.sync.new.self tells) (c.in_ok-sync.ensures.durable tells) (c.read_or_make.ensures.moments tells))
