use Rattle.std.proofs.Common.{◌≡◌, [], rules}
use Rattle.arti_journal.proofs.Makes.{first_moments, all_moments, made}
use Rattle.arti_journal.proofs.making.make.Goals as goal

pub returns-in_err-write_synced-clause-moments : goal.returns-in_err-write_synced-clause-moments
returns-in_err-write_synced-clause-moments g c = λ tells.
    first_moments (g.G.Ground.state c.args.outside.now) (g.G.Ground.state c.cut.new.self) c.args.file (c.requires.short tells) (c.cut.ensures.told tells) (c.cut.ensures.images tells) _ (c.cut.ensures.time tells) (c.write_synced.ensures.moments tells)

pub returns-in_err-write_synced-2-clause-moments : goal.returns-in_err-write_synced-2-clause-moments
returns-in_err-write_synced-2-clause-moments g c = λ tells.
    let emptied : (g.G.Ground.state c.cut.new.self).files c.args.file ≡ [] = search rules in
    all_moments (g.G.Ground.state c.args.outside.now) (g.G.Ground.state c.cut.new.self) c.args.file (c.requires.short tells) (c.cut.ensures.told tells) (c.cut.ensures.images tells) (g.G.Ground.state c.write_synced.new.outside)
    (g.met.G.Ground.sound c.cut.new.self tells).stays emptied (c.in_ok-write_synced.ensures.written tells) (c.in_ok-write_synced.ensures.durable tells) (c.write_synced.ensures.told tells) _
    (c.cut.ensures.time tells) (c.write_synced.ensures.moments tells) (c.write_synced-2.ensures.moments tells)

pub returns-clause-moments : goal.returns-clause-moments
returns-clause-moments g c = λ tells.
    let emptied : (g.G.Ground.state c.cut.new.self).files c.args.file ≡ [] = search rules in
    all_moments (g.G.Ground.state c.args.outside.now) (g.G.Ground.state c.cut.new.self) c.args.file (c.requires.short tells) (c.cut.ensures.told tells) (c.cut.ensures.images tells) (g.G.Ground.state c.write_synced.new.outside)
    (g.met.G.Ground.sound c.cut.new.self tells).stays emptied (c.in_ok-write_synced.ensures.written tells) (c.in_ok-write_synced.ensures.durable tells) (c.write_synced.ensures.told tells) _
    (c.cut.ensures.time tells) (c.write_synced.ensures.moments tells) (c.write_synced-2.ensures.moments tells)

pub returns-clause-ok : goal.returns-clause-ok
returns-clause-ok g c = λ tells.
    let emptied : (g.G.Ground.state c.cut.new.self).files c.args.file ≡ [] = search rules in
    made (g.G.Ground.state c.args.outside.now) (g.G.Ground.state c.cut.new.self) c.args.file (c.requires.short tells) (c.cut.ensures.told tells) (c.cut.ensures.images tells) (g.G.Ground.state c.write_synced.new.outside)
    (g.met.G.Ground.sound c.cut.new.self tells).stays emptied (c.in_ok-write_synced.ensures.written tells) (c.in_ok-write_synced.ensures.durable tells) (c.write_synced.ensures.told tells) _
    (c.in_ok-write_synced-2.ensures.written tells) (c.in_ok-write_synced-2.ensures.durable tells)
