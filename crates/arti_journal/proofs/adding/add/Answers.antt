use Rattle.arti_journal.proofs.Appends.{first_moments, all_moments, leaves}
use Rattle.arti_journal.proofs.adding.add.Goals as goal

pub returns-in_err-write_synced-clause-moments : goal.returns-in_err-write_synced-clause-moments
returns-in_err-write_synced-clause-moments g c = λ tells bodies holds.
    first_moments _ _ c.args.file c.args.used _ bodies c.args.framed.now holds c.bytes.ensures.fits (c.write_synced.ensures.moments tells)

pub returns-in_err-write_synced-2-clause-moments : goal.returns-in_err-write_synced-2-clause-moments
returns-in_err-write_synced-2-clause-moments g c = λ tells bodies holds.
    all_moments (g.G.Ground.state c.args.outside.now) (g.G.Ground.state c.write_synced.new.outside) c.args.file c.args.used _ bodies c.args.framed.now holds c.bytes.ensures.fits c.bytes.ensures.bytes (c.in_ok-write_synced.ensures.written tells)
    (c.in_ok-write_synced.ensures.durable tells) (c.write_synced.ensures.told tells) (g.G.Ground.state c.write_synced-2.new.outside)
    (g.met.G.Ground.sound c.args.outside.now tells).stays (c.write_synced.ensures.moments tells) (c.write_synced-2.ensures.moments tells)

pub returns-clause-moments : goal.returns-clause-moments
returns-clause-moments g c = λ tells bodies holds.
    all_moments (g.G.Ground.state c.args.outside.now) (g.G.Ground.state c.write_synced.new.outside) c.args.file c.args.used _ bodies c.args.framed.now holds c.bytes.ensures.fits c.bytes.ensures.bytes (c.in_ok-write_synced.ensures.written tells)
    (c.in_ok-write_synced.ensures.durable tells) (c.write_synced.ensures.told tells) (g.G.Ground.state c.write_synced-2.new.outside)
    (g.met.G.Ground.sound c.args.outside.now tells).stays (c.write_synced.ensures.moments tells) (c.write_synced-2.ensures.moments tells)

pub returns-clause-ok : goal.returns-clause-ok
returns-clause-ok g c = λ tells bodies holds.
    leaves (g.G.Ground.state c.args.outside.now) (g.G.Ground.state c.write_synced.new.outside) c.args.file c.args.used _ bodies c.args.framed.now holds c.bytes.ensures.fits c.bytes.ensures.bytes (c.in_ok-write_synced.ensures.written tells)
    (c.in_ok-write_synced.ensures.durable tells) (c.write_synced.ensures.told tells) (g.G.Ground.state c.write_synced-2.new.outside)
    (c.in_ok-write_synced-2.ensures.written tells) (c.in_ok-write_synced-2.ensures.durable tells)
