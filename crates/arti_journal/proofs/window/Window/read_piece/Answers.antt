use Rattle.arti_journal.proofs.Pieces.{given}
use Rattle.arti_journal.proofs.window.Window.read_piece.Goals as goal

pub returns-clause-taken : goal.returns-clause-taken
returns-clause-taken g c = λ tells.
    given c.reach.new.self ((g.G.Ground.state c.args.outside.now).files c.args.self.now.file) c.args.out.now c.give.new.out c.args.at c.give.result
    (c.reach.ensures.shows tells) c.give.ensures.taken c.give.ensures.inside c.give.ensures.all c.give.ensures.reached (c.in_ok-reach.ensures.there tells)
