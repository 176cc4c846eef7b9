use Rattle.arti_catalog.proofs.Within.{there_within, not_none}
use Rattle.arti_catalog.proofs.parts.Parts.within.Goals as goal

pub returns-in_ok-within-in-Some : goal.returns-in_ok-within-in-Some
returns-in_ok-within-in-Some c =
    there_within c.args.self.now.tree c.args.self.now.rows c.args.key.now c.requires.fits c.in-Some.id c.in-Some.ensures c.in_ok-within-in-Some.field-0.items
    c.in_ok-within-in-Some.ensures.within c.in_ok-within-in-Some.ensures.ascend

pub returns-in-None : goal.returns-in-None
returns-in-None c = absurd (not_none c.args.self.now.tree c.args.self.now.rows c.args.key.now c.requires.fits c.requires.there c.in-None.ensures)
