use Rattle.arti_wild.proofs.RowLemmas.{dead_row, star_more}
use Rattle.arti_wild.proofs.capturing.take_star.Goals as goal

pub returns-in-None-clause-dead : goal.returns-in-None-clause-dead
returns-in-None-clause-dead c = λ parts text dead is. dead_row parts text c.args.row.now is c.in-None.ensures

pub returns-in_ok-push-in-Some-clause-alive : goal.returns-in_ok-push-in-Some-clause-alive
returns-in_ok-push-in-Some-clause-alive c = λ parts text alive is are.
    let last = c.in-Some.ensures in
    star_more parts text c.args.row.now c.up_to.new.row c.args.places.now.items c.push.new.places.items c.in-Some.last last.0 last.1 last.2 c.up_to.ensures.places c.up_to.ensures.each c.in_ok-push-in-Some.ensures is are
