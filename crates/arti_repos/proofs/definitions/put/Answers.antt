use Rattle.std.proofs.Common.{◌≡◌, sym, subst, ◌∙◌, rules}
use Rattle.std.specs.List.{insert}
use Rattle.arti_repos.specs.Definitions.{InOrder, put_definition}
use Rattle.arti_repos.proofs.Places.{put_in_gap, put_in_place, put_in_order}
use Rattle.arti_repos.proofs.definitions.put.Goals as goal

pub returns-in-Ok-clause-put : goal.returns-in-Ok-clause-put
returns-in-Ok-clause-put c = c.set_at.ensures ∙ put_in_place c.args.def c.args.definitions.now.items c.in-Ok.at (search rules)

pub returns-in-Ok-clause-order : goal.returns-in-Ok-clause-order
returns-in-Ok-clause-order c =
    let defs = c.args.definitions.now.items in
    let put : c.set_at.new.definitions.items ≡ put_definition c.args.def defs = c.set_at.ensures ∙ put_in_place c.args.def defs c.in-Ok.at (search rules) in
    subst InOrder (sym put) (put_in_order c.args.def defs c.requires.order)

pub returns-in_ok-insert-in-Err-clause-put : goal.returns-in_ok-insert-in-Err-clause-put
returns-in_ok-insert-in-Err-clause-put c =
    let is : c.insert.new.self.items ≡ insert c.args.definitions.now.items c.in-Err.at c.args.def = search rules in
    is ∙ put_in_gap c.args.def c.args.definitions.now.items c.in-Err.at (search rules)

pub returns-in_ok-insert-in-Err-clause-order : goal.returns-in_ok-insert-in-Err-clause-order
returns-in_ok-insert-in-Err-clause-order c =
    let defs = c.args.definitions.now.items in
    let is : c.insert.new.self.items ≡ insert defs c.in-Err.at c.args.def = search rules in
    let put : c.insert.new.self.items ≡ put_definition c.args.def defs = is ∙ put_in_gap c.args.def defs c.in-Err.at (search rules) in
    subst InOrder (sym put) (put_in_order c.args.def defs c.requires.order)
