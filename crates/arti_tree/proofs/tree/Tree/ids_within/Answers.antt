use Rattle.arti_tree.specs.Renames.{AreWithin}
use Rattle.std.proofs.Common.{rules}
use Rattle.arti_tree.proofs.Sorting.{within_sorted, ascends_sorted}
use Rattle.arti_tree.proofs.tree.Tree.ids_within.Goals as goal

pub returns-clause-within : goal.returns-clause-within
returns-clause-within c =
    within_sorted c.args.self.now c.args.from.now c.find_beneath.new.found.items c.sort_unstable.new.self.items (search rules) c.sort_unstable.ensures.permutation

pub returns-clause-ascend : goal.returns-clause-ascend
returns-clause-ascend c =
    let w : AreWithin c.args.self.now c.args.from.now c.sort_unstable.new.self.items =
    within_sorted c.args.self.now c.args.from.now c.find_beneath.new.found.items c.sort_unstable.new.self.items (search rules) c.sort_unstable.ensures.permutation in
    ascends_sorted c.sort_unstable.new.self.items w.once c.sort_unstable.ensures.sorted
