use Rattle.std.proofs.Common.{ℕ, List, ap, ◌∙◌}
use Rattle.arti_tree.specs.Shifts.{merge}
use Rattle.arti_tree.proofs.Merging.{merge_is}
use Rattle.arti_tree.proofs.ids.add_ids.Goals as goal

pub returns-clause-more : goal.returns-clause-more
returns-clause-more c =
    c.in_ok-all.ensures ∙ ap (λ (l : List ℕ). merge l c.args.more.now) c.deref.ensures.value ∙ merge_is c.args.ids.now.items c.args.more.now c.requires.ascend c.requires.more_ascend c.requires.absent
