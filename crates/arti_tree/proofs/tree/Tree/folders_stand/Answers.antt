use Rattle.arti_tree.proofs.Climbing.{all_folders}
use Rattle.arti_tree.proofs.tree.Tree.folders_stand.Goals as goal

pub returns : goal.returns
returns c = λ r live. all_folders c.args.self.now r.key c.rules.ensures (c.rules.ensures.keys r live) (c.rules.ensures.folders r live)
