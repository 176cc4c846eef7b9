use Rattle.std.proofs.Common.{◌-◌, length}
use Rattle.arti_tree.proofs.Finding.{FindsWithin}
use Rattle.arti_tree.proofs.tree.Tree.find_beneath.Given as goal

abbrev pub invariant-folders : goal.invariant-folders
invariant-folders l = FindsWithin l.self l.from l.fn.id l.found.items l.next

abbrev pub decreases-folders : goal.decreases-folders
decreases-folders l = length l.self - l.next
