use Rattle.std.proofs.Common.{◌≡◌, ◌++◌, drop}
use Rattle.std.specs.Prelude.{map}
use Rattle.arti_tree.specs.Renames.{key_for}
use Rattle.arti_tree.proofs.tree.Tree.new_keys.Given as goal

abbrev pub invariant-loop-id : goal.invariant-loop-id
invariant-loop-id l = l.keys.items ++ map (key_for l.self l.from l.to) (drop l.id-index l.ids) ≡ map (key_for l.self l.from l.to) l.ids
