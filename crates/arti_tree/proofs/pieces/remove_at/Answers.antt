use Rattle.std.proofs.Common.{ℕ, List, length, sym, ap, ◌∙◌, subst, arith}
use Rattle.std.specs.List.{concat}
use Rattle.std.proofs.lemmas.List.Edits.{length-remove}
use Rattle.arti_tree.specs.Pieces.{lists, HasStarts}
use Rattle.arti_tree.proofs.pieces.remove_at.Goals as goal

pub remove_near-at-requires-clause-has : goal.remove_near-at-requires-clause-has
remove_near-at-requires-clause-has c = subst (λ (l : List ℕ). HasStarts l c.args.blocks.now.items) (sym c.deref.ensures.value) c.requires.has

pub restart_all-requires-clause-few : goal.restart_all-requires-clause-few
restart_all-requires-clause-few c =
    omega (arith, c.requires.few, ap (λ (l : List ℕ). length l) (c.merge_around.ensures.items ∙ c.remove_near-at.ensures.items), length-remove (concat (lists c.args.blocks.now.items)) c.args.place c.requires.place)
