use Rattle.std.proofs.Common.{ℕ, List, ◌∙◌, subst}
use Rattle.arti_tree.specs.Ids.{IsGap}
use Rattle.arti_tree.proofs.IdLists.{insert_gap}
use Rattle.arti_tree.proofs.ids.add_id.Goals as goal

pub returns-in_ok-insert-in-Err-clause-more : goal.returns-in_ok-insert-in-Err-clause-more
returns-in_ok-insert-in-Err-clause-more c =
    c.in_ok-insert-in-Err.ensures.items
    ∙ insert_gap c.args.id c.args.ids.now.items c.in-Err.place (subst (λ (l : List ℕ). IsGap l c.args.id c.in-Err.place) c.deref.ensures.value c.in-Err.ensures.gap)
