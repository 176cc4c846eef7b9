use Rattle.std.proofs.Common.{◌≡◌, ℕ, ◌+◌, List, ◌∷◌, None, cond, get_or, drop, sym, ap, ◌∙◌, subst}
use Rattle.std.proofs.lemmas.List.{drop_more}
use Rattle.arti_tree.specs.Rows.{without_rows}
use Rattle.arti_tree.specs.Slots.{at, live}
use Rattle.arti_tree.specs.Renames.{has}
use Rattle.arti_tree.proofs.Leaving.{ToGo, to_go_first, to_go_next, emptied_next}
use Rattle.arti_tree.proofs.removing.fell_all.Goals as goal

pub fell-requires-clause-live : goal.fell-requires-clause-live
fell-requires-clause-live c =
    let ids = c.args.ids.now in
    let i = c.loop-id.id-index in
    let slots = c.loop-id.slots.items in
    to_go_first slots (get_or ids i 0) (drop (i + 1) ids) (subst (ToGo slots) (drop_more ids i 0 c.loop-id-test.true) c.loop-id.invariant.to_go)

pub loop-id-preserved : goal.loop-id-preserved
loop-id-preserved c =
    let ids = c.args.ids.now in
    let i = c.loop-id.id-index in
    let inv = c.loop-id.invariant in
    let slots = c.loop-id.slots.items in
    let more = c.fell.new.slots.items in
    let id : ℕ = get_or ids i 0 in
    let rest : List ℕ = drop (i + 1) ids in
    let next : drop i ids ≡ id ∷ rest = drop_more ids i 0 c.loop-id-test.true in
    record {
      to_go = to_go_next slots more id rest c.fell.ensures.each (subst (ToGo slots) next inv.to_go);
      rows = ap (without_rows rest) c.fell.ensures.rows ∙ sym (ap (λ (l : List ℕ). without_rows l (live 0 slots)) next) ∙ inv.rows;
      each = λ j. emptied_next id rest j None (at slots j) (at more j) (c.fell.ensures.each j) ∙ sym (ap (λ (l : List ℕ). cond (has l j) None (at slots j)) next) ∙ inv.each j;
      differ = c.fell.ensures.differ;
      order = c.fell.ensures.order;
    }
