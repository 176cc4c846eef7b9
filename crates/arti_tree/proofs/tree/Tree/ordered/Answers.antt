use Rattle.std.proofs.Common.{List, ap, ◌∙◌, subst}
use Rattle.arti_tree.specs.Rows.{Row, ids}
use Rattle.arti_tree.specs.Slots.{live}
use Rattle.arti_tree.specs.ByKey.{by_key, KeysOnce}
use Rattle.arti_tree.proofs.Ordering.{order_is, keys_once}
use Rattle.arti_tree.proofs.tree.Tree.ordered.Goals as goal

pub returns-clause-rows : goal.returns-clause-rows
returns-clause-rows c =
    let t = c.self.inside in
    c.blocks-2.ensures ∙ order_is (live 0 t.slots.items) t.order.items c.self.invariant.order_is ∙ ap (λ (l : List Row). ids (by_key l)) c.self.view_is

pub returns-clause-once : goal.returns-clause-once
returns-clause-once c =
    let t = c.self.inside in
    subst KeysOnce c.self.view_is (keys_once (live 0 t.slots.items) t.order.items c.self.invariant.order_is)
