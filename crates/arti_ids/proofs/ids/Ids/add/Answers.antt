use Rattle.std.proofs.Common.{◌≡◌, ◌<◌, ◌⊎◌, ℕ, true, length, sym, ap, ◌∙◌, subst, vec_capacity, Vec, Global}
use Rattle.std.specs.Prelude.{◌==◌}
use Rattle.std.specs.List.{list_any}
use Rattle.arti_ids.specs.Ids.{IdList}
use Rattle.arti_ids.specs.Kept.{kept_list}
use Rattle.arti_ids.proofs.ids.Ids.add.Goals as goal

pub add_to-requires-clause-ready : goal.add_to-requires-clause-ready
add_to-requires-clause-ready c =
    let list_is : c.args.self.now ≡ record { ids = c.in-Many.ids.value.items; capacity = vec_capacity c.in-Many.ids.value } = sym c.self.view_is ∙ ap kept_list c.in-Many.is in
    subst (λ (v : Vec ℕ Global). (length v.items < vec_capacity v) ⊎ (list_any (λ x. x == c.args.id) v.items ≡ true)) (sym c.deref_mut.ensures.value)
    (subst (λ (l : IdList). (length l.ids < l.capacity) ⊎ (list_any (λ x. x == c.args.id) l.ids ≡ true)) list_is c.requires.ready)
