use Rattle.std.proofs.Common.{◌≡◌, ℕ, ◌+◌, Bool, true, false, cond, eqb, List, [], get_or, drop, Option, None, Vec, Global, sym, ap, ◌∙◌}
use Rattle.std.specs.Option.{option_map_or}
use Rattle.std.specs.Cmp.{unsigned_tied}
use Rattle.std.specs.Ordering.{nat_cmp}
use Rattle.std.specs.BTreeMap.{get, is_at}
use Rattle.std.proofs.lemmas.List.{drop_more}
use Rattle.arti_tree.specs.Children.{list_at}
use Rattle.arti_tree.specs.Renames.{has}
use Rattle.arti_tree.proofs.Leaving.{emptied_next, turned}
use Rattle.arti_tree.proofs.lists.drop_lists.Goals as goal

emptied : (b : Bool) (o n : Option (Vec ℕ Global)) → n ≡ cond b None o → option_map_or (λ (v : Vec ℕ Global). v.items) n [] ≡ cond b [] (option_map_or (λ (v : Vec ℕ Global). v.items) o [])
emptied true o n e = ap (λ (p : Option (Vec ℕ Global)). option_map_or (λ (v : Vec ℕ Global). v.items) p []) e
emptied false o n e = ap (λ (p : Option (Vec ℕ Global)). option_map_or (λ (v : Vec ℕ Global). v.items) p []) e

pub loop-id-preserved : goal.loop-id-preserved
loop-id-preserved c = λ i.
    let ids : List ℕ = c.args.ids.now in
    let n : ℕ = c.loop-id.id-index in
    let id : ℕ = get_or ids n 0 in
    let now : List ℕ = list_at c.loop-id.children i in
    let gone : list_at c.remove.new.self i ≡ cond (eqb i id) [] now =
    emptied (is_at (nat_cmp id) i) (get nat_cmp c.loop-id.children i) (get nat_cmp c.remove.new.self i) (c.remove.ensures.updates.0 i) ∙ ap (λ b. cond b [] now) (unsigned_tied id i ∙ turned id i) in
    emptied_next id (drop (n + 1) ids) i [] now (list_at c.remove.new.self i) gone
    ∙ ap (λ (l : List ℕ). cond (has l i) [] now) (sym (drop_more ids n 0 c.loop-id-test.true)) ∙ c.loop-id.invariant i
