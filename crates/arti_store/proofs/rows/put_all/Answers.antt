use Rattle.std.proofs.Common.{◌≡◌, ◌∷◌, rules}
use Rattle.std.specs.Vec.Iter.{into_iter_items}
use Rattle.arti_store.proofs.Places.{next_put}
use Rattle.arti_store.proofs.rows.put_all.Goals as goal

pub loop-new-preserved : goal.loop-new-preserved
loop-new-preserved c =
    let step : into_iter_items c.loop-new.new-iterator ≡ c.in-Some.new ∷ into_iter_items c.next.new.self = search rules in
    (tt, tt, next_put c.args.news.items c.args.rows.now.items _ _ c.in-Some.new c.loop-new.rows c.put.new.rows c.loop-new.invariant.2 step c.put.ensures.put c.put.ensures.order c.put.ensures.capacity c.put.ensures.len)
