use Rattle.std.proofs.Common.{ℕ, ◌+◌, ◌-◌, ◌/◌, length, slice_index, arith, sym, ap, ◌∙◌}
use Rattle.arti_rows.specs.Key.{Key, key_cmp}
use Rattle.arti_tree.specs.Slots.{key_at}
use Rattle.arti_tree.specs.Searched.{key}
use Rattle.arti_tree.proofs.Order.{before_more, behind_more}
use Rattle.arti_tree.proofs.searching.place_of.Goals as goal

pub places-preserved-in-Less : goal.places-preserved-in-Less
places-preserved-in-Less c =
    let keys : ℕ → Key = λ i. key_at c.args.slots.now (slice_index c.args.order.now.items i) in
    record {
      range = omega arith;
      within = omega arith;
      before = before_more keys (length c.args.order.now.items) (c.places.low + (c.places.high - c.places.low) / 2) (key c.args.repo.now c.args.path.now c.args.name.now) c.requires.rising (omega arith) (ap (λ (n : ℕ). key_cmp (key_at c.args.slots.now n) (key c.args.repo.now c.args.path.now c.args.name.now)) (sym c.get.ensures) ∙ sym c.in-Less.ensures);
      behind = c.places.invariant.behind;
    }

pub places-preserved : goal.places-preserved
places-preserved c =
    let keys : ℕ → Key = λ i. key_at c.args.slots.now (slice_index c.args.order.now.items i) in
    record {
      range = omega arith;
      within = omega arith;
      before = c.places.invariant.before;
      behind = behind_more keys (length c.args.order.now.items) (c.places.low + (c.places.high - c.places.low) / 2) (key c.args.repo.now c.args.path.now c.args.name.now) c.requires.rising (ap (λ (n : ℕ). key_cmp (key_at c.args.slots.now n) (key c.args.repo.now c.args.path.now c.args.name.now)) (sym c.get.ensures) ∙ sym c.in-Greater.ensures);
    }
