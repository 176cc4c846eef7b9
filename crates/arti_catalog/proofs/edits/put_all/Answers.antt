use Rattle.std.proofs.Common.{◌≡◌, suc, List, ◌∷◌, drop, length, sym, ap, ◌∙◌, arith, rules}
use Rattle.std.specs.Vec.Iter.{into_iter_items}
use Rattle.arti_rows.specs.declared.rows.ItemRow.{ItemRow}
use Rattle.arti_catalog.specs.Held.{at, put_at}
use Rattle.arti_catalog.proofs.Adding.{put_step}
use Rattle.arti_catalog.proofs.edits.put_all.Goals as goal

pub loop-new-preserved : goal.loop-new-preserved
loop-new-preserved c =
    let n = c.loop-new.place in
    let ids = c.args.ids.now in
    let rest = into_iter_items c.next.new.self in
    let items : into_iter_items c.loop-new.new-iterator ≡ c.in-Some.new ∷ rest = search rules in
    let counted : length (into_iter_items c.loop-new.new-iterator) ≡ suc (length rest) = ap (λ (l : List ItemRow). length l) items in
    record {
      can = search rules;
      finite = search rules;
      left = omega (arith, c.loop-new.invariant.left, counted);
      each = λ i.
          put_step ids n c.in-Some.new rest c.loop-new.rows c.put.new.self (omega (arith, c.loop-new.invariant.left, counted)) (search rules) i
          ∙ sym (ap (λ (l : List ItemRow). put_at (drop n ids) l (at c.loop-new.rows) i) items) ∙ c.loop-new.invariant.each i;
    }
