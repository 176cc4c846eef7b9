use Rattle.std.proofs.Common.{refl, arith, sym, subst, List, drop}
use Rattle.std.specs.Prelude.{Bool}
use Rattle.arti_wild.specs.declared.part.Part.TheVariants.{Char}
use Rattle.arti_wild.specs.Places.{IsRow}
use Rattle.arti_wild.proofs.RowLemmas.{start_rows, dead_whole}
use Rattle.arti_wild.proofs.capturing.star_places.Goals as goal

pub parts-init : goal.parts-init
parts-init c = record {
  within = omega arith;
  size = (c.in_ok-row.ensures c.args.text.now refl).places;
  rows = start_rows c.args.parts.now c.args.text.now c.in_ok-row.row.items c.new-places.result.items (c.in_ok-row.ensures c.args.text.now refl) c.new-places.ensures.items;
}

pub returns-then-not-alive : goal.returns-then-not-alive
returns-then-not-alive c =
    let rest = drop c.parts.i c.args.parts.now in
    let is = subst (λ (row : List Bool). IsRow rest c.args.text.now row) (sym c.as_mut_slice.ensures.value) c.parts.invariant.rows.0 in
    dead_whole c.args.parts.now c.parts.i (Char 0) c.args.text.now c.parts-test.true c.parts.invariant.within (c.in_ok-alive.ensures.dead rest c.if-not-alive.true is)
