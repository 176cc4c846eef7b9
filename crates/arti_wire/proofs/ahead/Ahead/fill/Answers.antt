use Rattle.std.proofs.Common.{◌≡◌, ◌+◌, ◌-◌, ◌≤◌, ◌++◌, length, take, drop, sym, ap, ◌∙◌, arith, append_assoc, rules}
use Rattle.std.specs.Prelude.{slice_range}
use Rattle.std.proofs.lemmas.Grind.{common_steps}
use Rattle.arti_wire.specs.declared.ahead.Ahead.TheInside.{Inside}
use Rattle.arti_wire.proofs.AheadLemmas.{grow_range}
use Rattle.arti_wire.proofs.ahead.Ahead.fill.Goals as goal
use Rattle.arti_wire.proofs.ahead.Ahead.fill.Goals.{then-self-gt0, else-self-gt0}

pub returns-clause-bytes : goal.returns-clause-bytes
returns-clause-bytes g c = λ tells.
    let inside = c.if-self-gt0.self-inside in
    let n = c.in_ok-n.n in
    let left = g.S.Source.left c.read_behind.new.source in
    let view : slice_range inside.room.items inside.start inside.end ≡ c.args.self.now =
    elim c.if-self-gt0.branch [
      | then-self-gt0 w ↦
          let size = c.self.inside.end - c.self.inside.start in
          let whole : size - 0 ≡ size = omega arith in
          ap (λ (i : Inside). slice_range i.room.items i.start i.end) w.self-inside-is
          ∙ ap (λ m. take m w.settle.new.room.items) whole
          ∙ w.settle.ensures.front
          ∙ c.self.view_is
      | else-self-gt0 w ↦ ap (λ (i : Inside). slice_range i.room.items i.start i.end) w.self-inside-is ∙ c.self.view_is
    ] in
    let order : inside.start ≤ inside.end = grind (arith, common_steps) in
    let grown = grow_range inside.room.items c.read_behind.new.room.items inside.start inside.end n order c.read_behind.ensures.front in
    ap (λ f. f ++ left) (grown ∙ ap (λ v. v ++ take n (drop inside.end c.read_behind.new.room.items)) view)
    ∙ append_assoc c.args.self.now (take n (drop inside.end c.read_behind.new.room.items)) left
    ∙ ap (λ r. c.args.self.now ++ r) (sym (c.in_ok-n.ensures.bytes tells))
