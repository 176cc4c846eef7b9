use Rattle.std.proofs.Common.{◌≡◌, ◌-◌, ◌≤◌, length, drop, ap, ◌∙◌, arith}
use Rattle.std.specs.Prelude.{slice_range}
use Rattle.std.proofs.lemmas.List.{length-take, length-drop}
use Rattle.arti_wire.proofs.AheadLemmas.{pass_range}
use Rattle.arti_wire.proofs.ahead.Ahead.pass.Goals as goal

pub returns : goal.returns
returns c =
    let fields = c.self.inside in
    let view : slice_range fields.room.items fields.start fields.end ≡ c.args.self.now = c.self.view_is in
    let fits : c.args.n ≤ fields.end - fields.start =
    omega (arith, ap length view, length-take (fields.end - fields.start) (drop fields.start fields.room.items)) in
    pass_range fields.room.items fields.start fields.end c.args.n fits ∙ ap (drop c.args.n) view
