use Rattle.std.proofs.Common.{◌≡◌, Err, length, ap, ◌∙◌, arith, rules}
use Rattle.arti_codec.specs.ChangeBytes.{ChangeBytes}
use Rattle.arti_store.proofs.Lengths.{some_bytes}
use Rattle.arti_store.proofs.commit.frame_change.Goals as goal

pub unreachable-requires : goal.unreachable-requires
unreachable-requires c =
    let one : ChangeBytes c.in-Ok.body.items c.args.change.now = search rules in
    let none : length c.in-Ok.body.items ≡ 0 = c.frame.ensures.empty.0 (c.in-Err-Empty.is ∙ ap Err c.in-Err-Empty.field-0-is) in
    omega (arith, some_bytes c.in-Ok.body.items c.args.change.now one, none)
