use Rattle.std.proofs.Common.{rules, ◌≡◌, ◌-◌, length, refl, sym, ◌∙◌}
use Rattle.arti_journal.specs.Parts.{HasRoom}
use Rattle.arti_journal.proofs.Chains.{no_head, no_room, head_is, open_read}
use Rattle.arti_journal.proofs.reading.read_head.Goals as goal

pub returns-then-n-lt5-clause-none : goal.returns-then-n-lt5-clause-none
returns-then-n-lt5-clause-none g c = λ tells is bodies follow.
    no_head _ _ c.read.new.out c.args.place c.in_ok-n.n (c.in_ok-n.ensures.bytes tells) refl (search rules) c.if-head-ne1.false (search rules) bodies follow

pub returns-then-not-has_room-clause-none : goal.returns-then-not-has_room-clause-none
returns-then-not-has_room-clause-none g c = λ tells is bodies follow.
    let long : length c.read.new.out ≡ 5 = search rules in
    let bad : ¬ HasRoom c.body_length-len.result (c.args.size - c.args.place) = search rules in
    no_room _ _ c.read.new.out c.args.place c.in_ok-n.n (c.in_ok-n.ensures.bytes tells) refl (search rules) (search rules) long c.body_length-len.result c.args.size c.if-head-ne1.false c.body_length-len.ensures.length (search rules) bad bodies follow

pub returns-clause-open : goal.returns-clause-open
returns-clause-open g c = λ tells.
    let long : length c.read.new.out ≡ 5 = search rules in
    sym (head_is _ _ c.read.new.out c.args.place c.in_ok-n.n (c.in_ok-n.ensures.bytes tells) refl (search rules) (search rules) long) ∙ open_read c.read.new.out c.body_length-len.result long c.if-head-ne1.false c.body_length-len.ensures.bytes
