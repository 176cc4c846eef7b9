use Rattle.std.proofs.Common.{rules, ◌≡◌, ◌+◌, ◌-◌, length, take, drop, ap, ◌∙◌, arith}
use Rattle.arti_journal.specs.Parts.{Seen}
use Rattle.arti_journal.proofs.Pieces.{copied_from}
use Rattle.arti_journal.proofs.window.Window.give.Goals as goal

pub returns-clause-taken : goal.returns-clause-taken
returns-clause-taken c =
    let skip = c.args.at - c.self.inside.from in
    let copied : c.copy_from_slice.new.self ≡ take (skip + c.min-n.result - skip) (drop skip c.self.inside.buf.items) = search rules in
    let long : length c.copy_from_slice.new.self ≡ c.min-n.result = search rules in
    copied_from c.self.inside.buf.items c.copy_from_slice.new.self (drop c.min-n.result c.args.out.now) skip c.min-n.result c.self.inside.len copied long (omega arith)
    ∙ ap (λ (s : Seen). take c.min-n.result (drop (c.args.at - s.from) s.held)) c.self.view_is
