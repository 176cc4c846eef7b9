use Rattle.std.proofs.Common.{sym, ◌∙◌, rules}
use Rattle.arti_route.proofs.Naming.{segment_fault-slash, key_fault-segment}
use Rattle.arti_route.proofs.names.segment_fault.Goals as goal

pub returns-then-has_slash : goal.returns-then-has_slash
returns-then-has_slash c = λ _. sym (segment_fault-slash c.args.segment.now (sym c.has_slash.ensures ∙ c.if-has_slash.true))

pub returns : goal.returns
returns c = λ memory.
    let same = key_fault-segment c.args.repo.now c.args.segment.now c.requires (sym c.has_slash.ensures ∙ c.if-has_slash.false) in
    let is = c.path_fault.ensures memory in
    search (rules, same, is)
