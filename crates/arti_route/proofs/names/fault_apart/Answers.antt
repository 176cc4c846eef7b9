use Rattle.std.proofs.Common.{sym, ap, ◌∙◌}
use Rattle.std.specs.Option.{option_or}
use Rattle.std.specs.List.{join_with_byte}
use Rattle.arti_rows.specs.Names.{path_fault}
use Rattle.arti_route.proofs.Naming.{apart-joined}
use Rattle.arti_route.proofs.names.fault_apart.Goals as goal

pub returns-then-not-some_has_slash : goal.returns-then-not-some_has_slash
returns-then-not-some_has_slash c = λ _. apart-joined c.args.segments.now (sym c.some_has_slash.ensures ∙ c.if-not-some_has_slash.true)

pub returns : goal.returns
returns c = λ memory. ap (λ f. option_or f (path_fault (join_with_byte 47 c.args.segments.now))) (c.first_fault.ensures memory)
