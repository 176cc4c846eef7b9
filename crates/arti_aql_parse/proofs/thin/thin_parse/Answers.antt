use Rattle.std.proofs.Common.{◌∙◌}
use Rattle.arti_aql_parse.proofs.ThinFronts.{one_key, key_utf8}
use Rattle.arti_aql_parse.proofs.thin.thin_parse.Goals as goal

pub unreachable-requires : goal.unreachable-requires
unreachable-requires c = c.in-Err-from_utf8.ensures.cases.0 (key_utf8 _ c.in-Ok.ensures.found.name)

pub returns-in_ok-from_str-in-Ok-from_utf8-clause-only : goal.returns-in_ok-from_str-in-Ok-from_utf8-clause-only
returns-in_ok-from_str-in-Ok-from_utf8-clause-only c = λ key asks. c.in_ok-from_str-in-Ok-from_utf8.ensures ∙ c.in-Ok-from_utf8.ensures.cases.0 ∙ one_key c.args.body.now _ key c.in-Ok.ensures.found asks
