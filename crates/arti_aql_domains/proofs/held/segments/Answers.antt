use Rattle.std.proofs.Common.{sym, ◌∙◌}
use Rattle.arti_aql_domains.proofs.Slashes.{segments_below, segments_at_root}
use Rattle.arti_aql_domains.proofs.held.segments.Goals as goal

pub returns-then-is_root-clause-value : goal.returns-then-is_root-clause-value
returns-then-is_root-clause-value c = c.at_root.ensures.value ∙ sym (segments_at_root c.args.path.now c.args.name.now (sym c.if-is_root.true ∙ c.is_root.ensures))

pub returns-else-is_root-clause-value : goal.returns-else-is_root-clause-value
returns-else-is_root-clause-value c = c.below.ensures.value ∙ sym (segments_below c.args.path.now c.args.name.now (sym c.if-is_root.false ∙ c.is_root.ensures))
