use Rattle.arti_targets.proofs.SpanLemmas.{captures_are_cut}
use Rattle.arti_targets.proofs.filling.target_of.Goals as goal

pub named_by-requires : goal.named_by-requires
named_by-requires c = captures_are_cut c.args.text.now c.args.spans.now c.utf8.text c.requires.captures
