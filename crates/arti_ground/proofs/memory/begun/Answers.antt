use Rattle.std.proofs.Common.{ap, rules}
use Rattle.arti_ground.proofs.Records.{fresh_kept}
use Rattle.arti_ground.proofs.memory.begun.Goals as goal

pub invariant_of-result : goal.invariant_of-result
invariant_of-result c = fresh_kept c.args.files.items c.in_ok-copies.field-0.items c.in_ok-with_capacity-2.field-0 c.in_ok-with_capacity.field-0.items c.in_ok-with_capacity.ensures.items c.requires (search rules)
