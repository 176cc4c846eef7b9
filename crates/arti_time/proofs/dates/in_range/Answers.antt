use Rattle.std.proofs.Common.{to_z-of_z, FitsSigned, w64}
use Rattle.arti_time.proofs.RangeLemmas.{moment_at_is}
use Rattle.arti_time.proofs.dates.in_range.Goals as goal

pub returns : goal.returns
returns c =
    let fits : FitsSigned w64 c.args.ms = c.ranges.ms in
    moment_at_is c.new.result c.args.ms (simp to_z-of_z at c.new.ensures.some) (simp to_z-of_z at c.new.ensures.value)
