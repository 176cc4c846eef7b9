use Rattle.std.proofs.Common.{refl, sym, ◌∙◌}
use Rattle.arti_time.specs.Printed.{civil_at, printed}
use Rattle.arti_time.proofs.CivilLemmas.{civil_at_is}
use Rattle.arti_time.proofs.PrintedLemmas.{printed_civil}
use Rattle.arti_time.proofs.laws.printed_writes_the_moment.Goals as goal

pub returns : goal.returns
unfolding printed
returns c = record {
  writes = λ m h. let at = civil_at_is m h in (civil_at m, at.0, at.1, refl);
  only = λ m text h prints. sym prints.3 ∙ printed_civil prints.0 m prints.1 h prints.2;
}
