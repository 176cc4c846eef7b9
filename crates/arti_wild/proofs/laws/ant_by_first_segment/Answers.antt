use Rattle.arti_wild.proofs.AntLemmas.{ant_end, ant_double_star, ant_other, ant_open_end}
use Rattle.arti_wild.proofs.laws.ant_by_first_segment.Goals as goal

pub returns : goal.returns
returns c = record {
  end = λ path. ant_end path;
  double_star = λ pattern path. ant_double_star pattern path;
  other = λ first pattern path plain. ant_other first pattern path plain;
  open_end = λ pattern. ant_open_end pattern;
}
