use Rattle.arti_wild.proofs.SplitLemmas.{greatest_splits, at_most_greatest, no_splits}
use Rattle.arti_wild.proofs.laws.greatest_of_all_splits.Goals as goal

pub returns : goal.returns
returns c = record {
  split = λ parts text lengths e. greatest_splits parts text lengths e;
  greatest = λ parts text lengths others e s. at_most_greatest parts text lengths others e s;
  none = λ parts text lengths e s. no_splits parts text lengths e s;
}
