use Rattle.arti_wild.proofs.SplitLemmas.{wild_end, wild_star, wild_any, wild_itself}
use Rattle.arti_wild.proofs.laws.wild_by_first_character.Goals as goal

pub returns : goal.returns
returns c = record {
  end = λ text. wild_end text;
  star = λ pattern text. wild_star pattern text;
  any = λ pattern text. wild_any pattern text;
  itself = λ first pattern text a b. wild_itself first pattern text a b;
}
