use Rattle.arti_model.specs.ItemLaws.{items_accepted}
use Rattle.arti_model.proofs.item_changes_are_accepted.Goals as goal

pub returns : goal.returns
returns f c = λ looks limits items moment user sent ask other ok. items_accepted limits items looks moment user sent ask other ok
