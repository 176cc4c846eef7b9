use Rattle.std.proofs.Common.{◌∙◌}
use Rattle.std.specs.Option.{option_copied}
use Rattle.arti_catalog.specs.Held.{items_in}
use Rattle.arti_moves.proofs.Standing.{folder_is_found}
use Rattle.arti_moves.proofs.plans.is_folder_at.Goals as goal

pub returns : goal.returns
returns c = c.is_folder.ensures ∙ folder_is_found c.args.key.now (items_in c.args.catalog.now) c.rules.ensures.order (option_copied c.find.result) c.find.ensures
