use Rattle.std.proofs.Common.{sym, ◌∙◌}
use Rattle.arti_service.proofs.Asking.{item_local}
use Rattle.arti_service.proofs.ask.ask_of.Goals as goal

pub ask_on-requires : goal.ask_on-requires
ask_on-requires c = item_local c.args.request.now c.in-Some.key (sym c.in_ok-item_asked.ensures ∙ c.in-Some.is)
