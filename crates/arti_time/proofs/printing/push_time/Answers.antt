use Rattle.std.proofs.Common.{string_bytes}
use Rattle.std.proofs.lemmas.Result.{on_ok_weaker}
use Rattle.arti_time.proofs.PrintedLemmas.{join_two}
use Rattle.arti_time.proofs.printing.push_time.Goals as goal

pub returns : goal.returns
returns c =
    on_ok_weaker c.push_second.result (join_two (string_bytes c.args.out.now) _ _ _ _ c.in_ok-push_minute.ensures)
    c.push_second.ensures
