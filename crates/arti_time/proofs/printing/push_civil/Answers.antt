use Rattle.std.proofs.Common.{string_bytes}
use Rattle.std.proofs.lemmas.Result.{on_ok_weaker}
use Rattle.arti_time.proofs.PrintedLemmas.{join_four}
use Rattle.arti_time.proofs.printing.push_civil.Goals as goal

pub returns : goal.returns
returns c =
    on_ok_weaker c.push_mark-2.result
    (join_four (string_bytes c.args.out.now) _ _ _ _ _ _ _ _ c.in_ok-push_date.ensures c.in_ok-push_mark.ensures c.in_ok-push_time.ensures)
    c.push_mark-2.ensures
