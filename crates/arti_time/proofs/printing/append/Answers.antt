use Rattle.std.proofs.Common.{ℕ, List, ◌++◌, ap, ◌∙◌, string_bytes}
use Rattle.std.proofs.lemmas.Result.{on_ok_weaker}
use Rattle.arti_time.proofs.PrintedLemmas.{printed_civil}
use Rattle.arti_time.proofs.printing.append.Goals as goal

pub returns : goal.returns
returns c =
    on_ok_weaker c.push_civil.result
    (λ e. e ∙ ap (λ (l : List ℕ). string_bytes c.args.out.now ++ l) (printed_civil c.civil_at.result c.args.moment c.civil_at.ensures.calendar c.civil_at.ensures.range c.civil_at.ensures.moment))
    c.push_civil.ensures
