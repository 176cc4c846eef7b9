use Rattle.std.proofs.Common.{sym, ap, ◌∙◌, ⊎_elim, Err}
use Rattle.arti_aql_domains.proofs.Groups.{not_all, not_any, not_same}
use Rattle.arti_aql_domains.proofs.same.same_member.Goals as goal

pub returns-in-All-clause-refused : goal.returns-in-All-clause-refused
returns-in-All-clause-refused c = λ other.
    ⊎_elim
    (λ all. not_all _ _ c.args.member.now all.0 all.1)
    (λ more. ⊎_elim (λ any. not_any _ _ c.args.member.now any.0 any.1) (λ one. not_same _ _ c.args.member.now one.0 one.1) more)
    c.in-All.is
    ∙ ap Err (sym (c.wrong_operator.ensures other))
