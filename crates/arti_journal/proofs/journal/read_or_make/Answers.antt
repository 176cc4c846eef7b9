use Rattle.std.proofs.Common.{⊎_elim, subst, sym, arith}
use Rattle.std.proofs.lemmas.Result.{err_from_is_err_and}
use Rattle.arti_ground.specs.State.{Bytes}
use Rattle.arti_journal.specs.Journal.{StandsFor}
use Rattle.arti_journal.proofs.journal.read_or_make.Goals as goal

pub returns-in_err-used-clause-none : goal.returns-in_err-used-clause-none
returns-in_err-used-clause-none g c = λ tells is bodies stands.
    let p = err_from_is_err_and c.from_residual-in_err-used.result c.from_residual-in_err-used.ensures.1 in
    ⊎_elim
    (λ few. absurd (omega (arith, few.0, c.if-size-le17.false, c.in_ok-size.ensures.length tells)))
    (λ journal. c.in_err-used.ensures.none tells (cc) bodies (subst (λ (b : Bytes). StandsFor bodies (b c.args.file)) (sym (c.length.ensures.disk tells).files) journal))
    stands
