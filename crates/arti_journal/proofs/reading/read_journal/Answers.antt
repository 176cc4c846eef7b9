use Rattle.std.proofs.Common.{◌≡◌, ◌∙◌, ℕ, subst, sym, ap, take}
use Rattle.std.proofs.lemmas.Result.{err_from_is_err_and}
use Rattle.arti_ground.specs.State.{Bytes}
use Rattle.arti_journal.specs.Journal.{StandsFor, header}
use Rattle.arti_journal.specs.Parts.{Seen}
use Rattle.arti_journal.proofs.Progress.{behind_header}
use Rattle.arti_journal.proofs.reading.read_journal.Goals as goal

pub returns-in_err-read_header-clause-none : goal.returns-in_err-read_header-clause-none
returns-in_err-read_header-clause-none g c = λ tells is bodies stands.
    let p = err_from_is_err_and c.from_residual-in_err-read_header.result c.from_residual-in_err-read_header.ensures.1 in
    let file = ap (λ (s : Seen). s.file) c.in_ok-window.ensures in
    c.in_err-read_header.ensures.none tells (cc) (subst (λ (f : ℕ). take 16 ((g.G.Ground.state c.args.outside.now).files f) ≡ header) (sym file) (behind_header bodies _ stands).0)

pub returns-clause-none : goal.returns-clause-none
returns-clause-none g c = λ tells is bodies stands.
    let file = c.read_header.ensures.file ∙ ap (λ (s : Seen). s.file) c.in_ok-window.ensures in
    c.read_records.ensures.none tells is bodies
    (subst (λ (f : ℕ). StandsFor bodies ((g.G.Ground.state c.read_header.new.outside).files f)) (sym file)
    (subst (λ (b : Bytes). StandsFor bodies (b c.args.file)) (sym (c.in_ok-read_header.ensures.reads tells).disk.files) stands))
