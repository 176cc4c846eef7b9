use Rattle.std.proofs.Common.{rules, ◌≡◌, ◌+◌, ◌-◌, take, drop, ◌∷◌}
use Rattle.std.proofs.lemmas.Result.{err_from_is_err_and}
use Rattle.std.specs.Int.{w32, to_be_bytes}
use Rattle.arti_journal.specs.Parts.{HasRoom}
use Rattle.arti_journal.proofs.Chains.{record_read}
use Rattle.arti_journal.proofs.reading.next_body.Goals as goal

pub returns-in_err-read_head-clause-none : goal.returns-in_err-read_head-clause-none
returns-in_err-read_head-clause-none g c = λ tells is bodies follow.
    let p = err_from_is_err_and c.from_residual.result c.from_residual.ensures.1 in
    c.in_err-read_head.ensures.none tells (cc) bodies follow

pub returns-in_ok-read_body-in-Some-clause-body : goal.returns-in_ok-read_body-in-Some-clause-body
returns-in_ok-read_body-in-Some-clause-body g c = λ tells.
    let bytes = (g.G.Ground.state c.args.outside.now).files c.args.window.now.file in
    let front : take 5 (drop c.args.place bytes) ≡ 1 ∷ to_be_bytes w32 c.in-Some.len = search rules in
    let room : HasRoom c.in-Some.len (c.args.size - c.args.place) = search rules in
    let is : c.in_ok-read_body-in-Some.field-0.items ≡ take c.in-Some.len (drop (c.args.place + 5) bytes) = search rules in
    record_read bytes c.in_ok-read_body-in-Some.field-0.items c.args.place c.in-Some.len c.args.size front room (c.requires.size tells) c.requires.place (search rules) is
