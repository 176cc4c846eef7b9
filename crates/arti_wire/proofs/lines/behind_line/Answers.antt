use Rattle.std.proofs.Common.{◌≡◌, ◌+◌, ◌-◌, length, drop, sym, subst, arith}
use Rattle.std.proofs.lemmas.List.{take_all, length-drop}
use Rattle.arti_wire.specs.Lines.{IsBehindLine}
use Rattle.arti_wire.proofs.EmptyLines.{behind_found}
use Rattle.arti_wire.proofs.lines.behind_line.Goals as goal

pub returns-clause-some : goal.returns-clause-some
returns-clause-some c =
    let bytes = c.args.bytes.now in
    let rest = drop (c.in_ok-k.k + 1) bytes in
    let whole = take_all (length bytes - (c.in_ok-k.k + 1)) rest (omega (arith, length-drop (c.in_ok-k.k + 1) bytes)) in
    subst (IsBehindLine bytes) (sym whole) (behind_found bytes c.in_ok-k.k c.in_ok-k.ensures)
