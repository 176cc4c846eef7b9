use Rattle.std.proofs.Common.{◌≡◌, true, sym, ap, ◌∙◌}
use Rattle.arti_main.specs.Words.{is_number}
use Rattle.arti_main.proofs.Numbers.{unparsed}
use Rattle.arti_main.proofs.words.start_of.Goals as goal

pub returns-in_default : goal.returns-in_default
returns-in_default c =
    let number : is_number c.args.text.now ≡ true = ap is_number (sym c.as_bytes.ensures.value) ∙ sym (c.if-not-is_number.ensures) in
    sym (unparsed c.args.text.now c.parse.result c.in_default.field-0 number c.parse.ensures.value.0 c.in_default.is)
