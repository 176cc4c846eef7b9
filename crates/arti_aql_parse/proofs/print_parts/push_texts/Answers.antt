use Rattle.std.proofs.Common.{◌∙◌, ap, ◌++◌, string_bytes}
use Rattle.json.specs.Print.{quoted}
use Rattle.arti_aql_parse.proofs.PrintRows.{row_step}
use Rattle.arti_aql_parse.proofs.print_parts.push_texts.Goals as goal

pub loop-i-preserved : goal.loop-i-preserved
loop-i-preserved c =
    row_step quoted c.args.texts.now c.loop-i.i c.index-texts-i.result (string_bytes c.args.out.now) (string_bytes c.loop-i.out) (string_bytes c.push_comma.new.out) (string_bytes c.push_text.new.out)
    c.loop-i-test.true c.index-texts-i.is c.loop-i.invariant c.in_ok-push_comma.ensures (c.in_ok-push_text.ensures ∙ ap (λ t. string_bytes c.push_comma.new.out ++ quoted t) c.as_str.ensures)
