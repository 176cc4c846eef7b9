use Rattle.std.proofs.Common.{◌≡◌, ◌<◌, ◌++◌, length, ap, ◌∙◌, string_bytes, arith}
use Rattle.arti_aql_parse.proofs.Joined.{joined_first, joined_next}
use Rattle.arti_aql_parse.proofs.reading.domain.Goals as goal
use Rattle.arti_aql_parse.proofs.reading.domain.Goals.{then-i-gt0+in_ok-push_str, else-i-gt0}

pub loop-i-preserved : goal.loop-i-preserved
loop-i-preserved c =
    let names = c.args.names.now in
    let i = c.loop-i.i in
    let y = c.index-names-i.result in
    let less : i < length names = omega arith in
    let wrote = c.in_ok-push_str-2.ensures.bytes ∙ ap (λ l. string_bytes c.if-i-gt0.domain ++ l) c.as_str.ensures in
    elim c.if-i-gt0.branch [
      | then-i-gt0+in_ok-push_str w ↦ wrote ∙ ap (λ d. string_bytes d ++ y) w.domain-is ∙ ap (λ l. l ++ y) w.in_ok-push_str.ensures.bytes ∙ joined_next names i y (string_bytes c.loop-i.domain) less w.if-i-gt0.true c.index-names-i.is c.loop-i.invariant
      | else-i-gt0 w ↦ let first : i ≡ 0 = omega arith in wrote ∙ ap (λ d. string_bytes d ++ y) w.domain-is ∙ joined_first names i y (string_bytes c.loop-i.domain) less first c.index-names-i.is c.loop-i.invariant
    ]
