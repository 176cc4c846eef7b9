use Rattle.std.proofs.Common.{◌+◌, ap, ◌∙◌, arith}
use Rattle.std.specs.List.{prefix_len}
use Rattle.arti_aql_lex.specs.Tokens.{is_blank}
use Rattle.arti_aql_lex.proofs.Rows.{next_ok, next_err}
use Rattle.arti_aql_lex.proofs.lexer.next_token.Goals as goal

pub returns-clause-token : goal.returns-clause-token
returns-clause-token c =
    let d = c.args.bytes.now in
    let blanks = ap (λ n. c.args.at + n) (c.blanks_len.ensures.value ∙ ap (prefix_len is_blank) c.bytes_from.ensures.value) in
    let e = c.token_at.ensures in
    next_ok d c.args.at _ c.requires.within blanks c.token_at.result _ (omega (arith, c.bytes_from-2.ensures.len)) c.bytes_from-2.ensures.value e.value e.within e.end e.some

pub returns-clause-fault : goal.returns-clause-fault
returns-clause-fault c =
    let d = c.args.bytes.now in
    let blanks = ap (λ n. c.args.at + n) (c.blanks_len.ensures.value ∙ ap (prefix_len is_blank) c.bytes_from.ensures.value) in
    let e = c.token_at.ensures in
    next_err d c.args.at _ c.requires.within blanks c.token_at.result _ c.bytes_from-2.ensures.value e.value e.err
