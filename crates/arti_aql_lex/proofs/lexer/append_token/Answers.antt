use Rattle.std.proofs.Common.{sym, rules}
use Rattle.arti_aql_lex.proofs.Readings.{plain_utf8}
use Rattle.arti_aql_lex.proofs.lexer.append_token.Goals as goal

pub returns-clause-utf8 : goal.returns-clause-utf8
returns-clause-utf8 c = let h = plain_utf8 c.args.text.now c.args.token c.requires (sym c.if-is_words.ensures) in search rules
