use Rattle.arti_aql_lex.proofs.Readings.{quoted}
use Rattle.arti_aql_lex.proofs.lexer.append_words.Goals as goal

pub append_literal-appended-requires-clause-boundary : goal.append_literal-appended-requires-clause-boundary
append_literal-appended-requires-clause-boundary c = (quoted c.args.text.now c.args.token c.utf8.text c.requires.token c.requires.words).boundary

pub append_literal-appended-requires-clause-closed : goal.append_literal-appended-requires-clause-closed
append_literal-appended-requires-clause-closed c = (quoted c.args.text.now c.args.token c.utf8.text c.requires.token c.requires.words).closed

pub returns-else-is_err-clause-ok : goal.returns-else-is_err-clause-ok
returns-else-is_err-clause-ok c = let value = (quoted c.args.text.now c.args.token c.utf8.text c.requires.token c.requires.words).value in rw value c.append_literal-appended.ensures.ok

pub returns-else-is_err-clause-utf8 : goal.returns-else-is_err-clause-utf8
returns-else-is_err-clause-utf8 c = let value = (quoted c.args.text.now c.args.token c.utf8.text c.requires.token c.requires.words).value in rw value c.append_literal-appended.ensures.utf8
