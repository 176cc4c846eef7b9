use Rattle.arti_aql_lex.proofs.Readings.{number_token}
use Rattle.arti_aql_lex.proofs.lexer.Lexer.text_of.Goals as goal

pub returns-clause-number : goal.returns-clause-number
returns-clause-number c = λ number. number_token c.args.self.now.text c.args.token.now c.requires number
