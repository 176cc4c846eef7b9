use Rattle.arti_aql_parse.proofs.SpelledFits.{spelled_fits}
use Rattle.arti_aql_parse.proofs.laws.spelled_queries_have_spellings.Goals as goal

pub returns : goal.returns
returns c = spelled_fits
