use Rattle.arti_aql_parse.proofs.OneReading.{query_one}
use Rattle.arti_aql_parse.proofs.laws.texts_spell_one_query.Goals as goal

pub returns : goal.returns
returns c = λ text p q s t. query_one s.reads t.reads
