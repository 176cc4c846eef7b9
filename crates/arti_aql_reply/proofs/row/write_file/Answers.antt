use Rattle.std.proofs.Common.{rules}
use Rattle.arti_aql_reply.specs.Parts.{size_text}
use Rattle.arti_aql_reply.proofs.row.write_file.Goals as goal

pub returns-in-Some : goal.returns-in-Some
unfolding size_text
returns-in-Some c = search rules

pub returns-in-None : goal.returns-in-None
unfolding size_text
returns-in-None c = search rules
