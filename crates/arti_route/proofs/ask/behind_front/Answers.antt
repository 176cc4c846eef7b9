use Rattle.std.proofs.Common.{false, sym}
use Rattle.std.proofs.lemmas.Str.Pattern.{starts_text}
use Rattle.arti_model.specs.Heads.{local_front}
use Rattle.arti_route.proofs.ask.behind_front.Goals as goal

pub returns-clause-front : goal.returns-clause-front
returns-clause-front c = λ none. sym (starts_text false local_front c.args.target.now (rw none at c.strip_prefix.ensures.cases))
