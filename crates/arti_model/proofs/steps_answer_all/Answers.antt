use Rattle.arti_model.proofs.Runs.{steps_answer}
use Rattle.arti_model.proofs.steps_answer_all.Goals as goal

pub returns : goal.returns
returns c = steps_answer
