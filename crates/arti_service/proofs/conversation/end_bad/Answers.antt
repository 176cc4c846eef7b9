use Rattle.arti_service.proofs.Talks.{at_stream_end}
use Rattle.arti_service.proofs.conversation.end_bad.Goals as goal

pub returns-in-Err-clause-told : goal.returns-in-Err-clause-told
returns-in-Err-clause-told g c = λ gt. at_stream_end _ _ (λ x none. absurd none) c.ending_of.result c.ending_of.ensures.fault
