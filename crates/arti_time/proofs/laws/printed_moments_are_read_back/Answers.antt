use Rattle.arti_time.proofs.RoundTrip.{read_back}
use Rattle.arti_time.proofs.laws.printed_moments_are_read_back.Goals as goal

pub returns : goal.returns
returns c = λ m h. read_back m h
