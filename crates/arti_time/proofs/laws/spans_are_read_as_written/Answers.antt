use Rattle.arti_time.proofs.SpanLemmas.{span_of_sound, span_of_complete}
use Rattle.arti_time.proofs.laws.spans_are_read_as_written.Goals as goal

pub returns : goal.returns
returns c = λ text n. (span_of_sound text n, span_of_complete text n)
