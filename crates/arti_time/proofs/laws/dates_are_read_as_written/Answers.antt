use Rattle.arti_time.proofs.DateLemmas.{date_of_sound, date_of_complete}
use Rattle.arti_time.proofs.laws.dates_are_read_as_written.Goals as goal

pub returns : goal.returns
returns c = λ text m. (date_of_sound text m, date_of_complete text m)
