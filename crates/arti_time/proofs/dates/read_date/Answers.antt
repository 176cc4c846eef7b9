use Rattle.std.proofs.Common.{◌∙◌, ap}
use Rattle.arti_time.specs.DateReader.{date_of}
use Rattle.arti_time.proofs.DateLemmas.{answer_reads, answer_refuses}
use Rattle.arti_time.proofs.dates.read_date.Goals as goal

pub returns-clause-reads : goal.returns-clause-reads
returns-clause-reads c =
    answer_reads c.args.text.now c.ok_or.result c.date_of.result (record {}) c.ok_or.ensures.value (c.date_of.ensures ∙ ap date_of c.as_bytes.ensures.value)

pub returns-clause-refuses : goal.returns-clause-refuses
returns-clause-refuses c =
    answer_refuses c.args.text.now c.ok_or.result c.date_of.result (record {}) c.ok_or.ensures.value (c.date_of.ensures ∙ ap date_of c.as_bytes.ensures.value)
