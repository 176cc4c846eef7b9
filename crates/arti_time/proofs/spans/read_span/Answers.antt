use Rattle.std.proofs.Common.{◌∙◌, ap}
use Rattle.arti_time.specs.Spans.{span_of}
use Rattle.arti_time.proofs.SpanLemmas.{answer_reads, answer_refuses}
use Rattle.arti_time.proofs.spans.read_span.Goals as goal

pub returns-clause-reads : goal.returns-clause-reads
returns-clause-reads c =
    answer_reads c.args.text.now c.ok_or.result c.milliseconds.result (record {}) c.ok_or.ensures.value (c.milliseconds.ensures ∙ ap span_of c.as_bytes.ensures.value)

pub returns-clause-refuses : goal.returns-clause-refuses
returns-clause-refuses c =
    answer_refuses c.args.text.now c.ok_or.result c.milliseconds.result (record {}) c.ok_or.ensures.value (c.milliseconds.ensures ∙ ap span_of c.as_bytes.ensures.value)
