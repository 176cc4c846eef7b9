use Rattle.std.proofs.lemmas.Result.{IfOk-weaker, IfErr-weaker}
use Rattle.arti_definitions.proofs.Documents.{document-read, document-none}
use Rattle.arti_definitions.proofs.reading.document_of.Goals as goal

pub returns-clause-ok : goal.returns-clause-ok
returns-clause-ok c = IfOk-weaker c.read.result _ _ (λ v h. document-read c.args.bytes.now _ h.0 h.1) c.read.ensures.ok

pub returns-clause-fault : goal.returns-clause-fault
returns-clause-fault c = IfErr-weaker c.read.result _ _ (λ e h not_memory. let f = h not_memory in (f.0, document-none c.args.bytes.now f.1)) c.read.ensures.fault
