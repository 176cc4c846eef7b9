use Rattle.std.proofs.Common.{◌≡◌, take, map}
use Rattle.httparse.specs.Spans.{header_bytes}
use Rattle.arti_wire.specs.Fields.{texts_of}
use Rattle.arti_wire.proofs.head.fields_at.Given as goal

abbrev pub invariant-loop-header : goal.invariant-loop-header
invariant-loop-header l = texts_of l.fields.items ≡ map (header_bytes l.bytes) (take l.header-index l.headers)
