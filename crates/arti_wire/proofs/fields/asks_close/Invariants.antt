use Rattle.std.proofs.Common.{◌≡◌, drop}
use Rattle.arti_model.specs.Requests.{has_close}
use Rattle.arti_wire.specs.Fields.{texts_of}
use Rattle.arti_wire.proofs.fields.asks_close.Given as goal

abbrev pub invariant-loop-field : goal.invariant-loop-field
invariant-loop-field l = has_close (texts_of (drop l.field-index l.fields)) ≡ has_close (texts_of l.fields)
