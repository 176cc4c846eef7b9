use Rattle.std.proofs.Common.{◌≡◌, drop}
use Rattle.arti_model.specs.Requests.{values_of}
use Rattle.arti_wire.specs.Fields.{texts_of}
use Rattle.arti_wire.proofs.fields.first_of.Given as goal

abbrev pub invariant-loop-field : goal.invariant-loop-field
invariant-loop-field l =
    values_of l.name (texts_of (drop l.field-index l.fields)) ≡ values_of l.name (texts_of l.fields)
