use Rattle.std.proofs.Common.{◌≡◌, drop}
use Rattle.arti_model.specs.Heads.{has_field}
use Rattle.arti_wire.specs.Fields.{texts_of}
use Rattle.arti_route.proofs.fields.has_field.Given as goal

abbrev pub invariant-loop-field : goal.invariant-loop-field
invariant-loop-field l = has_field (texts_of (drop l.field-index l.fields)) l.name ≡ has_field (texts_of l.fields) l.name
