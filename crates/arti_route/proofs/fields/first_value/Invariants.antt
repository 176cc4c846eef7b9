use Rattle.std.proofs.Common.{◌≡◌, drop}
use Rattle.arti_model.specs.Deploys.{first_value}
use Rattle.arti_wire.specs.Fields.{texts_of}
use Rattle.arti_route.proofs.fields.first_value.Given as goal

abbrev pub invariant-loop-field : goal.invariant-loop-field
invariant-loop-field l = first_value (texts_of (drop l.field-index l.fields)) l.name ≡ first_value (texts_of l.fields) l.name
