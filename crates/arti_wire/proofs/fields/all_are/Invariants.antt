use Rattle.std.proofs.Common.{◌≡◌, ◌&&◌, drop}
use Rattle.std.specs.List.{list_all}
use Rattle.std.specs.Str.{bytes_eq}
use Rattle.arti_model.specs.Requests.{values_of}
use Rattle.arti_wire.specs.Fields.{texts_of}
use Rattle.arti_wire.proofs.fields.all_are.Given as goal

abbrev pub invariant-loop-field : goal.invariant-loop-field
invariant-loop-field l =
    list_all (λ other. bytes_eq other l.value) (values_of l.name (texts_of (drop l.field-index l.fields)))
    ≡ list_all (λ other. bytes_eq other l.value) (values_of l.name (texts_of l.fields))
