-- What a judgement says.
use Rattle.std.specs.Prelude.{◌≡◌, ◌≢◌, Result, Ok, Err, Option, Some, None, Bool, true, false, if◌then◌else◌, ℕ, nat_lt, List, length}
use Rattle.std.specs.Option.{option_map_or}
use Rattle.arti_rows.specs.declared.rows.ItemRow.{ItemRow}
use Rattle.arti_rows.specs.declared.rows.Property.{Property}
use Rattle.arti_rows.specs.declared.refusal.Refusal.{Refusal}
use Rattle.arti_rows.specs.declared.refusal.Refusal.TheVariants as refusal
use Rattle.arti_model.specs.Edits.{most_props, props_set}
use Rattle.arti_catalog.specs.Held.{at}
use Rattle.arti_catalog.specs.declared.fault.ApplyFault.{ApplyFault}
use Rattle.arti_catalog.specs.declared.fault.ApplyFault.TheVariants.{Refused, Memory}

-- it is that refusal, or none; but for want of memory
abbrev pub Judges : Result (Unit {0}) Refusal → Option Refusal → Type 0
Judges (Ok done) why = why ≡ None
Judges (Err e) why = e ≢ refusal.Memory → why ≡ Some e

-- the same of a change that is applied where it isn't refused
abbrev pub Applies : Result (Unit {0}) ApplyFault → Option Refusal → Type 0
Applies (Ok done) why = why ≡ None
Applies (Err (Refused e)) why = why ≡ Some e
Applies (Err Memory) why = Unit {0}

-- a refusal is want of memory
abbrev pub is_memory : Refusal → Bool
is_memory refusal.Memory = true
is_memory e = false

-- a refusal as a fault
abbrev pub fault_of : Refusal → ApplyFault
fault_of e = if is_memory e then Memory else Refused e

-- the row at an id would get too many properties
abbrev pub gets_too_many : List Property → List (Option ItemRow) → ℕ → Bool
gets_too_many named rows id = option_map_or (λ row. nat_lt most_props (length (props_set named row.props))) (at rows id) false
