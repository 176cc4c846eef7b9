-- Rows that stand in boxes.
use Rattle.std.specs.Prelude.{ℕ, List, map, Box}
use Rattle.std.specs.declared.alloc.Global.{Global}
use Rattle.arti_props.specs.declared.row.Row.{Row}

-- the rows without their boxes
abbrev pub opened : List (ℕ × Box Row Global) → List (ℕ × Row)
opened rows = map (λ e. (e.0, e.1.value)) rows
