-- Rows that stand in boxes.
use Rattle.std.specs.Prelude.{Option, option_map, Box, box_value}
use Rattle.std.specs.declared.alloc.Global.{Global}
use Rattle.arti_rows.specs.declared.rows.ItemRow.{ItemRow}

-- the row without its box
abbrev pub opened : Option (Box ItemRow Global) → Option ItemRow
opened o = option_map box_value o
