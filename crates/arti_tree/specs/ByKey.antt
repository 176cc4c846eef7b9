-- The rows in the default order of their keys.
use Rattle.std.specs.Prelude.{◌≤◌, List, [], ◌∷◌, ◌++◌}
use Rattle.std.specs.List.{filter, count_by}
use Rattle.std.specs.Ordering.{is_lt}
use Rattle.arti_rows.specs.Key.{key_cmp, same_key, Key}
use Rattle.arti_tree.specs.Rows.{Row}

-- the rows with one more at its place in the default order, where it takes the place of one of its key
abbrev pub put_row : Row → List Row → List Row
put_row new rows = filter (λ r. is_lt (key_cmp r.key new.key)) rows ++ new ∷ filter (λ r. is_lt (key_cmp new.key r.key)) rows

-- the same for several, one after the other
abbrev pub put_rows : List Row → List Row → List Row
put_rows [] rows = rows
put_rows (r ∷ more) rows = put_rows more (put_row r rows)

-- the rows in the default order
abbrev pub by_key : List Row → List Row
by_key [] = []
by_key (r ∷ rows) = put_row r (by_key rows)

-- no two rows have the same key
abbrev pub KeysOnce : List Row → Type 0
KeysOnce rows = (k : Key) → count_by (λ r. same_key r.key k) rows ≤ 1
