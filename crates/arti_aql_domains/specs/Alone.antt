-- Criteria on a row by itself.
use Rattle.std.specs.Prelude.{Bool, true, false, ◌&&◌, List, [], ◌∷◌, Option, Some}
use Rattle.arti_query_model.specs.declared.fields.Rel.{Rel}
use Rattle.arti_query_model.specs.Criteria.{every, some, leaf, Conds, nothing, part}
use Rattle.arti_query_model.specs.World.{RowTest, Criterion, meets}
use Rattle.arti_aql_domains.specs.declared.held.Row.{Row}
use Rattle.arti_aql_domains.specs.RowValues.{row_world}

abbrev pub is_root_path : List Rel → Bool
is_root_path [] = true
is_root_path (rel ∷ rels) = false

abbrev mutual
  -- whether only the root's own fields and properties are tested
  pub is_alone : Criterion → Bool
  is_alone (every parts) = are_alone parts
  is_alone (some parts) = are_alone parts
  is_alone (leaf path test) = is_root_path path

  pub are_alone : Conds Rel RowTest → Bool
  are_alone nothing = true
  are_alone (part c parts) = is_alone c && are_alone parts

-- what rows are related to each
abbrev pub Related : Type 0
Related = Row → Rel → List Row

-- whether a row by itself meets a test
abbrev pub tested : RowTest → Option Row → Bool
tested t row = meets (row_world (λ r rel. [])) t row

-- the row at each path
abbrev pub this_row : Row → List Rel → Option Row
this_row row path = Some row
