-- What typed criteria stand for.
use Rattle.std.specs.Prelude.{Bool, true, false, List, map}
use Rattle.arti_query_model.specs.declared.fields.Rel.{Rel}
use Rattle.arti_query_model.specs.declared.fields.Rel.TheVariants.{Item, Build}
use Rattle.arti_query_model.specs.Criteria.{every, some, leaf, Conds}
use Rattle.arti_query_model.specs.World.{RowTest, field, pair, same, Criterion}
use Rattle.arti_query_model.specs.Typing.{conds_of}
use Rattle.arti_query_model.specs.Typed.{PlainTyped}
use Rattle.arti_aql_domains.specs.declared.cond.Cond.{Cond, fold-Cond}
use Rattle.arti_aql_domains.specs.declared.cond.Cond.TheOpen.{Cond-F}
use Rattle.arti_aql_domains.specs.declared.cond.Typed.{Typed}

-- one level, with each condition inside already seen as its criterion
abbrev pub cond_step : Cond-F Criterion → Criterion
cond_step (Cond-F.All parts) = every (conds_of parts.items)
cond_step (Cond-F.Any parts) = some (conds_of parts.items)
cond_step (Cond-F.Same path tests) = leaf path.items (same tests.items)
cond_step (Cond-F.Field path f test) = leaf path.items (field f test)
cond_step (Cond-F.Pair path test) = leaf path.items (pair test)

abbrev pub cond_view : Cond → Criterion
cond_view = fold-Cond Criterion cond_step

abbrev pub conds_view : List Cond → Conds Rel RowTest
conds_view cs = conds_of (map cond_view cs)

-- the domain of the rows that are found
abbrev pub root_rel : Bool → Rel
root_rel true = Build
root_rel false = Item

abbrev pub typed_view : Typed → PlainTyped
typed_view t = record {
  root = root_rel t.builds;
  cond = cond_view t.cond;
  shown = t.shown.items;
  sort = t.sort.items;
  offset = t.offset;
  limit = t.limit;
}
