-- A repository with its contents seen as something else.
use Rattle.std.specs.Prelude.{List, map, option_map}
use Rattle.arti_model.specs.Store.{Item, Repository}

abbrev pub item_mapped : {F G : Type 0} → (F → G) → Item F → Item G
item_mapped f item = record {
  key = item.key;
  created = item.created;
  created_by = item.created_by;
  modified = item.modified;
  modified_by = item.modified_by;
  updated = item.updated;
  given = item.given;
  file = option_map f item.file;
  props = item.props;
  stat = item.stat;
}

abbrev pub items_mapped : {F G : Type 0} → (F → G) → List (Item F) → List (Item G)
items_mapped f items = map (item_mapped f) items

abbrev pub mapped : {F G : Type 0} → (F → G) → Repository F → Repository G
mapped f r = record { items = items_mapped f r.items }

-- nothing is seen of a content
abbrev pub nothing : {F : Type 0} → F → Unit {0}
nothing x = tt
