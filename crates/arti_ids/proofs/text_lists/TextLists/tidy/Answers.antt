use Rattle.std.proofs.Common.{rules, ◌≡◌, None, sym, ◌∙◌, []}
use Rattle.std.specs.BTreeMap.{get_by_text}
use Rattle.std.proofs.lemmas.Map.Text.{btree_map_updates_text}
use Rattle.arti_ids.specs.Lists.{ids_of}
use Rattle.arti_ids.specs.TextMapLaws.{same, nil_of}
use Rattle.arti_ids.proofs.text_lists.TextLists.tidy.Goals as goal

pub returns-then-is_empty : goal.returns-then-is_empty
returns-then-is_empty c =
    let none : ids_of (get_by_text c.args.self.now.lists c.args.text.now) ≡ [] = sym c.list.ensures.ids ∙ nil_of c.list.result.now (search rules) in
    record {
      ids = same (get_by_text c.args.self.now.lists) (get_by_text c.remove.new.self) c.args.text.now None (btree_map_updates_text c.args.text.now c.args.self.now.lists c.remove.new.self None c.remove.ensures.updates)
          ids_of (sym none);
    }
