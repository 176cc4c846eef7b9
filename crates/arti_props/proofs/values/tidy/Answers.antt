use Rattle.std.proofs.Common.{rules, None, sym, ◌∙◌}
use Rattle.std.specs.BTreeMap.{get_by_text}
use Rattle.std.proofs.lemmas.Map.Text.{btree_map_updates_text}
use Rattle.arti_ids.specs.Lists.{ids_of}
use Rattle.arti_props.specs.Lists.{list_in}
use Rattle.arti_ids.specs.TextMapLaws.{same}
use Rattle.arti_props.proofs.values.tidy.Goals as goal

pub returns-then-tidy_key : goal.returns-then-tidy_key
returns-then-tidy_key c = record {
  ids = λ k v.
      let none = c.tidy_key.ensures.none (search rules) v in
      same (get_by_text c.tidy_key.new.values) (get_by_text c.remove.new.self) c.args.key.now None (btree_map_updates_text c.args.key.now c.tidy_key.new.values c.remove.new.self None c.remove.ensures.updates) (λ o. ids_of (list_in o v)) (sym none) k
      ∙ c.tidy_key.ensures.ids k v;
}
