use Rattle.std.proofs.Common.{◌≡◌, ◌∙◌, sym, ap, Option, Some}
use Rattle.std.specs.Prelude.{if◌then◌else◌, option_copied}
use Rattle.arti_props.specs.declared.row.Row.{Row}
use Rattle.arti_ids.specs.Ids.{with_id, without_id}
use Rattle.arti_ids.specs.Lists.{ids_of}
use Rattle.arti_props.specs.Rows.{has, ids_where}
use Rattle.arti_props.specs.Asked.{list_of, found_has}
use Rattle.arti_props.proofs.RowLists.{rising_rows, after_set}
use Rattle.arti_props.proofs.props.put.Goals as goal

pub returns-clause-stands : goal.returns-clause-stands
returns-clause-stands c =
    let up = rising_rows c.args.rows.now c.requires.stands.ordered in
    record {
      ordered = c.put.ensures.ordered;
      indexed = λ f.
          let i1 = ids_of (list_of c.make_room.new.index f) in
          let i2 = ids_of (list_of c.remove.new.index f) in
          let i3 = ids_of (list_of c.add.new.index f) in
          let new : option_copied c.get-new.result ≡ Some c.args.row = c.get-new.ensures ∙ c.in_ok-old.ensures.there in
          c.tidy-2.ensures f
          ∙ after_set (has f) c.args.id c.args.rows.now up c.in_ok-old.old c.in_ok-old.ensures.old i1 i2 (c.make_room.ensures.ids f ∙ c.requires.stands.indexed f) c.args.row (c.remove.ensures.others f)
          (λ hasnt. c.remove.ensures.gone f (ap (found_has f) new ∙ hasnt) ∙ ap (λ (o : Option Row). if found_has f o then without_id c.args.id i1 else i1) c.as_ref.ensures.value) i3
          (c.add.ensures.ids f ∙ ap (λ (o : Option Row). if found_has f o then with_id c.args.id i2 else i2) new)
          ∙ ap (ids_where (has f)) (sym c.in_ok-old.ensures.rows);
    }
