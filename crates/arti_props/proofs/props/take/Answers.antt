use Rattle.std.proofs.Common.{◌∙◌, refl, sym, ap, Option}
use Rattle.std.specs.Prelude.{if◌then◌else◌}
use Rattle.arti_props.specs.declared.row.Row.{Row}
use Rattle.arti_ids.specs.Ids.{without_id}
use Rattle.arti_ids.specs.Lists.{ids_of}
use Rattle.arti_props.specs.Rows.{has, ids_where}
use Rattle.arti_props.specs.Asked.{list_of, found_has}
use Rattle.arti_props.proofs.RowLists.{rising_rows, after_drop}
use Rattle.arti_props.proofs.props.take.Goals as goal

pub returns-clause-stands : goal.returns-clause-stands
returns-clause-stands c =
    let up = rising_rows c.args.rows.now c.requires.stands.ordered in
    record {
      ordered = c.take-old.ensures.ordered;
      indexed = λ f.
          let i1 = ids_of (list_of c.args.index.now f) in
          let i2 = ids_of (list_of c.remove.new.index f) in
          c.tidy.ensures f
          ∙ after_drop (has f) c.args.id c.args.rows.now up c.take-old.result c.take-old.ensures.old i1 i2 (c.requires.stands.indexed f)
          (c.remove.ensures.gone f refl ∙ ap (λ (o : Option Row). if found_has f o then without_id c.args.id i1 else i1) c.as_ref.ensures.value)
          ∙ ap (ids_where (has f)) (sym c.take-old.ensures.rows);
    }
