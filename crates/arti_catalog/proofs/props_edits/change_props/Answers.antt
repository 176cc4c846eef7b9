use Rattle.std.proofs.Common.{◌≡◌, ℕ, List, sym, subst, ◌∙◌}
use Rattle.std.specs.Prelude.{filter}
use Rattle.arti_tree.specs.Ids.{AscendFrom}
use Rattle.arti_tree.specs.Rows.{ids}
use Rattle.arti_model.specs.Edits.{acts_on}
use Rattle.arti_catalog.proofs.Within.{ids_ascend}
use Rattle.arti_catalog.proofs.PropsOf.{props_fits, props_done}
use Rattle.arti_catalog.proofs.props_edits.change_props.Goals as goal

pub change_each-requires : goal.change_each-requires
change_each-requires c =
    let tree = c.args.parts.now.tree in
    let found_is : c.deref.result.now ≡ ids (filter (λ r. acts_on c.args.deep c.args.key.now r.key) tree) = c.deref.ensures.value ∙ c.in_ok-ids.ensures in
    let P : List ℕ → Type 0 = λ l. AscendFrom 0 l in
    subst P (sym found_is) (ids_ascend (λ r. acts_on c.args.deep c.args.key.now r.key) 0 tree c.requires.fits.rules.ascend)

pub returns-clause-fits : goal.returns-clause-fits
returns-clause-fits c =
    let tree = c.args.parts.now.tree in
    let found_is : c.deref.result.now ≡ ids (filter (λ r. acts_on c.args.deep c.args.key.now r.key) tree) = c.deref.ensures.value ∙ c.in_ok-ids.ensures in
    props_fits tree c.args.parts.now.rows c.change_each.new.rows c.requires.fits c.args.moment c.args.edit.now c.args.deep c.args.key.now c.deref.result.now found_is c.in_ok-change_each.ensures

pub returns-clause-done : goal.returns-clause-done
returns-clause-done c =
    let tree = c.args.parts.now.tree in
    let found_is : c.deref.result.now ≡ ids (filter (λ r. acts_on c.args.deep c.args.key.now r.key) tree) = c.deref.ensures.value ∙ c.in_ok-ids.ensures in
    props_done tree c.args.parts.now.rows c.change_each.new.rows c.requires.fits c.args.moment c.args.edit.now c.args.deep c.args.key.now c.deref.result.now found_is c.in_ok-change_each.ensures
