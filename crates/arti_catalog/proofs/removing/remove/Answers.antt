use Rattle.std.proofs.Common.{◌≡◌, ◌∙◌}
use Rattle.std.specs.Prelude.{filter}
use Rattle.arti_tree.specs.Rows.{ids}
use Rattle.arti_model.specs.Edits.{is_within}
use Rattle.arti_catalog.proofs.Within.{not_none}
use Rattle.arti_catalog.proofs.Gone.{remove_fits, remove_keeps, remove_done}
use Rattle.arti_catalog.proofs.removing.remove.Goals as goal

pub returns-in_default-clause-done : goal.returns-in_default-clause-done
returns-in_default-clause-done c = absurd (not_none c.args.parts.now.tree c.args.parts.now.rows c.args.key.now c.requires.fits c.requires.there c.in_default.ensures)

pub returns-clause-fits : goal.returns-clause-fits
returns-clause-fits c =
    let tree = c.args.parts.now.tree in
    let found_is : c.deref.result.now ≡ ids (filter (λ r. is_within c.args.key.now r.key) tree) = c.deref.ensures.value ∙ c.in_ok-ids.ensures in
    remove_fits tree c.drop_within.new.tree c.args.parts.now.rows c.clear.new.rows c.args.key.now c.requires.fits c.in-Some.id c.in-Some.ensures c.drop_within.ensures c.deref.result.now found_is
    c.clear.ensures c.rules-2.ensures c.ordered.ensures.once

pub returns-clause-keeps : goal.returns-clause-keeps
returns-clause-keeps c =
    remove_keeps c.args.parts.now.tree c.drop_within.new.tree c.args.parts.now.rows c.clear.new.rows c.args.key.now c.requires.fits c.in-Some.id c.in-Some.ensures c.drop_within.ensures

pub returns-clause-done : goal.returns-clause-done
returns-clause-done c =
    let tree = c.args.parts.now.tree in
    let found_is : c.deref.result.now ≡ ids (filter (λ r. is_within c.args.key.now r.key) tree) = c.deref.ensures.value ∙ c.in_ok-ids.ensures in
    remove_done tree c.drop_within.new.tree c.args.parts.now.rows c.clear.new.rows c.args.key.now c.requires.fits c.in-Some.id c.in-Some.ensures c.drop_within.ensures c.deref.result.now found_is
    c.clear.ensures
