use Rattle.std.proofs.Common.{◌≡◌, ℕ, false, List, Option, Some, None, refl, sym, ap, ◌∙◌, rules}
use Rattle.std.specs.Prelude.{is_some, option_map}
use Rattle.arti_tree.specs.Rows.{Row, row_at}
use Rattle.arti_model.specs.Store.{has_item}
use Rattle.arti_model.specs.Apply.{counted}
use Rattle.arti_catalog.specs.Held.{IsSet, at, items_of, counted_row}
use Rattle.arti_catalog.proofs.Found.{has_is, looked_up}
use Rattle.arti_catalog.proofs.Setting.{none_changes, set_after, count_done}
use Rattle.arti_catalog.proofs.edits.count_download.Goals as goal

none : (o : Option Row) → None ≡ option_map (λ r. r.id) o → is_some o ≡ false
none None e = refl
none (Some r) e = cc

pub returns-in_default-clause-done : goal.returns-in_default-clause-done
returns-in_default-clause-done c =
    let tree = c.args.parts.now.tree in
    let rows = c.args.parts.now.rows in
    let key = c.args.key.now in
    let is : None ≡ option_map (λ r. r.id) (row_at tree key) = search rules in
    let no : has_item (items_of tree rows) key ≡ false = has_is tree rows key ∙ none (row_at tree key) is in
    sym (none_changes (counted c.args.moment c.args.user.now) key (items_of tree rows) no)

pub returns-in_default-take-clause-done : goal.returns-in_default-take-clause-done
returns-in_default-take-clause-done c =
    let tree = c.args.parts.now.tree in
    let rows = c.args.parts.now.rows in
    let key = c.args.key.now in
    let found = looked_up tree rows key c.requires c.in-Some.id c.in-Some.ensures in
    let none : None ≡ Some found.4.row = c.in_default-take.ensures.row ∙ ap (at rows) (sym found.2) ∙ found.4.there in
    cc

pub returns-clause-fits : goal.returns-clause-fits
returns-clause-fits c =
    let tree = c.args.parts.now.tree in
    let rows = c.args.parts.now.rows in
    let key = c.args.key.now in
    let user = c.args.user.now in
    let made : c.counted.result ≡ counted_row c.args.moment user c.in-Some-take.row = c.counted.ensures ∙ ap (λ (u : List ℕ). counted_row c.args.moment u c.in-Some-take.row) c.in_ok-clone.ensures.cases in
    let put : IsSet c.take.new.self c.put.new.self c.in-Some.id c.counted.result = search rules in
    let set = set_after rows c.take.new.self c.put.new.self c.in-Some.id c.counted.result c.take.ensures.others put in
    (count_done tree rows c.put.new.self key c.requires c.in-Some.id c.in-Some.ensures c.counted.result set c.args.moment user c.in-Some-take.row c.in-Some-take.ensures.row made).0

pub returns-clause-done : goal.returns-clause-done
returns-clause-done c =
    let tree = c.args.parts.now.tree in
    let rows = c.args.parts.now.rows in
    let key = c.args.key.now in
    let user = c.args.user.now in
    let made : c.counted.result ≡ counted_row c.args.moment user c.in-Some-take.row = c.counted.ensures ∙ ap (λ (u : List ℕ). counted_row c.args.moment u c.in-Some-take.row) c.in_ok-clone.ensures.cases in
    let put : IsSet c.take.new.self c.put.new.self c.in-Some.id c.counted.result = search rules in
    let set = set_after rows c.take.new.self c.put.new.self c.in-Some.id c.counted.result c.take.ensures.others put in
    (count_done tree rows c.put.new.self key c.requires c.in-Some.id c.in-Some.ensures c.counted.result set c.args.moment user c.in-Some-take.row c.in-Some-take.ensures.row made).1
