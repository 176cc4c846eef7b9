use Rattle.std.proofs.Common.{◌≡◌, ◌++◌, ◌∷◌, [], List, None, ℕ, length, ap, ◌∙◌, rules}
use Rattle.std.specs.Prelude.{map, is_some}
use Rattle.arti_tree.specs.Adds.{Adds, keys_added, put_fault}
use Rattle.arti_model.specs.Store.{missing_folders}
use Rattle.arti_catalog.specs.Held.{IsPut, items_of, folder_row}
use Rattle.arti_catalog.proofs.Adding.{added_many, added_fits, added_done}
use Rattle.arti_catalog.proofs.Keeping.{added_keeps}
use Rattle.arti_catalog.proofs.edits.add.Goals as goal

pub put_all-requires : goal.put_all-requires
put_all-requires c =
    let tree = c.args.parts.now.tree in
    let rows = c.args.parts.now.rows in
    let new = c.args.new in
    let made : c.in_ok-news.news.items ≡ map (folder_row c.args.moment c.args.user.now) (missing_folders (items_of tree rows) new.key) ++ new ∷ [] = c.in_ok-news.ensures in
    let adds : Adds tree (keys_added tree new.key) (is_some new.file) c.in-Ok.ids.items c.put.new.self = search rules in
    ap (λ (l : List ℕ). length l) c.deref.ensures.value ∙ added_many c.args.moment c.args.user.now tree c.put.new.self rows rows c.requires.fits new c.in-Ok.ids.items c.in_ok-news.news.items made adds

pub returns-clause-fits : goal.returns-clause-fits
returns-clause-fits c =
    let tree = c.args.parts.now.tree in
    let rows = c.args.parts.now.rows in
    let new = c.args.new in
    let made : c.in_ok-news.news.items ≡ map (folder_row c.args.moment c.args.user.now) (missing_folders (items_of tree rows) new.key) ++ new ∷ [] = c.in_ok-news.ensures in
    let adds : Adds tree (keys_added tree new.key) (is_some new.file) c.in-Ok.ids.items c.put.new.self = search rules in
    let put : IsPut c.in-Ok.ids.items c.in_ok-news.news.items rows c.put_all.new.rows = search rules in
    added_fits c.args.moment c.args.user.now tree c.put.new.self rows c.put_all.new.rows c.requires.fits new c.in-Ok.ids.items c.in_ok-news.news.items made adds put c.rules.ensures c.ordered.ensures.once

pub returns-clause-done : goal.returns-clause-done
returns-clause-done c =
    let tree = c.args.parts.now.tree in
    let rows = c.args.parts.now.rows in
    let new = c.args.new in
    let made : c.in_ok-news.news.items ≡ map (folder_row c.args.moment c.args.user.now) (missing_folders (items_of tree rows) new.key) ++ new ∷ [] = c.in_ok-news.ensures in
    let adds : Adds tree (keys_added tree new.key) (is_some new.file) c.in-Ok.ids.items c.put.new.self = search rules in
    let put : IsPut c.in-Ok.ids.items c.in_ok-news.news.items rows c.put_all.new.rows = search rules in
    added_done c.args.moment c.args.user.now tree c.put.new.self rows c.put_all.new.rows c.requires.fits new c.in-Ok.ids.items c.in_ok-news.news.items made adds put c.ordered.ensures.once

pub returns-clause-keeps : goal.returns-clause-keeps
returns-clause-keeps c =
    let tree = c.args.parts.now.tree in
    let new = c.args.new in
    let adds : Adds tree (keys_added tree new.key) (is_some new.file) c.in-Ok.ids.items c.put.new.self = search rules in
    let ok : put_fault tree new.key c.args.limits.now.items ≡ None = search rules in
    added_keeps c.args.limits.now tree c.put.new.self new.key (is_some new.file) c.in-Ok.ids.items c.requires.keeps c.requires.local ok adds
