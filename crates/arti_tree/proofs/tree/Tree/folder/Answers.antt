use Rattle.std.proofs.Common.{◌≡◌, true, option_map, ap, ◌∙◌, rules}
use Rattle.arti_rows.specs.Key.{Key}
use Rattle.arti_tree.specs.Rows.{Row, row_at, rank_of, has_folder, folder_of}
use Rattle.arti_tree.specs.Searched.{key}
use Rattle.arti_tree.proofs.Folders.{first_of, folder_found}
use Rattle.arti_tree.proofs.tree.Tree.folder.Goals as goal

pub returns-in-Some : goal.returns-in-Some
returns-in-Some c =
    let rows = c.args.self.now in
    let k : Key = c.args.key.now in
    let has : has_folder k ≡ true = search rules in
    let parts : key c.as_str-3.result.now c.cut.result.0.now c.cut.result.1.now ≡ folder_of k = search rules in
    folder_found rows k c.in-Some.id has (first_of (row_at rows (folder_of k)) (λ r. rank_of rows r.key) c.in-Some.id c.in-Some.field-0-1 (c.in-Some.ensures ∙ ap (λ (x : Key). option_map (λ (r : Row). (r.id, rank_of rows r.key)) (row_at rows x)) parts))
