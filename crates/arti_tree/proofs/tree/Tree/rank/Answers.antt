use Rattle.std.proofs.Common.{◌≡◌, option_map, ap, ◌∙◌, rules}
use Rattle.arti_rows.specs.Key.{Key}
use Rattle.arti_tree.specs.Rows.{Row, row_at, rank_of}
use Rattle.arti_tree.specs.Searched.{key}
use Rattle.arti_tree.proofs.Folders.{seen, rank_found, not_missing}
use Rattle.arti_tree.proofs.tree.Tree.rank.Goals as goal

pub returns-in-Some : goal.returns-in-Some
returns-in-Some c =
    let rows = c.args.self.now in
    let k : Key = c.in_ok-key.key.now in
    let parts : key c.as_str.result.now c.as_str-2.result.now c.as_str-3.result.now ≡ k = search rules in
    rank_found rows c.args.id k (λ r. rank_of rows r.key) c.in-Some.field-0-0 c.in-Some.rank (seen rows c.args.id k c.rules.ensures c.in_ok-key.ensures) (c.in-Some.ensures ∙ ap (λ (x : Key). option_map (λ (r : Row). (r.id, rank_of rows r.key)) (row_at rows x)) parts)

pub returns-in-None : goal.returns-in-None
returns-in-None c =
    let rows = c.args.self.now in
    let k : Key = c.in_ok-key.key.now in
    let parts : key c.as_str.result.now c.as_str-2.result.now c.as_str-3.result.now ≡ k = search rules in
    absurd (not_missing rows c.args.id k (λ r. rank_of rows r.key) (seen rows c.args.id k c.rules.ensures c.in_ok-key.ensures) (c.in-None.ensures ∙ ap (λ (x : Key). option_map (λ (r : Row). (r.id, rank_of rows r.key)) (row_at rows x)) parts))
