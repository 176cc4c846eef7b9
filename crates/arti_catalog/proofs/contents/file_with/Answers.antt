use Rattle.std.proofs.Common.{ℕ, ◌+◌, List, drop, Option, ◌∙◌, ap, sym}
use Rattle.std.specs.Option.{option_or}
use Rattle.std.specs.List.{concat}
use Rattle.arti_rows.specs.declared.rows.FileRef.{FileRef}
use Rattle.arti_tree.specs.ByKey.{by_key}
use Rattle.arti_tree.specs.Pieces.{lists}
use Rattle.arti_catalog.specs.Contents.{first_with}
use Rattle.arti_catalog.proofs.Contained.{at_block, first_is}
use Rattle.arti_catalog.proofs.contents.file_with.Goals as goal

pub loop-block-init : goal.loop-block-init
loop-block-init c =
    let rows = c.args.parts.now.rows in
    ap (λ (l : List ℕ). first_with c.args.wanted.now rows l) c.ordered-block-items.ensures.rows ∙ first_is c.args.wanted.now rows (by_key c.args.parts.now.tree)

pub returns-in-Some : goal.returns-in-Some
returns-in-Some c =
    let rows = c.args.parts.now.rows in
    let blocks = c.ordered-block-items.result.now in
    let n = c.loop-block.block-index in
    let rest = first_with c.args.wanted.now rows (concat (lists (drop (n + 1) blocks))) in
    ap (λ (o : Option FileRef). option_or o rest) (c.in-Some.ensures ∙ ap (λ (l : List ℕ). first_with c.args.wanted.now rows l) c.deref.ensures.value)
    ∙ sym (at_block c.args.wanted.now rows blocks n c.block-item.result c.loop-block-test.true c.block-item.is) ∙ c.loop-block.invariant

pub loop-block-preserved : goal.loop-block-preserved
loop-block-preserved c =
    let rows = c.args.parts.now.rows in
    let blocks = c.ordered-block-items.result.now in
    let n = c.loop-block.block-index in
    let rest = first_with c.args.wanted.now rows (concat (lists (drop (n + 1) blocks))) in
    ap (λ (o : Option FileRef). option_or o rest) (c.in_default.ensures ∙ ap (λ (l : List ℕ). first_with c.args.wanted.now rows l) c.deref.ensures.value)
    ∙ sym (at_block c.args.wanted.now rows blocks n c.block-item.result c.loop-block-test.true c.block-item.is) ∙ c.loop-block.invariant
