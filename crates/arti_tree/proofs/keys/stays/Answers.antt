use Rattle.std.proofs.Common.{◌≡◌, ℕ, ◌+◌, ◌-◌, length, sym, ◌∙◌, arith}
use Rattle.arti_rows.specs.Key.{Key, whole_of}
use Rattle.arti_rows.specs.Names.{segments_of}
use Rattle.arti_tree.proofs.Staying.{stays_is, within_longer}
use Rattle.arti_tree.proofs.keys.stays.Goals as goal

pub overflow_sub-long : goal.overflow_sub-long
overflow_sub-long c =
    let w = within_longer c.args.from.now c.args.key.now c.rules.ensures c.requires in
    omega (arith, w.0, c.length_of.ensures.value, c.length_of-3.ensures.value)

pub overflow_sub-deep : goal.overflow_sub-deep
overflow_sub-deep c =
    let w = within_longer c.args.from.now c.args.key.now c.rules.ensures c.requires in
    omega (arith, w.1, c.depth_of.ensures.value, c.depth_of-3.ensures.value)

pub returns : goal.returns
returns c =
    let k : Key = c.args.key.now in
    let from : Key = c.args.from.now in
    let to : Key = c.args.to.now in
    let w = within_longer from k c.rules.ensures c.requires in
    let long : ℕ = (c.length_of.result + c.length_of-2.result) - c.length_of-3.result in
    let deep : ℕ = (c.depth_of.result + c.depth_of-2.result) - c.depth_of-3.result in
    let l : long + length (whole_of from) ≡ length (whole_of k) + length (whole_of to) = omega (arith, w.0, c.length_of.ensures.value, c.length_of-2.ensures.value, c.length_of-3.ensures.value) in
    let d : deep + length (segments_of (whole_of from)) ≡ length (segments_of (whole_of k)) + length (segments_of (whole_of to)) = omega (arith, w.1, c.depth_of.ensures.value, c.depth_of-2.ensures.value, c.depth_of-3.ensures.value) in
    c.fits.ensures ∙ sym (stays_is from to k c.rules-2.ensures c.rules-3.ensures c.rules.ensures long deep l d c.requires)
