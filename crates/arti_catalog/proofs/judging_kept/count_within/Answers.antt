use Rattle.std.proofs.Common.{◌≡◌, ℕ, List, length, vec_len, ap, ◌∙◌, rules}
use Rattle.arti_catalog.proofs.Counting.{many_is}
use Rattle.arti_catalog.proofs.judging_kept.count_within.Goals as goal

pub returns : goal.returns
returns c =
    let long : vec_len c.in_ok-ids.ids ≡ length c.in_ok-ids.ids.items = search rules in
    c.len.ensures ∙ long ∙ ap (λ (l : List ℕ). length l) c.in_ok-ids.ensures ∙ many_is c.args.parts.now.tree c.args.parts.now.rows c.requires.fits c.args.key.now
