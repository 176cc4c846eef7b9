use Rattle.std.proofs.Common.{◌≡◌, ◌==◌, true, false, sym, ap, arith, rules}
use Rattle.std.specs.List.{count_by}
use Rattle.arti_rows.specs.Key.{Key}
use Rattle.arti_tree.specs.Rows.{has_folder}
use Rattle.arti_tree.proofs.Staying.{depth_is, depth_at_root, few_in}
use Rattle.arti_tree.proofs.keys.depth_of.Goals as goal

pub returns-then-eq-clause-value : goal.returns-then-eq-clause-value
returns-then-eq-clause-value c =
    let k : Key = c.args.key.now in
    let root : has_folder k ≡ false = search rules in
    sym (depth_at_root k c.rules.ensures root)

pub returns-clause-value : goal.returns-clause-value
returns-clause-value c =
    let k : Key = c.args.key.now in
    let has : has_folder k ≡ true = search rules in
    let path : c.as_bytes.result.now ≡ k.path = search rules in
    omega (arith, c.slashes_in.ensures, ap (count_by (λ b. b == 47)) path, depth_is k c.rules.ensures has)

pub returns-clause-few : goal.returns-clause-few
returns-clause-few c =
    let k : Key = c.args.key.now in
    let has : has_folder k ≡ true = search rules in
    let path : c.as_bytes.result.now ≡ k.path = search rules in
    omega (arith, c.slashes_in.ensures, ap (count_by (λ b. b == 47)) path, depth_is k c.rules.ensures has, (few_in k c.rules.ensures).1)
