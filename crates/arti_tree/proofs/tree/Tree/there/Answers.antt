use Rattle.std.proofs.Common.{◌≡◌, ℕ, ◌<◌, ◌-◌, Bool, true, false, List, length, get_or, Option, sym, ap, ◌∙◌, arith, rules}
use Rattle.std.specs.Option.{option_map_or}
use Rattle.std.proofs.lemmas.List.{get_or_default}
use Rattle.arti_rows.specs.Key.{Key}
use Rattle.arti_tree.specs.Rows.{Row, row_of, row_at}
use Rattle.arti_tree.proofs.Folders.{At, at_id}
use Rattle.arti_tree.proofs.Climbing.{left_missing, no_file, first_file}
use Rattle.arti_tree.proofs.tree.Tree.there.Goals as goal

kind_of : (rows : List Row) (k : Key) (id : ℕ) (a : At rows k id) (b : Bool) → b ≡ option_map_or (λ r. r.is_file) (row_of rows id) false → a.row.is_file ≡ b
kind_of rows k id a b e = sym (e ∙ ap (λ (o : Option Row). option_map_or (λ r. r.is_file) o false) (ap (row_of rows) (sym a.is) ∙ a.live))

at_place : (folders : List Key) (i : ℕ) (x k : Key) → i < length folders → x ≡ get_or folders i x → x ≡ get_or folders i k
at_place folders i x k below is = is ∙ get_or_default folders i x k below

pub returns-in-Some-clause-file : goal.returns-in-Some-clause-file
returns-in-Some-clause-file c =
    let rows = c.args.self.now in
    let fs = c.args.folders.now in
    let k : Key = c.args.key.now in
    let i : ℕ = c.up.there - 1 in
    let below : i < length fs = omega (arith, c.up.invariant.within, c.up-test.true) in
    let at = at_place fs i c.index-folders-there.result k below c.index-folders-there.is in
    let a = at_id rows c.index-folders-there.result c.in-Some.id c.rules.ensures.ascend c.in-Some.ensures in
    let file : c.is_file.result ≡ true = search rules in
    first_file rows k fs c.rules.ensures c.rules-2.ensures c.requires i a.row below (ap (row_at rows) (sym at) ∙ a.at) (kind_of rows c.index-folders-there.result c.in-Some.id a c.is_file.result c.is_file.ensures ∙ file)

pub returns-in-Some-2-clause-last : goal.returns-in-Some-2-clause-last
returns-in-Some-2-clause-last c =
    let rows = c.args.self.now in
    let fs = c.args.folders.now in
    let k : Key = c.args.key.now in
    let i : ℕ = c.up.there - 1 in
    let below : i < length fs = omega (arith, c.up.invariant.within, c.up-test.true) in
    let at = at_place fs i c.index-folders-there.result k below c.index-folders-there.is in
    let a = at_id rows c.index-folders-there.result c.in-Some.id c.rules.ensures.ascend c.in-Some.ensures in
    let folder : c.is_file.result ≡ false = search rules in
    λ p. record { row = a.row; there = ap (row_at rows) (sym at) ∙ a.at; folder = kind_of rows c.index-folders-there.result c.in-Some.id a c.is_file.result c.is_file.ensures ∙ folder }

pub returns-in-Some-2-clause-missing : goal.returns-in-Some-2-clause-missing
returns-in-Some-2-clause-missing c =
    let rows = c.args.self.now in
    let fs = c.args.folders.now in
    let k : Key = c.args.key.now in
    let i : ℕ = c.up.there - 1 in
    let below : i < length fs = omega (arith, c.up.invariant.within, c.up-test.true) in
    let at = at_place fs i c.index-folders-there.result k below c.index-folders-there.is in
    let a = at_id rows c.index-folders-there.result c.in-Some.id c.rules.ensures.ascend c.in-Some.ensures in
    let folder : c.is_file.result ≡ false = search rules in
    left_missing rows k fs c.rules.ensures c.rules-2.ensures c.requires c.up.there c.up.invariant.within c.up.invariant.missing
    (λ p. record { row = a.row; there = ap (row_at rows) (sym at) ∙ a.at; folder = kind_of rows c.index-folders-there.result c.in-Some.id a c.is_file.result c.is_file.ensures ∙ folder })

pub returns-in-Some-2-clause-no_file : goal.returns-in-Some-2-clause-no_file
returns-in-Some-2-clause-no_file c =
    let rows = c.args.self.now in
    let fs = c.args.folders.now in
    let k : Key = c.args.key.now in
    let i : ℕ = c.up.there - 1 in
    let below : i < length fs = omega (arith, c.up.invariant.within, c.up-test.true) in
    let at = at_place fs i c.index-folders-there.result k below c.index-folders-there.is in
    let a = at_id rows c.index-folders-there.result c.in-Some.id c.rules.ensures.ascend c.in-Some.ensures in
    let folder : c.is_file.result ≡ false = search rules in
    no_file rows k fs c.rules.ensures c.rules-2.ensures c.requires c.up.there c.up.invariant.within c.up.invariant.missing
    (λ p. record { row = a.row; there = ap (row_at rows) (sym at) ∙ a.at; folder = kind_of rows c.index-folders-there.result c.in-Some.id a c.is_file.result c.is_file.ensures ∙ folder })

pub returns-clause-missing : goal.returns-clause-missing
returns-clause-missing c =
    left_missing c.args.self.now c.args.key.now c.args.folders.now c.rules.ensures c.rules-2.ensures c.requires 0 (omega arith) (λ j _ b. c.up.invariant.missing j (omega (arith, c.up-test.false)) b) (λ p. absurd (omega arith))

pub returns-clause-no_file : goal.returns-clause-no_file
returns-clause-no_file c =
    no_file c.args.self.now c.args.key.now c.args.folders.now c.rules.ensures c.rules-2.ensures c.requires 0 (omega arith) (λ j _ b. c.up.invariant.missing j (omega (arith, c.up-test.false)) b) (λ p. absurd (omega arith))
