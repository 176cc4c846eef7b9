use Rattle.std.proofs.Common.{◌≡◌, ℕ, ◌+◌, ◌-◌, ◌<◌, ◌≤◌, List, ◌++◌, length, get_or, Option, Some, None, option_map, sym, ap, ◌∙◌, subst, arith, rules}
use Rattle.std.specs.List.{filter}
use Rattle.std.proofs.lemmas.List.{get_or_default}
use Rattle.arti_rows.specs.Key.{Key}
use Rattle.arti_tree.specs.Rows.{Row, ids, row_of, lies_in}
use Rattle.arti_tree.proofs.Finding.{FindsWithin, top_of, start_of, next_of, few_of, all_of, row_at_place}
use Rattle.arti_tree.proofs.tree.Tree.find_beneath.Goals as goal

key_seen : (k : Key) (o : Option Row) (r : Row) → Some k ≡ option_map (λ (x : Row). x.key) o → o ≡ Some r → k ≡ r.key
key_seen k o r e is = let same : Some k ≡ Some r.key = e ∙ ap (option_map (λ (x : Row). x.key)) is in cc

none_seen : (o : Option Row) (r : Row) → None ≡ option_map (λ (x : Row). x.key) o → o ≡ Some r → ⊥
none_seen o r e is = let same : None ≡ Some r.key = e ∙ ap (option_map (λ (x : Row). x.key)) is in cc

pub folders-init : goal.folders-init
folders-init c =
    let rows = c.args.self.now in
    let from : Key = c.args.from.now in
    let t = top_of rows c.args.id from c.rules.ensures.ascend c.requires.live in
    subst (λ (l : List ℕ). FindsWithin rows from c.args.id l 0) (sym c.requires.first) (start_of rows from c.rules.ensures c.rules-2.ensures c.args.id t)

pub unreachable-requires : goal.unreachable-requires
unreachable-requires c =
    let rows = c.args.self.now in
    let from : Key = c.args.from.now in
    let t = top_of rows c.args.id from c.rules.ensures.ascend c.requires.live in
    let below : c.folders.next < length c.folders.found.items = search rules in
    let at_n : c.index-id.result.now ≡ get_or c.folders.found.items c.folders.next 0 = c.index-id.ensures ∙ get_or_default c.folders.found.items c.folders.next c.index-id.result.now 0 below in
    let f = row_at_place rows from c.rules.ensures c.rules-2.ensures c.args.id t c.folders.found.items c.folders.next c.folders.invariant below in
    none_seen (row_of rows c.index-id.result.now) f.row c.in_default.ensures (ap (row_of rows) at_n ∙ f.of)

pub folders-smaller : goal.folders-smaller
folders-smaller c =
    let rows = c.args.self.now in
    let from : Key = c.args.from.now in
    let t = top_of rows c.args.id from c.rules.ensures.ascend c.requires.live in
    let below : c.folders.next < length c.folders.found.items = search rules in
    let few = few_of rows from c.rules.ensures c.rules-2.ensures c.args.id t c.folders.found.items c.folders.next c.folders.invariant in
    smaller (length rows) (length c.folders.found.items) c.folders.next below few
  where
    smaller : (a b n : ℕ) → n < b → b ≤ a → a - (n + 1) < a - n
    smaller a b n less le = omega arith

pub folders-preserved : goal.folders-preserved
folders-preserved c =
    let rows = c.args.self.now in
    let from : Key = c.args.from.now in
    let t = top_of rows c.args.id from c.rules.ensures.ascend c.requires.live in
    let below : c.folders.next < length c.folders.found.items = search rules in
    let at_n : c.index-id.result.now ≡ get_or c.folders.found.items c.folders.next 0 = c.index-id.ensures ∙ get_or_default c.folders.found.items c.folders.next c.index-id.result.now 0 below in
    let f = row_at_place rows from c.rules.ensures c.rules-2.ensures c.args.id t c.folders.found.items c.folders.next c.folders.invariant below in
    let key_is : c.in-Some.folder.now ≡ f.row.key = key_seen c.in-Some.folder.now (row_of rows c.index-id.result.now) f.row c.in-Some.ensures (ap (row_of rows) at_n ∙ f.of) in
    let more : c.extend_from_slice.new.self.items ≡ c.folders.found.items ++ c.inside.result.now = search rules in
    let found : c.extend_from_slice.new.self.items ≡ c.folders.found.items ++ ids (filter (lies_in f.row.key) rows) =
    more ∙ ap (λ (l : List ℕ). c.folders.found.items ++ l) (c.inside.ensures.rows ∙ ap (λ (k : Key). ids (filter (lies_in k) rows)) key_is) in
    subst (λ (l : List ℕ). FindsWithin rows from c.args.id l (c.folders.next + 1)) (sym found)
    (next_of rows from c.rules.ensures c.rules-2.ensures c.args.id t c.folders.found.items c.folders.next c.folders.invariant below f.row f.live f.is)

pub returns : goal.returns
returns c =
    let rows = c.args.self.now in
    let from : Key = c.args.from.now in
    let t = top_of rows c.args.id from c.rules.ensures.ascend c.requires.live in
    let past : length c.folders.found.items ≤ c.folders.next = search rules in
    all_of rows from c.rules.ensures c.rules-2.ensures c.args.id t c.folders.found.items c.folders.next c.folders.invariant past
