use Rattle.std.proofs.Common.{◌≡◌, ℕ, ◌+◌, ◌≤◌, Bool, true, false, List, length, get_or, Option, Some, None, option_map, refl, sym, ap, ◌∙◌, arith, rules, ⊎_elim, below_more}
use Rattle.std.specs.List.{filter}
use Rattle.std.specs.Option.{option_map_or, is_none}
use Rattle.arti_rows.specs.Key.{Key, whole_of}
use Rattle.arti_rows.specs.Names.{key_fault}
use Rattle.arti_rows.specs.declared.fault.KeyFault.{KeyFault}
use Rattle.arti_tree.specs.Rows.{Row, ids, row_of, lies_in, lies_beneath}
use Rattle.arti_tree.specs.Renames.{is_within, moved_whole, has}
use Rattle.arti_tree.proofs.Above.{shorter}
use Rattle.arti_tree.proofs.Folders.{lying}
use Rattle.arti_tree.proofs.Finding.{member, lies_within, place_of_id}
use Rattle.arti_tree.proofs.Members.{has_rows}
use Rattle.arti_tree.proofs.Staying.{AllStay, leads, in_beneath, beneath_both, few_in}
use Rattle.arti_tree.proofs.tree.Tree.+keys_stay.Goals as goal

key_seen : (k : Key) (o : Option Row) (r : Row) → Some k ≡ option_map (λ (x : Row). x.key) o → o ≡ Some r → k ≡ r.key
key_seen k o r e is = let same : Some k ≡ Some r.key = e ∙ ap (option_map (λ (x : Row). x.key)) is in cc

none_seen : (o : Option Row) (r : Row) → None ≡ option_map (λ (x : Row). x.key) o → o ≡ Some r → ⊥
none_seen o r e is = let same : None ≡ Some r.key = e ∙ ap (option_map (λ (x : Row). x.key)) is in cc

both : (b : Bool) → b ≡ true → b ≡ false → ⊥
both b e f = let same : true ≡ false = sym e ∙ f in cc

none_is : (o : Option KeyFault) → is_none o ≡ true → o ≡ None
none_is None e = refl
none_is (Some fault) e = cc

one_row : (o : Option Row) (x y : Row) → o ≡ Some x → o ≡ Some y → x ≡ y
one_row o x y e f = let same : Some x ≡ Some y = sym e ∙ f in cc

pub unreachable-requires : goal.unreachable-requires
unreachable-requires t c =
    let rows = c.args.self.now in
    let list : List ℕ = c.inside-child-items.result.now in
    let m = member rows (lies_in c.args.folder.now) list c.loop-child.child-index c.rules.ensures.ascend c.inside-child-items.ensures.rows c.loop-child-test.true in
    none_seen (row_of rows (get_or list c.loop-child.child-index 0)) m.row c.in_default.ensures m.of

pub stays-requires : goal.stays-requires
stays-requires t c =
    let rows = c.args.self.now in
    let from : Key = c.args.from.now in
    let list : List ℕ = c.inside-child-items.result.now in
    let m = member rows (lies_in c.args.folder.now) list c.loop-child.child-index c.rules.ensures.ascend c.inside-child-items.ensures.rows c.loop-child-test.true in
    let item : c.in-Some.key.now ≡ m.row.key = key_seen c.in-Some.key.now (row_of rows (get_or list c.loop-child.child-index 0)) m.row c.in-Some.ensures m.of in
    ap (is_within from) item ∙ lies_within rows from c.args.folder.now c.rules.ensures c.rules-2.ensures c.requires.within m.row m.live m.passes

pub returns-then-not-stays-clause-exact : goal.returns-then-not-stays-clause-exact
returns-then-not-stays-clause-exact t c = λ all.
    let rows = c.args.self.now in
    let to : Key = c.args.to.now in
    let from : Key = c.args.from.now in
    let list : List ℕ = c.inside-child-items.result.now in
    let m = member rows (lies_in c.args.folder.now) list c.loop-child.child-index c.rules.ensures.ascend c.inside-child-items.ensures.rows c.loop-child-test.true in
    let item : c.in-Some.key.now ≡ m.row.key = key_seen c.in-Some.key.now (row_of rows (get_or list c.loop-child.child-index 0)) m.row c.in-Some.ensures m.of in
    let yes : c.stays.result ≡ true = c.stays.ensures ∙ ap (λ (x : Key). is_none (key_fault to.repo (moved_whole from to x))) item ∙ ap is_none (all m.row m.live (in_beneath rows c.rules.ensures c.args.folder.now m.row m.live m.passes)) in
    let no : c.stays.result ≡ false = search rules in
    absurd (both c.stays.result yes no)

pub keys_stay-requires : goal.keys_stay-requires
keys_stay-requires t c =
    let rows = c.args.self.now in
    let from : Key = c.args.from.now in
    let list : List ℕ = c.inside-child-items.result.now in
    let m = member rows (lies_in c.args.folder.now) list c.loop-child.child-index c.rules.ensures.ascend c.inside-child-items.ensures.rows c.loop-child-test.true in
    let item : c.in-Some.key.now ≡ m.row.key = key_seen c.in-Some.key.now (row_of rows (get_or list c.loop-child.child-index 0)) m.row c.in-Some.ensures m.of in
    let l = lying c.args.folder.now m.row m.passes in
    let is = c.rules.ensures.keys m.row m.live in (
      omega (arith, ap (λ (j : Key). length (whole_of j)) item, ap (λ (j : Key). length (whole_of j)) l.1, shorter m.row.key is l.0, (few_in m.row.key is).0),
      (sym c.in-Some.ensures, ap (is_within from) item ∙ lies_within rows from c.args.folder.now c.rules.ensures c.rules-2.ensures c.requires.within m.row m.live m.passes),
    )

pub returns-then-not-keys_stay-clause-exact : goal.returns-then-not-keys_stay-clause-exact
returns-then-not-keys_stay-clause-exact t c = λ all.
    let rows = c.args.self.now in
    let k : Key = c.args.folder.now in
    let list : List ℕ = c.inside-child-items.result.now in
    let m = member rows (lies_in k) list c.loop-child.child-index c.rules.ensures.ascend c.inside-child-items.ensures.rows c.loop-child-test.true in
    let item : c.in-Some.key.now ≡ m.row.key = key_seen c.in-Some.key.now (row_of rows (get_or list c.loop-child.child-index 0)) m.row c.in-Some.ensures m.of in
    let yes : c.keys_stay.result ≡ true = c.keys_stay.ensures.exact (λ r live below.
    all r live (beneath_both rows c.rules.ensures (length (whole_of r.key) + 1) k m.row r (omega arith) m.live live (in_beneath rows c.rules.ensures k m.row m.live m.passes) (ap (λ (x : Key). lies_beneath x r) (sym item) ∙ below))) in
    let no : c.keys_stay.result ≡ false = search rules in
    absurd (both c.keys_stay.result yes no)

pub loop-child-preserved : goal.loop-child-preserved
loop-child-preserved t c =
    let rows = c.args.self.now in
    let to : Key = c.args.to.now in
    let from : Key = c.args.from.now in
    let k : Key = c.args.folder.now in
    let list : List ℕ = c.inside-child-items.result.now in
    let i = c.loop-child.child-index in
    let m = member rows (lies_in k) list i c.rules.ensures.ascend c.inside-child-items.ensures.rows c.loop-child-test.true in
    let item : c.in-Some.key.now ≡ m.row.key = key_seen c.in-Some.key.now (row_of rows (get_or list i 0)) m.row c.in-Some.ensures m.of in
    let yes : c.stays.result ≡ true = search rules in
    let all : c.keys_stay.result ≡ true = search rules in
    below_more _ _ c.loop-child.invariant (λ x at.
    let same : m.row ≡ x = one_row (row_of rows (get_or list i 0)) m.row x m.of (ap (λ (l : List ℕ). row_of rows (get_or l i 0)) c.inside-child-items.ensures.rows ∙ at) in
    let key_is : c.in-Some.key.now ≡ x.key = item ∙ ap (λ (r : Row). r.key) same in
    let stay : AllStay rows from to x = record {
      here = none_is (key_fault to.repo (moved_whole from to x.key)) (ap (λ (y : Key). is_none (key_fault to.repo (moved_whole from to y))) (sym key_is) ∙ sym c.stays.ensures ∙ yes);
      beneath = λ r live below. c.keys_stay.ensures.stay all r live (ap (λ (y : Key). lies_beneath y r) key_is ∙ below);
    } in
    stay)

pub returns-clause-stay : goal.returns-clause-stay
returns-clause-stay t c = λ _ r live below.
    let rows = c.args.self.now in
    let to : Key = c.args.to.now in
    let from : Key = c.args.from.now in
    let k : Key = c.args.folder.now in
    let list : List ℕ = ids (filter (lies_in k) rows) in
    let past : length c.inside-child-items.result.now ≤ c.loop-child.child-index = search rules in
    let l = leads rows c.rules.ensures (length (whole_of r.key) + 1) k r (omega arith) live below in
    let there : has list l.child.id ≡ true = has_rows (lies_in k) 0 rows l.child.id c.rules.ensures.ascend ∙ ap (λ (o : Option Row). option_map_or (lies_in k) o false) l.live ∙ l.inside in
    let p = place_of_id list l.child.id there in
    let all : AllStay rows from to l.child = c.loop-child.invariant p.0 (omega (arith, p.1, past, ap (λ (x : List ℕ). length x) c.inside-child-items.ensures.rows)) l.child (ap (row_of rows) p.2 ∙ l.live) in
    ⊎_elim (λ (same : r ≡ l.child). ap (λ (y : Row). key_fault to.repo (moved_whole from to y.key)) same ∙ all.here) (λ (lower : lies_beneath l.child.key r ≡ true). all.beneath r live lower) l.at
