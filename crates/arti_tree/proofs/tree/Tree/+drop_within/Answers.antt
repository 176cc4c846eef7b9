use Rattle.std.proofs.Common.{◌≡◌, ℕ, ◌-◌, ◌<◌, ◌≤◌, true, false, List, length, Option, Some, None, refl, sym, ap, ◌∙◌, subst, arith}
use Rattle.std.specs.Prelude.{IfSome, IsSome, not, ◌==◌}
use Rattle.std.specs.List.{filter, find}
use Rattle.std.specs.Option.{option_map_or}
use Rattle.arti_rows.specs.Key.{Key, whole_of}
use Rattle.arti_tree.specs.Rows.{Row, row_of, lies_in, IsLive, IsTree, RowsFrom}
use Rattle.arti_tree.specs.Renames.{is_within, without_within}
use Rattle.arti_tree.proofs.Above.{shorter}
use Rattle.arti_tree.proofs.Folders.{lying}
use Rattle.arti_tree.proofs.Rises.{found_live}
use Rattle.arti_tree.proofs.Staying.{few_in}
use Rattle.arti_tree.proofs.Felling.{left_all, left_next, left_none, top_left, fewer}
use Rattle.arti_tree.proofs.tree.Tree.+drop_within.Goals as goal

-- a row that is there
record There (o : Option Row) : Type 0 where
  pub row : Row
  pub is : o ≡ Some row

there : (o : Option Row) → IsSome o → There o
there None e = cc
there (Some r) e = record { row = r; is = refl }

some_of : (o : Option Row) (r : Row) → o ≡ Some r → IsSome o
some_of o r e = subst (λ (x : Option Row). IsSome x) (sym e) refl

-- the row of an id that lies in another
record Child (rows : List Row) (id : ℕ) (k : Key) : Type 0 where
  pub row : Row
  pub is : row_of rows id ≡ Some row
  pub live : IsLive rows row
  pub lies : lies_in k row ≡ true

child_by : (rows : List Row) (id : ℕ) (k : Key) (o : Option Row) → RowsFrom 0 rows → row_of rows id ≡ o → option_map_or (lies_in k) o false ≡ true → Child rows id k
child_by rows id k None up is e = cc
child_by rows id k (Some r) up is e = record { row = r; is = is; live = found_live (λ x. x.id == id) 0 rows r up is; lies = e }

child_of : (rows : List Row) (id child : ℕ) (top : Row) → IsTree rows → row_of rows id ≡ Some top → IfSome (row_of rows id) (λ r. option_map_or (lies_in r.key) (row_of rows child) false ≡ true) → Child rows child top.key
child_of rows id child top tree at some = child_by rows child top.key (row_of rows child) tree.ascend refl (subst (λ (o : Option Row). IfSome o (λ r. option_map_or (lies_in r.key) (row_of rows child) false ≡ true)) at some)

abbrev measure : Option Row → ℕ
measure o = option_map_or (λ r. 1025 - length (whole_of r.key)) o 0

less_by : (a b l m : ℕ) → a ≡ 1025 - l → b ≡ 1025 - m → m < l → l ≤ 1024 → a < b
less_by a b l m e f g h = omega (arith, e, f, g, h)

falls : (rows old : List Row) (id : ℕ) (top : Row) (child : ℕ) → IsTree rows → row_of old id ≡ Some top → Child rows child top.key → measure (row_of rows child) < measure (row_of old id)
falls rows old id top child tree at x =
    let l = lying top.key x.row x.lies in
    let is = tree.keys x.row x.live in
    less_by (measure (row_of rows child)) (measure (row_of old id)) (length (whole_of x.row.key)) (length (whole_of top.key)) (ap measure x.is) (ap measure at)
    (omega (arith, shorter x.row.key is l.0, ap (λ (k : Key). length (whole_of k)) l.1)) (few_in x.row.key is).0

pub inside-init : goal.inside-init
inside-init t c = left_all c.args.self.now c.args.id

pub drop_within-requires : goal.drop_within-requires
drop_within-requires t c =
    let old = c.args.self.now in
    let id : ℕ = c.args.id in
    let top = there (row_of old id) c.requires in
    let at = top_left old c.rules.ensures id top.row top.is c.inside.self c.inside.invariant in
    let x = child_of c.inside.self id c.in-Some.child top.row c.rules-in-Some.ensures at c.in-Some.ensures.some in
    let down = falls c.inside.self old id top.row c.in-Some.child c.rules-in-Some.ensures top.is x in
    (omega (arith, c.decreases, down), some_of (row_of c.inside.self c.in-Some.child) x.row x.is)

-- what the call leaves
left_by : (rows new : List Row) (id : ℕ) (r : Row) → row_of rows id ≡ Some r → new ≡ without_within rows id → new ≡ filter (λ x. not (is_within r.key x.key)) rows
left_by rows new id r at e = e ∙ ap (λ (o : Option Row). option_map_or (λ top. filter (λ x. not (is_within top.key x.key)) rows) o rows) at

pub inside-smaller : goal.inside-smaller
inside-smaller t c =
    let old = c.args.self.now in
    let id : ℕ = c.args.id in
    let top = there (row_of old id) c.requires in
    let at = top_left old c.rules.ensures id top.row top.is c.inside.self c.inside.invariant in
    let x = child_of c.inside.self id c.in-Some.child top.row c.rules-in-Some.ensures at c.in-Some.ensures.some in
    fewer c.inside.self c.drop_within.new.self x.row x.live (left_by c.inside.self c.drop_within.new.self c.in-Some.child x.row x.is c.drop_within.ensures)

pub inside-preserved : goal.inside-preserved
inside-preserved t c =
    let old = c.args.self.now in
    let id : ℕ = c.args.id in
    let top = there (row_of old id) c.requires in
    let at = top_left old c.rules.ensures id top.row top.is c.inside.self c.inside.invariant in
    let x = child_of c.inside.self id c.in-Some.child top.row c.rules-in-Some.ensures at c.in-Some.ensures.some in
    left_next old c.rules.ensures id top.row top.is c.inside.self c.drop_within.new.self x.row c.inside.invariant x.live x.lies (left_by c.inside.self c.drop_within.new.self c.in-Some.child x.row x.is c.drop_within.ensures)

pub drop_row-requires-clause-live : goal.drop_row-requires-clause-live
drop_row-requires-clause-live t c =
    let old = c.args.self.now in
    let id : ℕ = c.args.id in
    let top = there (row_of old id) c.requires in
    some_of (row_of c.inside.self id) top.row (top_left old c.rules.ensures id top.row top.is c.inside.self c.inside.invariant)

pub returns : goal.returns
returns t c =
    let old = c.args.self.now in
    let id : ℕ = c.args.id in
    let top = there (row_of old id) c.requires in
    let at = top_left old c.rules.ensures id top.row top.is c.inside.self c.inside.invariant in
    let none : find (lies_in top.row.key) c.inside.self ≡ None = subst (λ (o : Option Row). IfSome o (λ r. find (lies_in r.key) c.inside.self ≡ None)) at (c.in_default.ensures.none refl) in
    left_none old c.rules.ensures id top.row top.is c.inside.self c.drop_row.new.self c.inside.invariant c.rules-2.ensures none c.drop_row.ensures
    ∙ sym (ap (λ (o : Option Row). option_map_or (λ top. filter (λ x. not (is_within top.key x.key)) old) o old) top.is)
