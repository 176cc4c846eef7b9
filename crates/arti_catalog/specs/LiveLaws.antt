-- Laws of live ids: those of a tree's keys, and of some of them.
use Rattle.std.proofs.Common.{ℕ, ◌+◌, ◌≤◌, Bool, cond, List, [], ◌∷◌, get_or, Option, Some, refl, ap, ◌∙◌, arith}
use Rattle.std.specs.Prelude.{All, filter, IsSome, is_some}
use Rattle.std.specs.Ordering.{is_lt}
use Rattle.std.proofs.lemmas.Bool.{eq-eqb, ne_eqb}
use Rattle.std.proofs.lemmas.List.Elements.{All-nil, All-cons, All-head, All-tail, All-weaker, All-filter, All-append, All-map}
use Rattle.arti_rows.specs.Key.{key_cmp}
use Rattle.arti_tree.specs.Rows.{Row, ids, row_of, RowsFrom, IsLive, IsTree}
use Rattle.arti_tree.specs.ByKey.{put_row, by_key}
use Rattle.arti_catalog.specs.Held.{AreLive}

above_first : (n : ℕ) (rows : List Row) → RowsFrom n rows → All (λ r. n ≤ r.id) rows
above_first n [] up = All-nil (λ r. n ≤ r.id)
above_first n (r ∷ rows) up =
    All-cons (λ r. n ≤ r.id) r rows up.0 (All-weaker (λ x. r.id + 1 ≤ x.id) (λ x. n ≤ x.id) (λ x le. omega (arith, le, up.0)) rows (above_first (r.id + 1) rows up.1))

-- each row is that of its id
pub all_live : (n : ℕ) (rows : List Row) → RowsFrom n rows → All (IsLive rows) rows
all_live n [] up = All-nil (IsLive [])
all_live n (r ∷ rows) up =
    All-cons (IsLive (r ∷ rows)) r rows (ap (λ b. cond b (Some r) (row_of rows r.id)) (eq-eqb r.id r.id refl))
    (λ k d lt.
    let x : Row = get_or rows k d in
    let le : r.id + 1 ≤ x.id = above_first (r.id + 1) rows up.1 k d lt in
    ap (λ b. cond b (Some r) (row_of rows x.id)) (ne_eqb r.id x.id (λ e. omega (arith, le, e))) ∙ all_live (r.id + 1) rows up.1 k d lt)

All-put_row : (P : Row → Type 0) (r : Row) (rows : List Row) → P r → All P rows → All P (put_row r rows)
All-put_row P r rows here all =
    All-append P (filter (λ x. is_lt (key_cmp x.key r.key)) rows) (r ∷ filter (λ x. is_lt (key_cmp r.key x.key)) rows) (All-filter (λ x. is_lt (key_cmp x.key r.key)) P rows all)
    (All-cons P r (filter (λ x. is_lt (key_cmp r.key x.key)) rows) here (All-filter (λ x. is_lt (key_cmp r.key x.key)) P rows all))

-- what holds of all rows holds of them in the default order
pub All-by_key : (P : Row → Type 0) (rows : List Row) → All P rows → All P (by_key rows)
All-by_key P [] all = all
All-by_key P (r ∷ rows) all = All-put_row P r (by_key rows) (All-head P r rows all) (All-by_key P rows (All-tail P r rows all))

has_some : (tree rows : List Row) → All (IsLive tree) rows → AreLive tree (ids rows)
has_some tree rows all =
    All-map (λ id. IsSome (row_of tree id)) (λ (r : Row). r.id) rows (All-weaker (IsLive tree) (λ r. IsSome (row_of tree r.id)) (λ r live. ap (λ (o : Option Row). is_some o) live) rows all)

-- all ids of a tree are live
pub live_all : (tree : List Row) → IsTree tree → AreLive tree (ids tree)
live_all tree rules = has_some tree tree (all_live 0 tree rules.ascend)

-- those of some of its rows
pub live_some : (p : Row → Bool) (tree : List Row) → IsTree tree → AreLive tree (ids (filter p tree))
live_some p tree rules = has_some tree (filter p tree) (All-filter p (IsLive tree) tree (all_live 0 tree rules.ascend))

-- and all in the default order
pub live_by_key : (tree : List Row) → IsTree tree → AreLive tree (ids (by_key tree))
live_by_key tree rules = has_some tree (by_key tree) (All-by_key (IsLive tree) tree (all_live 0 tree rules.ascend))
