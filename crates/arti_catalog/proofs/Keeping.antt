-- The limit of items and the one repository, as keys come.
use Rattle.std.proofs.Common.{◌≡◌, suc, ℕ, ◌+◌, ◌≤◌, Bool, true, false, cond, List, [], ◌∷◌, length, Option, Some, None, refl, sym, ap, subst, ◌∙◌, arith}
use Rattle.std.specs.Prelude.{All, ◌&&◌, map, filter, is_some, nat_lt, nat_eq, option_map}
use Rattle.std.specs.Option.{option_or}
use Rattle.std.specs.Cmp.Lexicographic.{pointwise}
use Rattle.std.proofs.lemmas.Bool.Decides.{nat_tests}
use Rattle.std.proofs.lemmas.List.Elements.{All-nil, All-cons, All-head, All-tail, All-append, All-filter}
use Rattle.arti_rows.specs.Key.{Key, key_of, whole_of, fronts, folders_above}
use Rattle.arti_rows.specs.declared.limits.Limits.{Limits}
use Rattle.arti_tree.specs.declared.fault.TreeFault.{TreeFault}
use Rattle.arti_tree.specs.declared.fault.TreeFault.TheVariants.{FileAbove, Taken, Full}
use Rattle.arti_tree.specs.Rows.{Row, row_at, with_row}
use Rattle.arti_tree.specs.Adds.{Adds, rows_of, with_rows, keys_added, is_end, is_missing, put_fault, file_above}
use Rattle.arti_model.specs.Store.{local_key}
use Rattle.arti_model.specs.Apply.{is_local}
use Rattle.arti_catalog.specs.Held.{Keeps}
use Rattle.arti_catalog.proofs.Adding.{All-with_rows}

length_by : (b : Bool) (r x : Row) (rows rest : List Row) → length rest ≡ suc (length rows) → length (cond b (r ∷ x ∷ rows) (x ∷ rest)) ≡ suc (suc (length rows))
length_by true r x rows rest e = refl
length_by false r x rows rest e = ap suc e

length-with_row : (r : Row) (rows : List Row) → length (with_row r rows) ≡ suc (length rows)
length-with_row r [] = refl
length-with_row r (x ∷ rows) = length_by (nat_lt r.id x.id) r x rows (with_row r rows) (length-with_row r rows)

length-with_rows : (more rows : List Row) → length (with_rows more rows) ≡ length more + length rows
length-with_rows [] rows = omega arith
length-with_rows (r ∷ more) rows = omega (arith, length-with_rows more (with_row r rows), length-with_row r rows)

length-rows_of : (ids : List ℕ) (keys : List Key) (is_file : Bool) → length ids ≡ length keys → length (rows_of ids keys is_file) ≡ length keys
length-rows_of [] [] is_file e = refl
length-rows_of [] (k ∷ keys) is_file e = absurd (omega (arith, e))
length-rows_of (id ∷ ids) [] is_file e = refl
length-rows_of (id ∷ ids) (k ∷ keys) is_file e = ap suc (length-rows_of ids keys is_file (omega (arith, e)))

room_by : (above : Option TreeFault) (taken : Bool) (limit n : ℕ) → option_or above (cond taken (Some Taken) (cond (nat_lt limit n) (Some Full) None)) ≡ None → n ≤ limit
room_by (Some fault) taken limit n e = cc
room_by None true limit n e = cc
room_by None false limit n e = full (nat_lt limit n) refl e
  where
    full : (b : Bool) → nat_lt limit n ≡ b → cond b (Some Full) None ≡ None → n ≤ limit
    full true is e = cc
    full false is e = grind (arith, nat_tests)

fronts_local : (repo : List ℕ) → pointwise nat_eq repo local_key ≡ true → (l : List (List ℕ)) → All (λ k. is_local k ≡ true) (map (λ front. key_of repo front) l)
fronts_local repo is [] = All-nil (λ (k : Key). is_local k ≡ true)
fronts_local repo is (front ∷ l) = All-cons (λ k. is_local k ≡ true) (key_of repo front) (map (λ front. key_of repo front) l) is (fronts_local repo is l)

rows_local : (ids : List ℕ) (keys : List Key) (is_file : Bool) → All (λ k. is_local k ≡ true) keys → All (λ r. is_local r.key ≡ true) (rows_of ids keys is_file)
rows_local [] keys is_file all = All-nil (λ (r : Row). is_local r.key ≡ true)
rows_local (id ∷ ids) [] is_file all = All-nil (λ (r : Row). is_local r.key ≡ true)
rows_local (id ∷ ids) (k ∷ keys) is_file all =
    let P : Key → Type 0 = λ k. is_local k ≡ true in
    All-cons (λ r. is_local r.key ≡ true) (record { id = id; key = k; is_file = is_file && is_end keys }) (rows_of ids keys is_file) (All-head P k keys all) (rows_local ids keys is_file (All-tail P k keys all))

keys_local : (tree : List Row) (key : Key) → is_local key ≡ true → All (λ k. is_local k ≡ true) (keys_added tree key)
keys_local tree key is =
    let P : Key → Type 0 = λ k. is_local k ≡ true in
    All-append P (filter (is_missing tree) (folders_above key)) (key ∷ []) (All-filter (is_missing tree) P (folders_above key) (fronts_local key.repo is (fronts (whole_of key)))) (All-cons P key [] is (All-nil P))

pub added_keeps : (limits : Limits) (tree new : List Row) (key : Key) (is_file : Bool) (ids : List ℕ) → Keeps limits tree → is_local key ≡ true → put_fault tree key limits.items ≡ None → Adds tree (keys_added tree key) is_file ids new
    → Keeps limits new
added_keeps limits tree new key is_file ids keeps local ok adds =
    let more : List Row = rows_of ids (keys_added tree key) is_file in
    let room : length tree + length (keys_added tree key) ≤ limits.items = room_by (option_map FileAbove (file_above tree key)) (is_some (row_at tree key)) limits.items (length tree + length (keys_added tree key)) ok in
    let P : List Row → Type 0 = λ t. All (λ r. is_local r.key ≡ true) t in
    let long : length new ≡ length more + length tree = ap (λ (l : List Row). length l) adds.added ∙ length-with_rows more tree in
    record {
      most = omega (arith, room, long, length-rows_of ids (keys_added tree key) is_file adds.each);
      local = subst P (sym adds.added) (All-with_rows (λ r. is_local r.key ≡ true) more tree (rows_local ids (keys_added tree key) is_file (keys_local tree key local)) keeps.local);
    }
