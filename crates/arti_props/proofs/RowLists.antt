-- Rows under ids: what a map of them leaves, and the ids of the rows that pass a test.
use Rattle.std.proofs.Common.{◌≡◌, ℕ, ◌<◌, Bool, true, false, cond, List, [], ◌∷◌, ◌++◌, refl, sym, ap, ◌∙◌, arith, Option, Some, Ordering}
use Rattle.std.specs.Prelude.{All, nat_lt}
use Rattle.std.specs.List.{filter}
use Rattle.std.specs.Option.{option_map_or}
use Rattle.std.specs.Map.{lookup, keys_of, remove_entry}
use Rattle.std.specs.BTreeMap.{insert_entry, is_at}
use Rattle.std.specs.Ordering.{nat_cmp, match_ordering, is_eq}
use Rattle.std.specs.declared.cmp.Ordering.TheVariants.{Less, Equal, Greater}
use Rattle.std.specs.List.Sorted.{IsStrictlySortedBy}
use Rattle.std.proofs.lemmas.List.{map-append}
use Rattle.std.proofs.lemmas.List.Elements.{All-head, All-tail, All-cons, All-nil, All-filter, All-from_recursion, All-weaker, filter-append}
use Rattle.std.proofs.lemmas.Map.Keys.{sorted_head, sorted_tail}
use Rattle.std.proofs.lemmas.Cmp.{ranked}
use Rattle.arti_props.specs.declared.row.Row.{Row}
use Rattle.arti_ids.specs.Ids.{Ascends, lower, higher, with_id, without_id}
use Rattle.arti_props.specs.Rows.{set_row, drop_row, ids_where}
use Rattle.arti_ids.specs.IdLaws.{all_over, mid_cons, low_cons}

abbrev pub Entry : Type 0
Entry = ℕ × Row

abbrev pub id_of : Entry → ℕ
id_of e = e.0

less_lt : (a b : ℕ) → nat_cmp a b ≡ Less → a < b
less_lt a b e = ranked a b Less (sym e)

equal_is : (a b : ℕ) → nat_cmp a b ≡ Equal → a ≡ b
equal_is a b e = ranked a b Equal (sym e)

greater_lt : (a b : ℕ) → nat_cmp a b ≡ Greater → b < a
greater_lt a b e = ranked a b Greater (sym e)

keys_above : (k : ℕ) (es : List Entry) → All (λ y. nat_cmp k y ≡ Less) (keys_of es) → All (λ e. k < id_of e) es
keys_above k [] all = All-nil (λ e. k < id_of e)
keys_above k (e ∷ es) all =
    All-cons (λ e. k < id_of e) e es (less_lt k e.0 (All-head (λ y. nat_cmp k y ≡ Less) e.0 (keys_of es) all)) (keys_above k es (All-tail (λ y. nat_cmp k y ≡ Less) e.0 (keys_of es) all))

-- a map's entries ascend
pub rising_rows : (es : List Entry) → IsStrictlySortedBy nat_cmp (keys_of es) → Ascends id_of es
rising_rows [] up = tt
rising_rows (e ∷ es) up =
    (keys_above e.0 es (All-from_recursion (λ y. nat_cmp e.0 y ≡ Less) (keys_of es) (sorted_head nat_cmp e.0 (keys_of es) up)), rising_rows es (sorted_tail nat_cmp e.0 (keys_of es) up))

over_first : (id : ℕ) (e : Entry) (es : List Entry) → Ascends id_of (e ∷ es) → id < e.0 → All (λ x. id < id_of x) (e ∷ es)
over_first id e es up lt = All-cons (λ x. id < id_of x) e es lt (All-weaker (λ x. e.0 < id_of x) (λ x. id < id_of x) (λ x h. omega (arith, lt, h)) es up.0)

over_rest : (id : ℕ) (e : Entry) (es : List Entry) → Ascends id_of (e ∷ es) → id ≡ e.0 → All (λ x. id < id_of x) es
over_rest id e es up is = All-weaker (λ x. e.0 < id_of x) (λ x. id < id_of x) (λ x h. omega (arith, is, h)) es up.0

module _ (id : ℕ) (row : Row) where
  insert_by : (e : Entry) (es rest : List Entry) → Ascends id_of (e ∷ es) → (o : Ordering) → nat_cmp id e.0 ≡ o → rest ≡ set_row id row es → match_ordering o ((id, row) ∷ e ∷ es) ((e.0, row) ∷ es) (e ∷ rest) ≡ set_row id row (e ∷ es)
  insert_by e es rest up Less is ih =
      let all = all_over id_of id (e ∷ es) (over_first id e es up (less_lt id e.0 is)) in
      sym (ap (λ (l : List Entry). l ++ (id, row) ∷ higher id_of id (e ∷ es)) all.0 ∙ ap (λ (l : List Entry). (id, row) ∷ l) all.1)
  insert_by e es rest up Equal is ih =
      let same : id ≡ e.0 = equal_is id e.0 is in
      let mid = mid_cons id_of id e es (sym same) in
      let all = all_over id_of id es (over_rest id e es up same) in
      sym (ap (λ (l : List Entry). l ++ (id, row) ∷ higher id_of id (e ∷ es)) (mid.0 ∙ all.0) ∙ ap (λ (l : List Entry). (id, row) ∷ l) (mid.1 ∙ all.1) ∙ ap (λ k. (k, row) ∷ es) same)
  insert_by e es rest up Greater is ih =
      let low = low_cons id_of id e es (greater_lt id e.0 is) in
      ap (λ (l : List Entry). e ∷ l) ih ∙ sym (ap (λ (l : List Entry). l ++ (id, row) ∷ higher id_of id (e ∷ es)) low.0 ∙ ap (λ (l : List Entry). e ∷ (lower id_of id es ++ (id, row) ∷ l)) low.1)

  -- an insertion into a map
  pub insert_is : (es : List Entry) → Ascends id_of es → insert_entry nat_cmp es id row ≡ set_row id row es
  insert_is [] up = refl
  insert_is (e ∷ es) up = insert_by e es (insert_entry nat_cmp es id row) up (nat_cmp id e.0) refl (insert_is es up.1)

remove_by : (id : ℕ) (e : Entry) (es rest : List Entry) → Ascends id_of (e ∷ es) → (o : Ordering) → nat_cmp id e.0 ≡ o → rest ≡ drop_row id es → cond (is_eq o) es (e ∷ rest) ≡ drop_row id (e ∷ es)
remove_by id e es rest up Less is ih =
    let all = all_over id_of id (e ∷ es) (over_first id e es up (less_lt id e.0 is)) in
    let over = all_over id_of id es (All-tail (λ x. id < id_of x) e es (over_first id e es up (less_lt id e.0 is))) in
    ap (λ (l : List Entry). e ∷ l) (ih ∙ ap (λ (l : List Entry). l ++ higher id_of id es) over.0 ∙ over.1) ∙ sym (ap (λ (l : List Entry). l ++ higher id_of id (e ∷ es)) all.0 ∙ all.1)
remove_by id e es rest up Equal is ih =
    let same : id ≡ e.0 = equal_is id e.0 is in
    let mid = mid_cons id_of id e es (sym same) in
    let all = all_over id_of id es (over_rest id e es up same) in
    sym (ap (λ (l : List Entry). l ++ higher id_of id (e ∷ es)) (mid.0 ∙ all.0) ∙ mid.1 ∙ all.1)
remove_by id e es rest up Greater is ih =
    let low = low_cons id_of id e es (greater_lt id e.0 is) in
    ap (λ (l : List Entry). e ∷ l) ih ∙ sym (ap (λ (l : List Entry). l ++ higher id_of id (e ∷ es)) low.0 ∙ ap (λ (l : List Entry). e ∷ (lower id_of id es ++ l)) low.1)

-- a removal from a map
pub remove_is : (id : ℕ) (es : List Entry) → Ascends id_of es → remove_entry (is_at (nat_cmp id)) es ≡ drop_row id es
remove_is id [] up = refl
remove_is id (e ∷ es) up = remove_by id e es (remove_entry (is_at (nat_cmp id)) es) up (nat_cmp id e.0) refl (remove_is id es up.1)

module _ (t : Row → Bool) where
  abbrev T : Entry → Bool
  T e = t e.1

  keys_by : (p : ℕ → Bool) (e : Entry) (a f : List Entry) (b c : Bool) → p e.0 ≡ b → t e.1 ≡ c → keys_of (filter T a) ≡ filter p (keys_of f) → keys_of (filter T (cond (p e.0) (e ∷ a) a)) ≡ filter p (keys_of (cond (t e.1) (e ∷ f) f))
  keys_by p e a f true true hb hc ih =
      ap (λ x. keys_of (filter T (cond x (e ∷ a) a))) hb
      ∙ ap (λ x. keys_of (cond x (e ∷ filter T a) (filter T a))) hc
      ∙ ap (λ (l : List ℕ). e.0 ∷ l) ih
      ∙ sym (ap (λ x. filter p (keys_of (cond x (e ∷ f) f))) hc ∙ ap (λ x. cond x (e.0 ∷ filter p (keys_of f)) (filter p (keys_of f))) hb)
  keys_by p e a f true false hb hc ih =
      ap (λ x. keys_of (filter T (cond x (e ∷ a) a))) hb ∙ ap (λ x. keys_of (cond x (e ∷ filter T a) (filter T a))) hc ∙ ih ∙ sym (ap (λ x. filter p (keys_of (cond x (e ∷ f) f))) hc)
  keys_by p e a f false true hb hc ih =
      ap (λ x. keys_of (filter T (cond x (e ∷ a) a))) hb ∙ ih ∙ sym (ap (λ x. filter p (keys_of (cond x (e ∷ f) f))) hc ∙ ap (λ x. cond x (e.0 ∷ filter p (keys_of f)) (filter p (keys_of f))) hb)
  keys_by p e a f false false hb hc ih =
      ap (λ x. keys_of (filter T (cond x (e ∷ a) a))) hb ∙ ih ∙ sym (ap (λ x. filter p (keys_of (cond x (e ∷ f) f))) hc)

  -- a filter by the ids, and one by the rows
  filter_keys : (p : ℕ → Bool) (es : List Entry) → keys_of (filter T (filter (λ e. p e.0) es)) ≡ filter p (keys_of (filter T es))
  filter_keys p [] = refl
  filter_keys p (e ∷ es) = keys_by p e (filter (λ e. p e.0) es) (filter T es) (p e.0) (t e.1) refl refl (filter_keys p es)

  ids_lower : (id : ℕ) (es : List Entry) → ids_where t (lower id_of id es) ≡ lower (λ x. x) id (ids_where t es)
  ids_lower id es = filter_keys (λ x. nat_lt x id) es

  ids_higher : (id : ℕ) (es : List Entry) → ids_where t (higher id_of id es) ≡ higher (λ x. x) id (ids_where t es)
  ids_higher id es = filter_keys (λ x. nat_lt id x) es

  ids-append : (a b : List Entry) → ids_where t (a ++ b) ≡ ids_where t a ++ ids_where t b
  ids-append a b = ap (λ (l : List Entry). keys_of l) (filter-append T a b) ∙ map-append (λ (e : Entry). e.0) (filter T a) (filter T b)

  ids_drop : (id : ℕ) (es : List Entry) → ids_where t (drop_row id es) ≡ without_id id (ids_where t es)
  ids_drop id es =
      ids-append (lower id_of id es) (higher id_of id es) ∙ ap (λ (l : List ℕ). l ++ ids_where t (higher id_of id es)) (ids_lower id es) ∙ ap (λ (l : List ℕ). lower (λ x. x) id (ids_where t es) ++ l) (ids_higher id es)

  ids_set : (id : ℕ) (row : Row) (es : List Entry) (b : Bool) → t row ≡ b → ids_where t (set_row id row es) ≡ cond b (with_id id (ids_where t es)) (without_id id (ids_where t es))
  ids_set id row es true is =
      ids-append (lower id_of id es) ((id, row) ∷ higher id_of id es)
      ∙ ap (λ (l : List ℕ). l ++ ids_where t ((id, row) ∷ higher id_of id es)) (ids_lower id es)
      ∙ ap (λ x. lower (λ x. x) id (ids_where t es) ++ keys_of (cond x ((id, row) ∷ filter T (higher id_of id es)) (filter T (higher id_of id es)))) is
      ∙ ap (λ (l : List ℕ). lower (λ x. x) id (ids_where t es) ++ id ∷ l) (ids_higher id es)
  ids_set id row es false is =
      ids-append (lower id_of id es) ((id, row) ∷ higher id_of id es)
      ∙ ap (λ (l : List ℕ). l ++ ids_where t ((id, row) ∷ higher id_of id es)) (ids_lower id es)
      ∙ ap (λ x. lower (λ x. x) id (ids_where t es) ++ keys_of (cond x ((id, row) ∷ filter T (higher id_of id es)) (filter T (higher id_of id es)))) is
      ∙ ap (λ (l : List ℕ). lower (λ x. x) id (ids_where t es) ++ l) (ids_higher id es)

  keys_over : (id : ℕ) (es : List Entry) → All (λ e. id < id_of e) es → All (λ x. id < x) (keys_of es)
  keys_over id [] all = All-nil (λ x. id < x)
  keys_over id (e ∷ es) all = All-cons (λ x. id < x) e.0 (keys_of es) (All-head (λ e. id < id_of e) e es all) (keys_over id es (All-tail (λ e. id < id_of e) e es all))

  -- where all ids are above it, none is taken away
  over_same : (id : ℕ) (es : List Entry) → All (λ e. id < id_of e) es → without_id id (ids_where t es) ≡ ids_where t es
  over_same id es all =
      let over = all_over (λ x. x) id (ids_where t es) (keys_over id (filter T es) (All-filter T (λ e. id < id_of e) es all)) in
      ap (λ (l : List ℕ). l ++ higher (λ x. x) id (ids_where t es)) over.0 ∙ over.1

  low_same : (id k : ℕ) (ids : List ℕ) → k < id → without_id id ids ≡ ids → without_id id (k ∷ ids) ≡ k ∷ ids
  low_same id k ids lt same =
      let low = low_cons (λ (x : ℕ). x) id k ids lt in
      ap (λ (l : List ℕ). l ++ higher (λ x. x) id (k ∷ ids)) low.0 ∙ ap (λ (l : List ℕ). k ∷ (lower (λ x. x) id ids ++ l)) low.1 ∙ ap (λ (l : List ℕ). k ∷ l) same

  low_by : (id : ℕ) (e : Entry) (f : List Entry) (b : Bool) → e.0 < id → without_id id (keys_of f) ≡ keys_of f → without_id id (keys_of (cond b (e ∷ f) f)) ≡ keys_of (cond b (e ∷ f) f)
  low_by id e f true lt same = low_same id e.0 (keys_of f) lt same
  low_by id e f false lt same = same

  absent_by : (id : ℕ) (e : Entry) (es : List Entry) → Ascends id_of (e ∷ es) → (o : Ordering) → nat_cmp id e.0 ≡ o → option_map_or t (cond (is_eq o) (Some e.1) (lookup (is_at (nat_cmp id)) es)) false ≡ false
      → (option_map_or t (lookup (is_at (nat_cmp id)) es) false ≡ false → without_id id (ids_where t es) ≡ ids_where t es) → without_id id (ids_where t (e ∷ es)) ≡ ids_where t (e ∷ es)
  absent_by id e es up Less is none ih = over_same id (e ∷ es) (over_first id e es up (less_lt id e.0 is))
  absent_by id e es up Equal is none ih =
      let skip : ids_where t (e ∷ es) ≡ ids_where t es = ap (λ x. keys_of (cond x (e ∷ filter T es) (filter T es))) none in
      ap (without_id id) skip ∙ over_same id es (over_rest id e es up (equal_is id e.0 is)) ∙ sym skip
  absent_by id e es up Greater is none ih = low_by id e (filter T es) (t e.1) (greater_lt id e.0 is) (ih none)

  -- an id whose row doesn't pass isn't among them
  absent : (id : ℕ) (es : List Entry) → Ascends id_of es → option_map_or t (lookup (is_at (nat_cmp id)) es) false ≡ false → without_id id (ids_where t es) ≡ ids_where t es
  absent id [] up none = refl
  absent id (e ∷ es) up none = absent_by id e es up (nat_cmp id e.0) refl none (absent id es up.1)

  module _ (id : ℕ) (es : List Entry) (up : Ascends id_of es) (old : Option Row) (found : old ≡ lookup (is_at (nat_cmp id)) es) (i1 i2 : List ℕ) (was : i1 ≡ ids_where t es) where
    abbrev Gone : Type 0
    Gone = i2 ≡ cond (option_map_or t old false) (without_id id i1) i1

    gone_by : (b : Bool) → option_map_or t old false ≡ b → Gone → i2 ≡ without_id id (ids_where t es)
    gone_by true has gone = gone ∙ ap (λ x. cond x (without_id id i1) i1) has ∙ ap (without_id id) was
    gone_by false has gone = gone ∙ ap (λ x. cond x (without_id id i1) i1) has ∙ was ∙ sym (absent id es up (ap (λ o. option_map_or t o false) (sym found) ∙ has))

    gone_is : Gone → i2 ≡ without_id id (ids_where t es)
    gone_is gone = gone_by (option_map_or t old false) refl gone

    -- after a row is taken away
    pub after_drop : Gone → i2 ≡ ids_where t (drop_row id es)
    after_drop gone = gone_is gone ∙ sym (ids_drop id es)

    module _ (row : Row) (others : with_id id i2 ≡ with_id id i1) (gone : t row ≡ false → Gone) where
      set_by : (i3 : List ℕ) (b : Bool) → t row ≡ b → i3 ≡ cond (t row) (with_id id i2) i2 → i3 ≡ ids_where t (set_row id row es)
      set_by i3 true is new = new ∙ ap (λ x. cond x (with_id id i2) i2) is ∙ others ∙ ap (with_id id) was ∙ sym (ids_set id row es true is)
      set_by i3 false is new = new ∙ ap (λ x. cond x (with_id id i2) i2) is ∙ gone_is (gone is) ∙ sym (ids_set id row es false is)

      -- after a row is put in its place. What it has may have stayed
      pub after_set : (i3 : List ℕ) → i3 ≡ cond (t row) (with_id id i2) i2 → i3 ≡ ids_where t (set_row id row es)
      after_set i3 new = set_by i3 (t row) refl new
