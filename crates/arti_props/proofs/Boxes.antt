-- What a map of boxes leaves of the rows in them.
use Rattle.std.proofs.Common.{◌≡◌, ℕ, Bool, true, false, cond, List, [], ◌∷◌, refl, sym, ap, ◌∙◌, subst, option_map, Box, box_value, Ordering}
use Rattle.std.specs.declared.alloc.Global.{Global}
use Rattle.std.specs.Map.{lookup, keys_of, remove_entry}
use Rattle.std.specs.BTreeMap.{insert_entry, is_at}
use Rattle.std.specs.Ordering.{nat_cmp, match_ordering}
use Rattle.std.specs.declared.cmp.Ordering.TheVariants.{Less, Equal, Greater}
use Rattle.std.specs.List.Sorted.{IsStrictlySortedBy}
use Rattle.std.proofs.lemmas.Map.Made.{lookup-map_values, keys_of-map_values}
use Rattle.arti_props.specs.declared.row.Row.{Row}
use Rattle.arti_props.specs.Boxes.{opened}
use Rattle.arti_props.specs.Rows.{set_row, drop_row}
use Rattle.arti_props.proofs.RowLists.{Entry, rising_rows, insert_is, remove_is}

abbrev pub Boxed : Type 0
Boxed = ℕ × Box Row Global

abbrev out : Boxed → Entry
out e = (e.0, e.1.value)

insert_by : (id : ℕ) (b : Box Row Global) (e : Boxed) (es rest : List Boxed) (o : Ordering)
    → opened (match_ordering o ((id, b) ∷ e ∷ es) ((e.0, b) ∷ es) (e ∷ rest)) ≡ match_ordering o ((id, b.value) ∷ out e ∷ opened es) ((e.0, b.value) ∷ opened es) (out e ∷ opened rest)
insert_by id b e es rest Less = refl
insert_by id b e es rest Equal = refl
insert_by id b e es rest Greater = refl

opened-insert : (id : ℕ) (b : Box Row Global) (es : List Boxed) → opened (insert_entry nat_cmp es id b) ≡ insert_entry nat_cmp (opened es) id b.value
opened-insert id b [] = refl
opened-insert id b (e ∷ es) =
    insert_by id b e es (insert_entry nat_cmp es id b) (nat_cmp id e.0)
    ∙ ap (λ (l : List Entry). match_ordering (nat_cmp id e.0) ((id, b.value) ∷ out e ∷ opened es) ((e.0, b.value) ∷ opened es) (out e ∷ l)) (opened-insert id b es)

remove_by : (e : Boxed) (es rest : List Boxed) (b : Bool) → opened (cond b es (e ∷ rest)) ≡ cond b (opened es) (out e ∷ opened rest)
remove_by e es rest true = refl
remove_by e es rest false = refl

opened-remove : (t : ℕ → Bool) (es : List Boxed) → opened (remove_entry t es) ≡ remove_entry t (opened es)
opened-remove t [] = refl
opened-remove t (e ∷ es) = remove_by e es (remove_entry t es) (t e.0) ∙ ap (λ (l : List Entry). cond (t e.0) (opened es) (out e ∷ l)) (opened-remove t es)

module _ (es : List Boxed) (now : List Entry) (is : opened es ≡ now) where
  -- a row is found in its box
  pub found : (id : ℕ) → lookup (is_at (nat_cmp id)) now ≡ option_map box_value (lookup (is_at (nat_cmp id)) es)
  found id = ap (λ (l : List Entry). lookup (is_at (nat_cmp id)) l) (sym is) ∙ lookup-map_values (λ (b : Box Row Global). b.value) (is_at (nat_cmp id)) es

  keys_are : keys_of now ≡ keys_of es
  keys_are = ap (λ (l : List Entry). keys_of l) (sym is) ∙ keys_of-map_values (λ (b : Box Row Global). b.value) es

  -- the ids ascend where those of the boxes do
  pub ordered : IsStrictlySortedBy nat_cmp (keys_of es) → IsStrictlySortedBy nat_cmp (keys_of now)
  ordered up = subst (λ (l : List ℕ). IsStrictlySortedBy nat_cmp l) (sym keys_are) up

  -- a box more
  pub put_is : (id : ℕ) (b : Box Row Global) (row : Row) (new : List Boxed) → b.value ≡ row → IsStrictlySortedBy nat_cmp (keys_of es) → new ≡ insert_entry nat_cmp es id b → opened new ≡ set_row id row now
  put_is id b row new value up put =
      ap opened put ∙ opened-insert id b es ∙ ap (insert_entry nat_cmp (opened es) id) value ∙ ap (λ (l : List Entry). insert_entry nat_cmp l id row) is ∙ insert_is id row now (rising_rows now (ordered up))

  -- a box less
  pub take_is : (id : ℕ) (new : List Boxed) → IsStrictlySortedBy nat_cmp (keys_of now) → new ≡ remove_entry (is_at (nat_cmp id)) es → opened new ≡ drop_row id now
  take_is id new up taken = ap opened taken ∙ opened-remove (is_at (nat_cmp id)) es ∙ ap (λ (l : List Entry). remove_entry (is_at (nat_cmp id)) l) is ∙ remove_is id now (rising_rows now up)
