-- What stands at a key is what is found there, since items in the default order have each key once.
use Rattle.std.proofs.Common.{◌≡◌, zero, suc, Bool, true, false, cond, List, [], ◌∷◌, Option, Some, None, refl, sym, ap, ◌∙◌, arith, Less}
use Rattle.std.specs.Prelude.{All, ◌&&◌, ◌||◌, not, is_some, option_map}
use Rattle.std.specs.Option.{option_map_or}
use Rattle.std.proofs.lemmas.List.Elements.{All-head, All-tail}
use Rattle.arti_rows.specs.Key.{Key, key_cmp, same_key}
use Rattle.arti_rows.specs.KeyLaws.{same_key-apart}
use Rattle.arti_rows.specs.declared.rows.FileRef.{FileRef}
use Rattle.arti_rows.specs.declared.rows.ItemRow.{ItemRow}
use Rattle.arti_model.specs.Store.{Item, InDefaultOrder, find_item, has_item, has_file, is_file, item_of_row}
use Rattle.arti_model.specs.Apply.{has_folder}
use Rattle.arti_moves.specs.Moves.{is_folder_row}

abbrev Before : Item FileRef → Item FileRef → Type 0
Before a b = key_cmp a.key b.key ≡ Less

first_before : (x : Item FileRef) (items : List (Item FileRef)) → InDefaultOrder (x ∷ items) → All (Before x) items
first_before x items p k d lt = p zero (suc k) d (omega arith) (omega arith)

rest_in_order : (x : Item FileRef) (items : List (Item FileRef)) → InDefaultOrder (x ∷ items) → InDefaultOrder items
rest_in_order x items p i j d lt within = p (suc i) (suc j) d (omega arith) (omega arith)

module _ (key : Key) where
  none_behind : (x : Item FileRef) (items : List (Item FileRef)) → same_key x.key key ≡ true → All (Before x) items → has_file items key ≡ false
  none_behind x [] here all = refl
  none_behind x (y ∷ items) here all =
      rw (same_key-apart x.key y.key key (All-head (Before x) y items all) here, none_behind x items here (All-tail (Before x) y items all)) refl

  file_by : (b t : Bool) (x : Item FileRef) (rest : Bool) (found : Option (Item FileRef)) → is_file x ≡ t → (b ≡ true → rest ≡ false) → (b ≡ false → rest ≡ option_map_or is_file found false)
      → (b && t || rest) ≡ option_map_or is_file (cond b (Some x) found) false
  file_by true true x rest found is none more = sym is
  file_by true false x rest found is none more = none refl ∙ sym is
  file_by false t x rest found is none more = more refl

  file_is_found : (items : List (Item FileRef)) → InDefaultOrder items → has_file items key ≡ option_map_or is_file (find_item items key) false
  file_is_found [] order = refl
  file_is_found (x ∷ items) order =
      file_by (same_key x.key key) (is_file x) x (has_file items key) (find_item items key) refl (λ here. none_behind x items here (first_before x items order))
      (λ other. file_is_found items (rest_in_order x items order))

  item_by : (b : Bool) (x : Item FileRef) (rest : Bool) (found : Option (Item FileRef)) → rest ≡ is_some found → (b || rest) ≡ is_some (cond b (Some x) found)
  item_by true x rest found is = refl
  item_by false x rest found is = is

  item_is_found : (items : List (Item FileRef)) → has_item items key ≡ is_some (find_item items key)
  item_is_found [] = refl
  item_is_found (x ∷ items) = item_by (same_key x.key key) x (has_item items key) (find_item items key) (item_is_found items)

  of_row : (row : Option ItemRow) → is_folder_row row
      ≡ (is_some (option_map item_of_row row) && not (option_map_or is_file (option_map item_of_row row) false))
  of_row None = refl
  of_row (Some row) = refl

  pub folder_is_found : (items : List (Item FileRef)) → InDefaultOrder items → (row : Option ItemRow) → option_map item_of_row row ≡ find_item items key
      → is_folder_row row ≡ has_folder items key
  folder_is_found items order row found =
      of_row row ∙ ap (λ (o : Option (Item FileRef)). is_some o && not (option_map_or is_file o false)) found
      ∙ ap (λ b. b && not (option_map_or is_file (find_item items key) false)) (sym (item_is_found items)) ∙ ap (λ b. has_item items key && not b) (sym (file_is_found items order))
