-- What holds of the items of each catalog.
use Rattle.std.proofs.Common.{◌≡◌, ℕ, true, false, eqb, List, [], ◌∷◌, length, Option, Some, None, refl, sym, ap, subst, ◌∙◌, arith, Less}
use Rattle.std.specs.Prelude.{All, ◌&&◌, not, map, is_some, IsSome}
use Rattle.std.specs.Option.{option_map_or}
use Rattle.std.proofs.lemmas.Bool.{eqb-true}
use Rattle.std.proofs.lemmas.List.{length-map}
use Rattle.std.proofs.lemmas.List.Elements.{All-map, All-weaker}
use Rattle.std.proofs.lemmas.List.Kept.{AllPairs-cons}
use Rattle.arti_rows.specs.Key.{Key, key_cmp, folders_above}
use Rattle.arti_rows.specs.Names.{IsKey}
use Rattle.arti_rows.specs.declared.limits.Limits.{Limits}
use Rattle.arti_rows.specs.declared.rows.FileRef.{FileRef}
use Rattle.arti_rows.specs.declared.rows.ItemRow.{ItemRow}
use Rattle.arti_tree.specs.Rows.{Row, row_of, IsLive, IsFolder}
use Rattle.arti_tree.specs.Kept.{Rising}
use Rattle.arti_tree.specs.ByKey.{by_key}
use Rattle.arti_tree.specs.ByKeyLaws.{by_key_rising}
use Rattle.arti_model.specs.Store.{Item, InDefaultOrder, has_item, has_file}
use Rattle.arti_model.specs.Apply.{is_local, has_folder}
use Rattle.arti_catalog.specs.Held.{Fits, Keeps, HasRow, HasSome, AreLive, at, item_with, items_of}
use Rattle.arti_catalog.specs.Formed.{WellFormed}
use Rattle.arti_catalog.specs.LiveLaws.{all_live, All-by_key}
use Rattle.arti_catalog.proofs.Found.{found_has, has_is, has_file_is, length-by_key}
use Rattle.arti_catalog.proofs.Setting.{found_passes}

module _ (limits : Limits) (tree : List Row) (rows : List (Option ItemRow)) (fits : Fits tree rows) (keeps : Keeps limits tree) where
  -- what holds of each row holds of each item
  of_items : (P : Item FileRef → Type 0) → ((r : Row) → IsLive tree r → P (item_with rows r)) → All P (items_of tree rows)
  of_items P each =
      All-map P (item_with rows) (by_key tree)
      (All-by_key (λ r. P (item_with rows r)) tree (All-weaker (IsLive tree) (λ r. P (item_with rows r)) each tree (all_live 0 tree fits.rules.ascend)))

  rising : (l : List Row) → Rising l → InDefaultOrder (map (item_with rows) l)
  rising [] up = λ i j d lt within. absurd (omega arith)
  rising (r ∷ l) up =
      AllPairs-cons (λ (a : Item FileRef) b. key_cmp a.key b.key ≡ Less) (item_with rows r) (map (item_with rows) l)
      (All-map (λ (b : Item FileRef). key_cmp r.key b.key ≡ Less) (item_with rows) l up.0) (rising l up.1)

  folder : (k : Key) → IsFolder tree k → has_folder (items_of tree rows) k ≡ true
  folder k is =
      let there : has_item (items_of tree rows) k ≡ true = has_is tree rows k ∙ ap (λ (o : Option Row). is_some o) is.there in
      let no_file : has_file (items_of tree rows) k ≡ false = has_file_is tree rows k fits.each ∙ ap (λ (o : Option Row). option_map_or (λ r. r.is_file) o false) is.there ∙ is.folder in
      ap (λ b. b && not (has_file (items_of tree rows) k)) there ∙ ap (λ b. true && not b) no_file

  pub formed : ((r : Row) → IsLive tree r → All (IsFolder tree) (folders_above r.key)) → WellFormed limits (items_of tree rows)
  formed stand = record {
    order = rising (by_key tree) (by_key_rising tree);
    keys = of_items (λ item. IsKey item.key) (λ r live. fits.rules.keys r live);
    local = All-map (λ (item : Item FileRef). is_local item.key ≡ true) (item_with rows) (by_key tree) (All-by_key (λ r. is_local r.key ≡ true) tree keeps.local);
    folders = of_items (λ item. All (λ folder. has_folder (items_of tree rows) folder ≡ true) (folders_above item.key))
        (λ r live. All-weaker (IsFolder tree) (λ f. has_folder (items_of tree rows) f ≡ true) folder (folders_above r.key) (stand r live));
    most = let same : length (items_of tree rows) ≡ length tree = length-map (by_key tree) (item_with rows) ∙ length-by_key tree fits.once in omega (arith, same, keeps.most);
  }

-- rows stand at the ids of keys
pub live_have : (tree : List Row) (rows : List (Option ItemRow)) (ids : List ℕ) → Fits tree rows → AreLive tree ids → All (HasSome rows) ids
live_have tree rows ids fits live = All-weaker (λ id. IsSome (row_of tree id)) (HasSome rows) (λ id is. by id (row_of tree id) refl is) ids live
  where
    by : (id : ℕ) (o : Option Row) → row_of tree id ≡ o → IsSome o → HasSome rows id
    by id None e is = cc
    by id (Some r) e is =
        let has = found_has (HasRow rows) (λ x. eqb x.id id) tree r fits.each e in
        let same : r.id ≡ id = eqb-true r.id id (found_passes (λ x. eqb x.id id) tree r e) in
        let P : Option ItemRow → Type 0 = λ o. IsSome o in
        subst P (sym (ap (at rows) (sym same) ∙ has.there)) refl
