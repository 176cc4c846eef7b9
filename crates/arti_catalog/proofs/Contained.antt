-- The first content that has digests, by ids and among the items.
use Rattle.std.proofs.Common.{◌≡◌, ℕ, ◌<◌, ◌+◌, Bool, true, false, cond, List, [], ◌∷◌, ◌++◌, get_or, drop, length, Option, Some, None, refl, sym, ap, ◌∙◌}
use Rattle.std.specs.Prelude.{map, option_and_then, Vec}
use Rattle.std.specs.List.{find, concat}
use Rattle.std.specs.Option.{option_or}
use Rattle.std.specs.declared.alloc.Global.{Global}
use Rattle.std.proofs.lemmas.List.{drop_more}
use Rattle.arti_rows.specs.declared.rows.FileRef.{FileRef}
use Rattle.arti_rows.specs.declared.rows.ItemRow.{ItemRow}
use Rattle.arti_rows.specs.declared.rows.SomeDigests.{SomeDigests}
use Rattle.arti_tree.specs.Pieces.{lists}
use Rattle.arti_tree.specs.Rows.{Row, ids}
use Rattle.arti_model.specs.Store.{Item}
use Rattle.arti_model.specs.Deploys.{is_wanted, file_with, has_digests}
use Rattle.arti_catalog.specs.Held.{item_with, row_at_id}
use Rattle.arti_catalog.specs.Contents.{digests_of, first_with, if_wanted}

or_or : {X : Type 0} (a b c : Option X) → option_or (option_or a b) c ≡ option_or a (option_or b c)
or_or None b c = refl
or_or (Some x) b c = refl

module _ (wanted : SomeDigests) (rows : List (Option ItemRow)) where
  pub first_with-append : (xs ys : List ℕ) → first_with wanted rows (xs ++ ys) ≡ option_or (first_with wanted rows xs) (first_with wanted rows ys)
  first_with-append [] ys = refl
  first_with-append (id ∷ xs) ys =
      let here : Option FileRef = if_wanted wanted (row_at_id rows id).file in
      ap (λ (o : Option FileRef). option_or here o) (first_with-append xs ys) ∙ sym (or_or here (first_with wanted rows xs) (first_with wanted rows ys))

  pub first_is : (l : List Row) → first_with wanted rows (ids l) ≡ file_with digests_of wanted (map (item_with rows) l)
  first_is [] = refl
  first_is (r ∷ l) = one (item_with rows r).file refl (find (λ item. is_wanted digests_of wanted item.file) (map (item_with rows) l)) (first_is l)
    where
      if_has : (b : Bool) (file : FileRef) (item : Item FileRef) (rest : Option (Item FileRef)) (more : Option FileRef) → item.file ≡ Some file → more ≡ option_and_then (λ (i : Item FileRef). i.file) rest
          → option_or (cond b (Some file) None) more ≡ option_and_then (λ (i : Item FileRef). i.file) (cond b (Some item) rest)
      if_has true file item rest more is same = sym is
      if_has false file item rest more is same = same

      one : (o : Option FileRef) → (item_with rows r).file ≡ o → (rest : Option (Item FileRef)) → first_with wanted rows (ids l) ≡ option_and_then (λ (i : Item FileRef). i.file) rest
          → option_or (if_wanted wanted o) (first_with wanted rows (ids l)) ≡ option_and_then (λ (i : Item FileRef). i.file) (cond (is_wanted digests_of wanted o) (Some (item_with rows r)) rest)
      one None is rest more = more
      one (Some file) is rest more = if_has (has_digests wanted file.digests) file (item_with rows r) rest (first_with wanted rows (ids l)) is more

  -- a block behind those in which none was found
  module _ (blocks : List (Vec ℕ Global)) (n : ℕ) (b : Vec ℕ Global) (lt : n < length blocks) (is : b ≡ get_or blocks n b) where
    pub at_block : first_with wanted rows (concat (lists (drop n blocks))) ≡ option_or (first_with wanted rows b.items) (first_with wanted rows (concat (lists (drop (n + 1) blocks))))
    at_block =
        let cut : drop n blocks ≡ b ∷ drop (n + 1) blocks = drop_more blocks n b lt ∙ ap (λ (x : Vec ℕ Global). x ∷ drop (n + 1) blocks) (sym is) in
        ap (λ (l : List (Vec ℕ Global)). first_with wanted rows (concat (lists l))) cut ∙ first_with-append b.items (concat (lists (drop (n + 1) blocks)))
