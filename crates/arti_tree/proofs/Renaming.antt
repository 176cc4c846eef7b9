-- What a tree has to show as a row of it gets another key.
use Rattle.std.proofs.Common.{◌≡◌, ℕ, false, List, [], ◌∷◌, length, Option, Some, None, option_map, refl, sym, ap, ◌∙◌, subst}
use Rattle.std.specs.Prelude.{map, nat_eq}
use Rattle.std.specs.Option.{option_map_or}
use Rattle.std.specs.Cmp.Lexicographic.{pointwise}
use Rattle.std.proofs.lemmas.List.{length-map}
use Rattle.arti_rows.specs.Key.{Key}
use Rattle.arti_rows.specs.Names.{IsKey}
use Rattle.arti_tree.specs.declared.slot.Slot.{Slot}
use Rattle.arti_tree.specs.Ids.{Lacks}
use Rattle.arti_tree.specs.Rows.{Row, row_of, row_at, lies_in, folder_id, HasFolder}
use Rattle.arti_tree.specs.Slots.{at, row_with, live, is_it}
use Rattle.arti_tree.specs.Kept.{inside, Ordered, Kept}
use Rattle.arti_tree.specs.Renames.{is_within, moved_row, has, AreWithin, key_for, rekeyed_all, StayKeys, CanRekey}
use Rattle.arti_tree.specs.Shifts.{shifted, AreNew}
use Rattle.arti_tree.proofs.Folders.{lies_by_id}
use Rattle.arti_tree.proofs.Looks.{live_in}
use Rattle.arti_tree.proofs.Members.{has_rows, lacks_from}
use Rattle.arti_tree.proofs.Moving.{can, all_moved, repo_new, kept_moved}
use Rattle.arti_tree.proofs.Shifting.{other_way}
use Rattle.arti_tree.proofs.Finding.{Top, top_of}

module _ (slots : List (Option Slot)) (all order : List ℕ) (lists : ℕ → List ℕ) (repos : List ℕ → List ℕ) (kept : Kept slots all order lists repos) (self : List Row) (view : live 0 slots ≡ self) (id : ℕ) (from to : Key)
    (from_is : IsKey from) (to_is : IsKey to) (there : option_map (λ (r : Row). r.key) (row_of self id) ≡ Some from) (absent : row_at self to ≡ None) (folder : HasFolder self to) (apart : is_within from to ≡ false) (stay : StayKeys self from to) (found : List ℕ) (is : AreWithin self from found) where
  abbrev rows : List Row
  rows = live 0 slots

  absent_here : row_at rows to ≡ None
  absent_here = subst (λ (l : List Row). row_at l to ≡ None) (sym view) absent

  folder_here : HasFolder rows to
  folder_here = subst (λ (l : List Row). HasFolder l to) (sym view) folder

  stay_here : StayKeys rows from to
  stay_here = subst (λ (l : List Row). StayKeys l from to) (sym view) stay

  top : Top rows id from
  top = top_of rows id from kept.tree.ascend (subst (λ (l : List Row). option_map (λ (r : Row). r.key) (row_of l id) ≡ Some from) (sym view) there)

  absent_by : (i : ℕ) (s : Option Slot) → at slots i ≡ s → is_it (folder_id rows from) i ≡ false → has (lists i) id ≡ false
  absent_by i None at_i e = ap (λ (l : List ℕ). has l id) (kept.children_are i ∙ ap (inside rows) at_i)
  absent_by i (Some s) at_i e =
      let x : Row = row_with i s in
      let t = top in
      ap (λ (l : List ℕ). has l id) (kept.children_are i ∙ ap (inside rows) at_i) ∙ has_rows (lies_in s.key) 0 rows id kept.tree.ascend
      ∙ ap (λ (o : Option Row). option_map_or (lies_in s.key) o false) (ap (row_of rows) (sym t.is) ∙ t.live) ∙ lies_by_id rows t.row kept.tree x (live_in slots i s at_i) ∙ ap (λ (k : Key). is_it (folder_id rows k) i) t.key ∙ e

  -- the id is in no other folder
  pub absent_list : (o : Option ℕ) → o ≡ folder_id self from → (i : ℕ) → is_it o i ≡ false → Lacks (lists i) id
  absent_list o o_is i e = lacks_from (lists i) id (absent_by i (at slots i) refl (ap (λ (p : Option ℕ). is_it p i) (sym (o_is ∙ ap (λ (l : List Row). folder_id l from) (sym view))) ∙ e))

  is_here : AreWithin rows from found
  is_here = subst (λ (l : List Row). AreWithin l from found) (sym view) is

  keys_here : (keys : List Key) → keys ≡ map (key_for self from to) found → keys ≡ map (key_for rows from to) found
  keys_here keys e = e ∙ ap (λ (l : List Row). map (key_for l from to) found) (sym view)

  -- none of the ids is in another repository
  pub absent_repo : pointwise nat_eq from.repo to.repo ≡ false → AreNew (repos to.repo) found
  absent_repo e =
      let t = top in
      repo_new rows from to kept.tree from_is to_is stay_here absent_here found is_here folder_here apart t.row t.live t.key to.repo (repos to.repo) (kept.repos_are to.repo) (other_way from.repo to.repo e)

  pub as_many : (keys : List Key) → keys ≡ map (key_for self from to) found → length found ≡ length keys
  as_many keys e = sym (length-map found (key_for self from to)) ∙ ap (λ (l : List Key). length l) (sym e)

  pub can_all : (keys : List Key) → keys ≡ map (key_for self from to) found → CanRekey rows found keys
  can_all keys e = subst (λ (l : List Key). CanRekey rows found l) (sym (keys_here keys e)) (can rows from to kept.tree from_is to_is stay_here absent_here found is_here)

  -- the rows are those that moved
  pub rows_moved : (keys : List Key) (after : List Row) → keys ≡ map (key_for self from to) found → after ≡ rekeyed_all found keys rows → after ≡ map (moved_row from to) rows
  rows_moved keys after keys_are e = e ∙ ap (λ (l : List Key). rekeyed_all found l rows) (keys_here keys keys_are) ∙ all_moved rows from to kept.tree from_is to_is stay_here absent_here found is_here

  -- each list is kept
  module _ (keys : List Key) (keys_are : keys ≡ map (key_for self from to) found) (new_slots : List (Option Slot)) (new_order : List ℕ) (new_lists : ℕ → List ℕ) (new_repos : List ℕ → List ℕ)
      (was will : Option ℕ) (was_is : was ≡ folder_id self from) (will_is : will ≡ folder_id self to) (slots_are : live 0 new_slots ≡ rekeyed_all found keys rows) where
    pub kept_after : Ordered (live 0 new_slots) new_order
        → ((i : ℕ) → new_lists i ≡ shifted (is_it was i) (is_it will i) (id ∷ []) (lists i))
        → ((q : List ℕ) → new_repos q ≡ shifted (pointwise nat_eq q from.repo) (pointwise nat_eq q to.repo) found (repos q)) → Kept new_slots all new_order new_lists new_repos
    kept_after ordered lists_are repos_are =
        let t = top in
        let was_here : was ≡ folder_id rows from = was_is ∙ ap (λ (l : List Row). folder_id l from) (sym view) in
        let will_here : will ≡ folder_id rows to = will_is ∙ ap (λ (l : List Row). folder_id l to) (sym view) in
        kept_moved slots new_slots from to all order lists new_lists repos new_repos kept from_is to_is stay_here absent_here folder_here apart t.row t.live t.key found is_here (rows_moved keys (live 0 new_slots) keys_are slots_are)
        (λ i. lists_are i ∙ ap (λ (o : Option ℕ). shifted (is_it o i) (is_it will i) (id ∷ []) (lists i)) was_here ∙ ap (λ (o : Option ℕ). shifted (is_it (folder_id rows from) i) (is_it o i) (id ∷ []) (lists i)) will_here
        ∙ ap (λ (n : ℕ). shifted (is_it (folder_id rows from) i) (is_it (folder_id rows to) i) (n ∷ []) (lists i)) (sym t.is))
        repos_are
        new_order ordered
