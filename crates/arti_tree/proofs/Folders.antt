-- What lies in which folder.
use Rattle.std.proofs.Common.{◌≡◌, ℕ, Bool, true, false, cond, eqb, List, [], ◌∷◌, length, Option, Some, None, option_map, refl, sym, ap, ◌∙◌, subst, arith}
use Rattle.std.specs.Prelude.{◌==◌}
use Rattle.std.specs.List.{filter, find}
use Rattle.std.proofs.lemmas.Bool.{false≢true, eqb-true, eq-eqb, ne_eqb, and_parts, and_from}
use Rattle.arti_rows.specs.Key.{Key, same_key}
use Rattle.arti_tree.specs.declared.slot.Slot.{Slot}
use Rattle.arti_tree.specs.Rows.{Row, row_of, row_at, has_folder, folder_of, folder_id, lies_in, IsLive, IsTree, RowsFrom}
use Rattle.arti_tree.specs.Slots.{at, row_with, live, is_it}
use Rattle.arti_tree.specs.Kept.{inside}
use Rattle.arti_tree.proofs.Rises.{found_passes, found_live}
use Rattle.arti_tree.proofs.Lives.{row_of_live}
use Rattle.std.specs.Option.{option_map_or, is_none}
use Rattle.std.proofs.lemmas.List.{length-map}
use Rattle.arti_tree.proofs.RowLists.{cond_none}
use Rattle.arti_rows.specs.KeyLaws.{same_key-true, same_key-refl}

filter_by : (b : Bool) (x : Row) (l : List Row) → b ≡ false → l ≡ [] → cond b (x ∷ l) l ≡ []
filter_by b x l e f = ap (λ t. cond t (x ∷ l) l) e ∙ f

pub filter_none : (p : Row → Bool) (rows : List Row) → find p rows ≡ None → filter p rows ≡ []
filter_none p [] e = refl
filter_none p (x ∷ rows) e = let parts = cond_none (p x) x (find p rows) e in filter_by (p x) x (filter p rows) parts.0 (filter_none p rows parts.1)

none_found_by : (o : Option Row) (f : (r : Row) → o ≡ Some r → ⊥) → o ≡ None
none_found_by None f = refl
none_found_by (Some r) f = absurd (f r refl)

-- what no live row passes finds nothing
pub none_found : (p : Row → Bool) (rows : List Row) → RowsFrom 0 rows → ((r : Row) → IsLive rows r → p r ≡ true → ⊥) → find p rows ≡ None
none_found p rows up f = none_found_by (find p rows) (λ r e. f r (found_live p 0 rows r up e) (found_passes p rows r e))

-- the folder of what lies in it
pub lying : (k : Key) (r : Row) → lies_in k r ≡ true → (has_folder r.key ≡ true) × (folder_of r.key ≡ k)
lying k r e = let parts = and_parts (has_folder r.key) (same_key (folder_of r.key) k) e in (parts.0, same_key-true (folder_of r.key) k parts.1)

pub lies : (r : Row) → has_folder r.key ≡ true → lies_in (folder_of r.key) r ≡ true
lies r e = and_from (has_folder r.key) (same_key (folder_of r.key) (folder_of r.key)) e (same_key-refl (folder_of r.key))

-- nothing lies in a folder that isn't there
pub none_in : (rows : List Row) (k : Key) → IsTree rows → row_at rows k ≡ None → find (lies_in k) rows ≡ None
none_in rows k tree none =
    none_found (lies_in k) rows tree.ascend (λ r live e.
    let in_it = lying k r e in
    let folder = tree.folders r live in_it.0 in
    let there : row_at rows k ≡ Some folder.row = ap (row_at rows) (sym in_it.1) ∙ folder.there in
    cc)

-- the row of an id, as it is found by its key
pub record Seen (rows : List Row) (id : ℕ) (k : Key) : Type 0 where
  pub row : Row
  pub of : row_of rows id ≡ Some row
  pub at : row_at rows k ≡ Some row
  pub same : row.key ≡ k

seen_by : (rows : List Row) (id : ℕ) (k : Key) (o : Option Row) → IsTree rows → row_of rows id ≡ o → Some k ≡ option_map (λ r. r.key) o → Seen rows id k
seen_by rows id k None tree is e = cc
seen_by rows id k (Some r) tree is e =
    let same : r.key ≡ k = cc in
    record { row = r; of = is; at = ap (row_at rows) (sym same) ∙ tree.differ r (found_live (λ x. x.id == id) 0 rows r tree.ascend is); same = same }

pub seen : (rows : List Row) (id : ℕ) (k : Key) → IsTree rows → Some k ≡ option_map (λ r. r.key) (row_of rows id) → Seen rows id k
seen rows id k tree e = seen_by rows id k (row_of rows id) tree refl e

-- the row of a key, by its id
pub record At (rows : List Row) (k : Key) (id : ℕ) : Type 0 where
  pub row : Row
  pub at : row_at rows k ≡ Some row
  pub is : row.id ≡ id
  pub live : IsLive rows row
  pub same : row.key ≡ k

at_by : (rows : List Row) (k : Key) (id : ℕ) (o : Option Row) → RowsFrom 0 rows → row_at rows k ≡ o → Some id ≡ option_map (λ r. r.id) o → At rows k id
at_by rows k id None up is e = cc
at_by rows k id (Some r) up is e =
    let same : r.id ≡ id = cc in
    record { row = r; at = is; is = same; live = found_live (λ x. same_key x.key k) 0 rows r up is; same = same_key-true r.key k (found_passes (λ x. same_key x.key k) rows r is) }

pub at_id : (rows : List Row) (k : Key) (id : ℕ) → RowsFrom 0 rows → Some id ≡ option_map (λ r. r.id) (row_at rows k) → At rows k id
at_id rows k id up e = at_by rows k id (row_at rows k) up refl e

none_by_map : (o : Option Row) → None ≡ option_map (λ (r : Row). r.id) o → o ≡ None
none_by_map None e = refl
none_by_map (Some r) e = cc

pub no_row_at : (rows : List Row) (k : Key) → None ≡ option_map (λ r. r.id) (row_at rows k) → row_at rows k ≡ None
no_row_at rows k e = none_by_map (row_at rows k) e

abbrev pub pair : ℕ → ℕ → ℕ × ℕ
pair a b = (a, b)

abbrev pub id_and : (Row → ℕ) → Row → ℕ × ℕ
id_and f r = (r.id, f r)

pub first_of : (o : Option Row) (f : Row → ℕ) (id x : ℕ) → Some (pair id x) ≡ option_map (id_and f) o → Some id ≡ option_map (λ r. r.id) o
first_of None f id x e = cc
first_of (Some r) f id x e = let same : pair id x ≡ id_and f r = cc in ap (λ (p : ℕ × ℕ). Some p.0) same

second_by : (o : Option Row) (f : Row → ℕ) (id x : ℕ) (r : Row) → Some (pair id x) ≡ option_map (id_and f) o → o ≡ Some r → x ≡ f r
second_by None f id x r e is = cc
second_by (Some s) f id x r e is = let same : s ≡ r = cc in let second : pair id x ≡ id_and f s = cc in ap (λ (p : ℕ × ℕ). p.1) second ∙ ap f same

-- the rank of a key that was found
pub rank_found : (rows : List Row) (id : ℕ) (k : Key) (f : Row → ℕ) (i x : ℕ) (s : Seen rows id k) → Some (pair i x) ≡ option_map (id_and f) (row_at rows k) → Some x ≡ option_map f (row_of rows id)
rank_found rows id k f i x s e = ap Some (second_by (row_at rows k) f i x s.row e s.at) ∙ sym (ap (option_map f) s.of)

-- a live key is found
pub not_missing : (rows : List Row) (id : ℕ) (k : Key) (f : Row → ℕ) (s : Seen rows id k) → None ≡ option_map (id_and f) (row_at rows k) → ⊥
not_missing rows id k f s e = let none : None ≡ Some (id_and f s.row) = e ∙ ap (option_map (id_and f)) s.at in cc

-- the folder of an item that isn't at the root
pub folder_found : (rows : List Row) (k : Key) (id : ℕ) → has_folder k ≡ true → Some id ≡ option_map (λ r. r.id) (row_at rows (folder_of k)) → Some id ≡ folder_id rows k
folder_found rows k id has e = e ∙ sym (ap (λ b. cond b (option_map (λ (r : Row). r.id) (row_at rows (folder_of k))) None) has)

-- whether a row lies in the folder under an id
module _ (rows : List Row) (r : Row) (tree : IsTree rows) where
  pub lies_by_id : (x : Row) → IsLive rows x → lies_in x.key r ≡ is_it (folder_id rows r.key) x.id
  lies_by_id x was = both (lies_in x.key r) (is_it (folder_id rows r.key) x.id)
      (λ e. let l = lying x.key r e in
      let found : row_at rows (folder_of r.key) ≡ Some x = ap (row_at rows) l.1 ∙ tree.differ x was in
      ap (λ (o : Option ℕ). is_it o x.id) (ap (λ b. cond b (option_map (λ (y : Row). y.id) (row_at rows (folder_of r.key))) None) l.0 ∙ ap (option_map (λ (y : Row). y.id)) found) ∙ eq-eqb x.id x.id refl)
      (λ e. by_folder (has_folder r.key) refl (row_at rows (folder_of r.key)) refl e)
    where
      both : (a b : Bool) → (a ≡ true → b ≡ true) → (b ≡ true → a ≡ true) → a ≡ b
      both true b f g = sym (f refl)
      both false true f g = g refl
      both false false f g = refl

      some_key : (y x : Row) → Some y ≡ Some x → y.key ≡ x.key
      some_key y x e = let same : y ≡ x = cc in ap (λ (z : Row). z.key) same

      by_folder : (h : Bool) → has_folder r.key ≡ h → (o : Option Row) → row_at rows (folder_of r.key) ≡ o → is_it (cond h (option_map (λ (y : Row). y.id) o) None) x.id ≡ true → lies_in x.key r ≡ true
      by_folder false has o is e = cc
      by_folder true has None is e = cc
      by_folder true has (Some y) is e =
          let same : y.id ≡ x.id = eqb-true y.id x.id e in
          let y_live : row_of rows y.id ≡ Some y = found_live (λ z. same_key z.key (folder_of r.key)) 0 rows y tree.ascend is in
          let one : Some y ≡ Some x = sym y_live ∙ ap (row_of rows) same ∙ was in
          let y_key : y.key ≡ folder_of r.key = same_key-true y.key (folder_of r.key) (found_passes (λ z. same_key z.key (folder_of r.key)) rows y is) in
          let x_key : folder_of r.key ≡ x.key = sym y_key ∙ some_key y x one in
          subst (λ (k : Key). lies_in k r ≡ true) x_key (lies r has)

passes_by : (a b : Bool) (p : Row → Bool) (x y : Row) (rest found : Option Row) → p y ≡ a → cond a (Some y) rest ≡ None → cond b (Some y) found ≡ Some x → p x ≡ true → (rest ≡ None → found ≡ Some x → ⊥) → ⊥
passes_by true b p x y rest found e none is holds more = cc
passes_by false true p x y rest found e none is holds more = let same : y ≡ x = cc in false≢true (sym e ∙ ap p same ∙ holds)
passes_by false false p x y rest found e none is holds more = more none is

-- where nothing is found, no live row passes
pub none_passes : (p : Row → Bool) (rows : List Row) (x : Row) → find p rows ≡ None → row_of rows x.id ≡ Some x → p x ≡ true → ⊥
none_passes p [] x none is holds = cc
none_passes p (y ∷ rows) x none is holds = passes_by (p y) (eqb y.id x.id) p x y (find p rows) (row_of rows x.id) refl none is holds (λ rest more. none_passes p rows x rest more holds)

empty_by : (b : Bool) (x : Row) (o : Option Row) (l : List Row) → eqb (length l) 0 ≡ is_none o → eqb (length (cond b (x ∷ l) l)) 0 ≡ is_none (cond b (Some x) o)
empty_by true x o l e = ne_eqb (length (x ∷ l)) 0 (λ h. omega arith)
empty_by false x o l e = e

-- nothing is listed where nothing is found
pub empty_list : (p : Row → Bool) (rows : List Row) → eqb (length (filter p rows)) 0 ≡ is_none (find p rows)
empty_list p [] = refl
empty_list p (x ∷ rows) = empty_by (p x) x (find p rows) (filter p rows) (empty_list p rows)

slot_is : (slots : List (Option Slot)) (id : ℕ) (f : Row → Bool) (s : Slot) → at slots id ≡ Some s → option_map_or f (row_of (live 0 slots) id) false ≡ f (row_with id s)
slot_is slots id f s is = ap (λ o. option_map_or f o false) (row_of_live id slots ∙ ap (option_map (row_with id)) is)

-- what the list under an id says of its row
pub childless : (slots : List (Option Slot)) (id : ℕ) (l : List ℕ) (s : Slot) → at slots id ≡ Some s → l ≡ inside (live 0 slots) (at slots id) → eqb (length l) 0 ≡ option_map_or (λ r. is_none (find (lies_in r.key) (live 0 slots))) (row_of (live 0 slots) id) false
childless slots id l s is e =
    ap (λ (k : List ℕ). eqb (length k) 0) (e ∙ ap (inside (live 0 slots)) is) ∙ ap (λ n. eqb n 0) (length-map (filter (lies_in s.key) (live 0 slots)) (λ (r : Row). r.id)) ∙ empty_list (lies_in s.key) (live 0 slots)
    ∙ sym (slot_is slots id (λ r. is_none (find (lies_in r.key) (live 0 slots))) s is)

pub not_there : (slots : List (Option Slot)) (id : ℕ) (f : Row → Bool) → at slots id ≡ None → false ≡ option_map_or f (row_of (live 0 slots) id) false
not_there slots id f is = sym (ap (λ o. option_map_or f o false) (row_of_live id slots ∙ ap (option_map (row_with id)) is))
