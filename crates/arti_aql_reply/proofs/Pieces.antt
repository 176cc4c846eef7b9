-- Pieces written one behind the other.
use Rattle.std.proofs.Common.{◌≡◌, ℕ, List, [], ◌∷◌, ◌++◌, ap, ◌∙◌, append_assoc}
use Rattle.std.proofs.lemmas.List.{append-nil}
use Rattle.std.specs.Prelude.{codes, decimal, Option, Some, None}
use Rattle.json.specs.Print.{quoted}
use Rattle.arti_time.specs.Printed.{printed}
use Rattle.arti_model.specs.Query.{Facts, member, kind_name, row_text}
use Rattle.arti_aql_reply.specs.Parts.{next, place_text, size_text, making_text, change_text}

four : (o a b c d : List ℕ) → (((o ++ a) ++ b) ++ c) ++ d ≡ o ++ (a ++ (b ++ (c ++ d)))
four o a b c d = simp (append_assoc)

five : (o a b c d e : List ℕ) → ((((o ++ a) ++ b) ++ c) ++ d) ++ e ≡ o ++ (a ++ (b ++ (c ++ (d ++ e))))
five o a b c d e = simp (append_assoc)

pub after_four : (o a b c d w x y z : List ℕ) → w ≡ o ++ a → x ≡ w ++ b → y ≡ x ++ c → z ≡ y ++ d → z ≡ o ++ (a ++ (b ++ (c ++ d)))
after_four o a b c d w x y z ea eb ec ed =
    ed ∙ ap (λ (l : List ℕ). l ++ d) (ec ∙ ap (λ (l : List ℕ). l ++ c) (eb ∙ ap (λ (l : List ℕ). l ++ b) ea)) ∙ four o a b c d

pub after_five : (o a b c d e v w x y z : List ℕ) → v ≡ o ++ a → w ≡ v ++ b → x ≡ w ++ c → y ≡ x ++ d → z ≡ y ++ e → z ≡ o ++ (a ++ (b ++ (c ++ (d ++ e))))
after_five o a b c d e v w x y z ea eb ec ed ee =
    ee ∙ ap (λ (l : List ℕ). l ++ e) (ed ∙ ap (λ (l : List ℕ). l ++ d) (ec ∙ ap (λ (l : List ℕ). l ++ c) (eb ∙ ap (λ (l : List ℕ). l ++ b) ea))) ∙ five o a b c d e

pub after_two : (o a b y z : List ℕ) → y ≡ o ++ a → z ≡ y ++ b → z ≡ o ++ (a ++ b)
after_two o a b y z ea eb = eb ∙ ap (λ (l : List ℕ). l ++ b) ea ∙ append_assoc o a b

-- the parts of a row's object, without and with a size, make it whole
folder_parts : (a b c d e f g h i z : List ℕ) → (a ++ (b ++ (c ++ d))) ++ ([] ++ ((e ++ f) ++ (g ++ (h ++ (i ++ z))))) ≡ (a ++ (b ++ (c ++ (d ++ (e ++ (f ++ (g ++ (h ++ (i ++ []))))))))) ++ z
folder_parts a b c d e f g h i z = simp (append_assoc, append-nil)

file_parts : (a b c d s e f g h i z : List ℕ) → (a ++ (b ++ (c ++ d))) ++ (s ++ ((e ++ f) ++ (g ++ (h ++ (i ++ z))))) ≡ (a ++ (b ++ (c ++ (d ++ (s ++ (e ++ (f ++ (g ++ (h ++ (i ++ [])))))))))) ++ z
file_parts a b c d s e f g h i z = simp (append_assoc, append-nil)

module _ (m : Facts) where
  abbrev repo : List ℕ
  repo = member (codes "repo") (quoted m.key.repo)

  abbrev path : List ℕ
  path = next (codes "path") (quoted m.key.path)

  abbrev name : List ℕ
  name = next (codes "name") (quoted m.key.name)

  abbrev created : List ℕ
  created = next (codes "created") (quoted (printed m.created))

  abbrev created_by : List ℕ
  created_by = next (codes "created_by") (quoted m.created_by)

  abbrev modified : List ℕ
  modified = next (codes "modified") (quoted (printed m.modified))

  abbrev modified_by : List ℕ
  modified_by = next (codes "modified_by") (quoted m.modified_by)

  abbrev updated : List ℕ
  updated = next (codes "updated") (quoted (printed m.updated))

  parts : (size : Option ℕ) → place_text m.key (kind_name size) ++ (size_text size ++ (making_text m ++ change_text m)) ≡ row_text (record m { size = size })
  unfolding place_text size_text making_text change_text
  parts None = ap (λ (l : List ℕ). 123 ∷ l) (folder_parts repo path name (next (codes "type") (quoted (codes "folder"))) created created_by modified modified_by updated (125 ∷ []))
  parts (Some n) = ap (λ (l : List ℕ). 123 ∷ l) (file_parts repo path name (next (codes "type") (quoted (codes "file"))) (next (codes "size") (decimal n)) created created_by modified modified_by updated (125 ∷ []))

  pub whole_row : place_text m.key (kind_name m.size) ++ (size_text m.size ++ (making_text m ++ change_text m)) ≡ row_text m
  whole_row = parts m.size
