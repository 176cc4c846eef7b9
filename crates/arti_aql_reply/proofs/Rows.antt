-- Rows that are written one behind the other.
use Rattle.std.proofs.Common.{◌≡◌, ℕ, ◌+◌, ◌<◌, List, ◌∷◌, ◌++◌, length, get_or, drop, map, sym, ap, ◌∙◌, arith, Bor, append_assoc, length-append, drop-cons, add-one}
use Rattle.std.specs.Prelude.{flat_map}
use Rattle.arti_rows.specs.declared.rows.ItemRow.{ItemRow}
use Rattle.arti_model.specs.Query.{row_text}
use Rattle.arti_aql_reply.specs.Rows.{facts_of_row, facts_of_rows}

-- the objects of rows, each behind a comma
abbrev texts : List (Bor ItemRow) → List ℕ
texts rows = flat_map (λ t. 44 ∷ t) (map row_text (facts_of_rows rows))

abbrev one : Bor ItemRow → List ℕ
one row = 44 ∷ row_text (facts_of_row row.now)

first_of : (rows : List (Bor ItemRow)) (i : ℕ) (row : Bor ItemRow) → row ≡ get_or rows i row → i < length rows → texts (drop i rows) ≡ one row ++ texts (drop (i + 1) rows)
first_of rows i row is lt =
    let split : drop i rows ≡ get_or rows i row ∷ drop (i + 1) rows = rw add-one (drop-cons rows i row lt) in
    ap texts split ∙ ap (λ (r : Bor ItemRow). one r ++ texts (drop (i + 1) rows)) (sym is)

module _ (out new all : List ℕ) (rows : List (Bor ItemRow)) (i : ℕ) (row : Bor ItemRow) (is : row ≡ get_or rows i row) (lt : i < length rows) (so_far : out ++ texts (drop i rows) ≡ all) where
  split : (out ++ one row) ++ texts (drop (i + 1) rows) ≡ all
  split = append_assoc out (one row) (texts (drop (i + 1) rows)) ∙ ap (λ (l : List ℕ). out ++ l) (sym (first_of rows i row is lt)) ∙ so_far

  pub goes_on : new ≡ out ++ one row → new ++ texts (drop (i + 1) rows) ≡ all
  goes_on e = ap (λ (l : List ℕ). l ++ texts (drop (i + 1) rows)) e ∙ split

  pub too_long : (most : ℕ) → most < length (out ++ one row) → most < length all
  too_long most long =
      let whole : length (out ++ one row) + length (texts (drop (i + 1) rows)) ≡ length all = sym (length-append (out ++ one row) (texts (drop (i + 1) rows))) ∙ ap length split in
      omega (arith, whole, long)
