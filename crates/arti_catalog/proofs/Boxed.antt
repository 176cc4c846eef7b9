-- Rows in boxes, by their ids.
use Rattle.std.proofs.Common.{◌≡◌, ◌≢◌, zero, suc, ℕ, ◌<◌, Bool, true, false, cond, eqb, List, [], ◌∷◌, length, get_or, set, Option, Some, None, refl, sym, ap, ◌∙◌}
use Rattle.std.specs.Prelude.{map, Box}
use Rattle.std.specs.declared.alloc.Global.{Global}
use Rattle.std.proofs.lemmas.Bool.{eqb-true, eqb-false}
use Rattle.std.proofs.lemmas.List.{get_or-set_same, get_or-set_other}
use Rattle.arti_rows.specs.declared.rows.ItemRow.{ItemRow}
use Rattle.arti_catalog.specs.Boxes.{opened}
use Rattle.arti_catalog.specs.Held.{at, IsSet}

pub at-opened : (slots : List (Option (Box ItemRow Global))) (i : ℕ) → at (map opened slots) i ≡ opened (get_or slots i None)
at-opened [] i = refl
at-opened (x ∷ slots) zero = refl
at-opened (x ∷ slots) (suc i) = at-opened slots i

module _ (old slots : List (Option (Box ItemRow Global))) (id : ℕ) (row : Box ItemRow Global) (long : id < length slots) (same : (i : ℕ) → get_or slots i None ≡ get_or old i None) where
  -- another row in its place, after empty places came
  pub set-opened : IsSet (map opened old) (map opened (set slots id (Some row))) id row.value
  set-opened = record { each = λ i. at-opened (set slots id (Some row)) i ∙ by i (eqb i id) refl }
    where
      by : (i : ℕ) (b : Bool) → eqb i id ≡ b → opened (get_or (set slots id (Some row)) i None) ≡ cond b (Some row.value) (at (map opened old) i)
      by i true e =
          let here : i ≡ id = eqb-true i id e in
          ap (λ n. opened (get_or (set slots id (Some row)) n None)) here ∙ ap opened (get_or-set_same slots id (Some row) None long)
      by i false e = ap opened (get_or-set_other slots id i (Some row) None (eqb-false i id e) ∙ same i) ∙ sym (at-opened old i)

-- the place of an id is emptied
pub others-opened : (slots : List (Option (Box ItemRow Global))) (id i : ℕ) → i ≢ id → at (map opened (set slots id None)) i ≡ at (map opened slots) i
others-opened slots id i other = at-opened (set slots id None) i ∙ ap opened (get_or-set_other slots id i None None other) ∙ sym (at-opened slots i)

pub gone-opened : (slots : List (Option (Box ItemRow Global))) (id : ℕ) → id < length slots → at (map opened (set slots id None)) id ≡ None
gone-opened slots id long = at-opened (set slots id None) id ∙ ap opened (get_or-set_same slots id None None long)
