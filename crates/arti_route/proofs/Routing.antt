-- Paths against their forms, and methods among those of a path.
use Rattle.std.proofs.Common.{◌≡◌, ℕ, Bool, true, false, cond, List, [], ◌∷◌, length, refl, sym, ap, ◌∙◌, arith}
use Rattle.std.specs.Prelude.{Ok, Some, ◌||◌, ◌&&◌, codes, if◌then◌else◌}
use Rattle.std.specs.List.{slice_split, find, onto_first}
use Rattle.arti_model.specs.declared.asks.Route.{Route}
use Rattle.arti_model.specs.Targets.{same_text, is_slash}
use Rattle.arti_model.specs.Asks.{Methods, Form, fits, segment, ends_empty, route_among, found_route, route_by, route_read, has_path, api_forms, item_forms}

-- ---- fits

parted : (cut : Bool) (b : ℕ) (parts : List (List ℕ)) → fits (cond cut ([] ∷ parts) (onto_first b parts)) [] ≡ false
parted true b parts = refl
parted false b [] = refl
parted false b (part ∷ parts) = refl

-- a path has pieces, so no segments don't fit it
pub fits-no_segments : (path : List ℕ) → fits (slice_split is_slash path) [] ≡ false
fits-no_segments [] = refl
fits-no_segments (b ∷ path) = parted (is_slash b) b (slice_split is_slash path)

module _ (piece : List ℕ) (pieces : List (List ℕ)) (s : List ℕ) (segments : List (List ℕ)) where
  pub fits-any : same_text piece (codes "**") ≡ true → fits (piece ∷ pieces) (s ∷ segments) ≡ true
  fits-any is = ap (λ b. b || ((same_text piece (codes "*") || same_text piece s) && fits pieces segments)) is

  pub fits-not : same_text piece (codes "**") ≡ false → (same_text piece (codes "*") || same_text piece s) ≡ false → fits (piece ∷ pieces) (s ∷ segments) ≡ false
  fits-not is bad =
      ap (λ b. b || ((same_text piece (codes "*") || same_text piece s) && fits pieces segments)) is ∙ ap (λ b. b && fits pieces segments) bad

  pub fits-next : same_text piece (codes "**") ≡ false → (same_text piece (codes "*") || same_text piece s) ≡ true
      → fits (piece ∷ pieces) (s ∷ segments) ≡ fits pieces segments
  fits-next is good =
      ap (λ b. b || ((same_text piece (codes "*") || same_text piece s) && fits pieces segments)) is ∙ ap (λ b. b && fits pieces segments) good

pub fits-empty : (path : List ℕ) (left : List (List ℕ)) → length left ≡ 0 → fits (slice_split is_slash path) left ≡ false
fits-empty path [] is = fits-no_segments path
fits-empty path (s ∷ left) is = absurd (omega arith)

-- a path's first piece, and the first of the segments
module _ (path : List ℕ) (left : List (List ℕ)) (piece : List ℕ) (pieces : List (List ℕ)) (s : List ℕ) (others : List (List ℕ))
    (cut : slice_split is_slash path ≡ piece ∷ pieces) (first : left ≡ s ∷ others) where
  both : fits (slice_split is_slash path) left ≡ fits (piece ∷ pieces) (s ∷ others)
  both = ap (λ ps. fits ps left) cut ∙ ap (fits (piece ∷ pieces)) first

  pub fits-last : (r : Bool) → r ≡ fits (piece ∷ pieces) (s ∷ others) → r ≡ fits (slice_split is_slash path) left
  fits-last r is = is ∙ sym both

  pub fits-stops : same_text piece (codes "**") ≡ false → (same_text piece (codes "*") || same_text piece s) ≡ false → fits (slice_split is_slash path) left ≡ false
  fits-stops is bad = both ∙ fits-not piece pieces s others is bad

  pub fits-goes : same_text piece (codes "**") ≡ false → (same_text piece (codes "*") || same_text piece s) ≡ true
      → fits (slice_split is_slash path) left ≡ fits pieces others
  fits-goes is good = both ∙ fits-next piece pieces s others is good

-- ---- route_among

module _ (method name : List ℕ) (route : Route) (others : Methods) where
  pub route_among-first : same_text name method ≡ true → route_among method ((name, route) ∷ others) ≡ Ok route
  route_among-first is = ap (λ (b : Bool). found_route (cond b (Some (name, route)) (find (λ (m : List ℕ × Route). same_text m.0 method) others))) is

  pub route_among-next : same_text name method ≡ false → route_among method ((name, route) ∷ others) ≡ route_among method others
  route_among-next is = ap (λ (b : Bool). found_route (cond b (Some (name, route)) (find (λ (m : List ℕ × Route). same_text m.0 method) others))) is

-- ---- route_by

module _ (method : List ℕ) (segments : List (List ℕ)) (form : Form) (others : List Form) where
  pub route_by-first : has_path segments form ≡ true → route_by method (find (has_path segments) (form ∷ others)) ≡ route_among method form.1
  route_by-first is = ap (λ (b : Bool). route_by method (cond b (Some form) (find (has_path segments) others))) is

  pub route_by-next : has_path segments form ≡ false → route_by method (find (has_path segments) (form ∷ others)) ≡ route_by method (find (has_path segments) others)
  route_by-next is = ap (λ (b : Bool). route_by method (cond b (Some form) (find (has_path segments) others))) is

-- ---- route_read

module _ (method : List ℕ) (segments : List (List ℕ)) where
  pub route_read-api : same_text (segment segments 0) (codes "api") ≡ true → route_read method segments ≡ route_by method (find (has_path segments) api_forms)
  route_read-api is = ap (λ (b : Bool). route_by method (find (has_path segments) (if b then api_forms else item_forms (ends_empty segments)))) is

  pub route_read-item : same_text (segment segments 0) (codes "api") ≡ false
      → route_read method segments ≡ route_by method (find (has_path segments) (item_forms (ends_empty segments)))
  route_read-item is = ap (λ (b : Bool). route_by method (find (has_path segments) (if b then api_forms else item_forms (ends_empty segments)))) is
