-- The ways from keys back to a target.
use Rattle.std.proofs.Common.{◌≡◌, ℕ, zero, suc, ◌<◌, cond, List, [], ◌∷◌, length, refl, ap, ◌∙◌, Option, Some, None}
use Rattle.std.specs.Prelude.{All}
use Rattle.std.specs.Option.{option_map, option_or, option_map_or}
use Rattle.std.specs.Str.{bytes_eq}
use Rattle.std.proofs.lemmas.List.Elements.{All-head, All-tail}
use Rattle.arti_rows.specs.declared.rows.RepoDef.{RepoDef}
use Rattle.arti_repos.specs.Definitions.{definition}
use Rattle.arti_repos.specs.Cycles.{members_of, first_way, way_by, way_to}
use Rattle.arti_repos.specs.Ranks.{IsRank}
use Rattle.arti_repos.proofs.Fixpoints.{settled}

abbrev Way : Type 0
Way = Option (List (List ℕ))

abbrev at_target : List ℕ → List ℕ → Way
at_target target key = cond (bytes_eq key target) (Some (key ∷ [])) None

first_same : (rank : List ℕ → ℕ) (k : List ℕ) (f g : List ℕ → Way) → ((m : List ℕ) → rank m < rank k → f m ≡ g m) → (ms : List (List ℕ)) → All (λ m. rank m < rank k) ms → first_way f ms ≡ first_way g ms
first_same rank k f g same [] all = refl
first_same rank k f g same (m ∷ ms) all =
    ap (λ (o : Way). option_or o (first_way f ms)) (same m (All-head (λ j. rank j < rank k) m ms all))
    ∙ ap (λ (o : Way). option_or (g m) o) (first_same rank k f g same ms (All-tail (λ j. rank j < rank k) m ms all))

none_deep : (defs : List RepoDef) (target k : List ℕ) → way_to zero defs target k ≡ at_target target k
unfolding way_to
none_deep defs target k = refl

one_deeper : (defs : List RepoDef) (target : List ℕ) (n : ℕ) (k : List ℕ) → way_to (suc n) defs target k ≡ way_by (λ m. way_to n defs target m) defs target k
unfolding way_to
one_deeper defs target n k = refl

no_members : (o : Option RepoDef) (f : List ℕ → Way) → o ≡ None → first_way f (option_map_or (λ d. d.members) o []) ≡ None
no_members o f none = ap (λ (p : Option RepoDef). first_way f (option_map_or (λ d. d.members) p [])) none

-- a way leads through the first member that has one
pub way_is : (defs : List RepoDef) (rank : List ℕ → ℕ) (target : List ℕ) → IsRank defs rank → (k : List ℕ)
    → way_to (length defs) defs target k ≡ way_by (λ m. way_to (length defs) defs target m) defs target k
way_is defs rank target falls k =
    settled (λ f j. way_by f defs target j) (at_target target) (λ n j. way_to n defs target j) defs rank (none_deep defs target) (one_deeper defs target)
    (λ j f g same. ap (λ (o : Way). cond (bytes_eq j target) (Some (j ∷ [])) (option_map (λ way. j ∷ way) o)) (first_same rank j f g same (members_of defs j) (falls j)))
    (λ j none f. ap (λ (o : Way). cond (bytes_eq j target) (Some (j ∷ [])) (option_map (λ way. j ∷ way) o)) (no_members (definition defs j) f none))
    k
