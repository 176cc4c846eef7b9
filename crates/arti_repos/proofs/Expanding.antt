-- The locals and remotes that keys stand for.
use Rattle.std.proofs.Common.{◌≡◌, ℕ, zero, suc, ◌<◌, cond, List, [], ◌∷◌, ◌++◌, length, refl, ap, ◌∙◌, Option, Some, None}
use Rattle.std.specs.Prelude.{All}
use Rattle.std.specs.Option.{option_map_or}
use Rattle.std.specs.List.{flat_map}
use Rattle.std.proofs.lemmas.List.Elements.{All-head, All-tail}
use Rattle.arti_rows.specs.declared.rows.Class.TheVariants.{Virtual}
use Rattle.arti_rows.specs.declared.rows.RepoDef.{RepoDef}
use Rattle.arti_repos.specs.Definitions.{is_of, definition}
use Rattle.arti_repos.specs.Walks.{expanded, expand}
use Rattle.arti_repos.specs.Ranks.{IsRank}
use Rattle.arti_repos.proofs.Fixpoints.{settled}

flat_same : (rank : List ℕ → ℕ) (k : List ℕ) (f g : List ℕ → List RepoDef) → ((m : List ℕ) → rank m < rank k → f m ≡ g m) → (ms : List (List ℕ)) → All (λ m. rank m < rank k) ms → flat_map f ms ≡ flat_map g ms
flat_same rank k f g same [] all = refl
flat_same rank k f g same (m ∷ ms) all =
    ap (λ (l : List RepoDef). l ++ flat_map f ms) (same m (All-head (λ j. rank j < rank k) m ms all))
    ∙ ap (λ (l : List RepoDef). g m ++ l) (flat_same rank k f g same ms (All-tail (λ j. rank j < rank k) m ms all))

local_by : (rank : List ℕ → ℕ) (k : List ℕ) (o : Option RepoDef) → All (λ m. rank m < rank k) (option_map_or (λ d. d.members) o []) → (f g : List ℕ → List RepoDef) → ((m : List ℕ) → rank m < rank k → f m ≡ g m) → expanded f o ≡ expanded g o
local_by rank k None all f g same = refl
local_by rank k (Some d) all f g same = ap (λ (l : List RepoDef). cond (is_of Virtual d) l (d ∷ [])) (flat_same rank k f g same d.members all)

none_deep : (defs : List RepoDef) (k : List ℕ) → expand zero defs k ≡ []
unfolding expand
none_deep defs k = refl

one_deeper : (defs : List RepoDef) (n : ℕ) (k : List ℕ) → expand (suc n) defs k ≡ expanded (λ m. expand n defs m) (definition defs k)
unfolding expand
one_deeper defs n k = refl

-- a virtual's members stand in its place, each expanded likewise
pub expand_is : (defs : List RepoDef) (rank : List ℕ → ℕ) → IsRank defs rank → (k : List ℕ)
    → expand (length defs) defs k ≡ expanded (λ m. expand (length defs) defs m) (definition defs k)
expand_is defs rank falls k =
    settled (λ f j. expanded f (definition defs j)) (λ j. []) (λ n j. expand n defs j) defs rank (none_deep defs) (one_deeper defs)
    (λ j f g same. local_by rank j (definition defs j) (falls j) f g same)
    (λ j none f. ap (expanded f) none)
    k
