-- The slashes of a path and a name.
use Rattle.std.proofs.Common.{◌≡◌, ℕ, ◌+◌, Bool, true, false, eqb, List, [], ◌∷◌, ◌++◌, length, map, cond, sym, ap, ◌∙◌, arith}
use Rattle.std.proofs.Math.ListN.{length-map}
use Rattle.std.specs.Prelude.{nat_eq}
use Rattle.std.specs.Cmp.Lexicographic.{pointwise}
use Rattle.arti_rows.specs.Key.{fronts, root_path, whole_of}
use Rattle.arti_aql_domains.specs.RowValues.{segments}

step : (b : ℕ) (t : Bool) (xs : List (List ℕ)) → length (cond t ([] ∷ map (λ front. b ∷ front) xs) (map (λ front. b ∷ front) xs)) ≡ cond t 1 0 + length xs
step b true xs = omega (arith, length-map xs (λ (front : List ℕ). b ∷ front))
step b false xs = omega (arith, length-map xs (λ (front : List ℕ). b ∷ front))

one_more : (b : ℕ) (xs : List ℕ) → length (fronts (b ∷ xs)) ≡ cond (eqb b 47) 1 0 + length (fronts xs)
one_more b xs = step b (eqb b 47) (fronts xs)

slashes_joined : (path name : List ℕ) → length (fronts (path ++ 47 ∷ name)) ≡ length (fronts path) + length (fronts name) + 1
slashes_joined [] name = let e = one_more 47 name in omega (arith, e)
slashes_joined (b ∷ path) name = let e = slashes_joined path name in omega (arith, one_more b (path ++ 47 ∷ name), one_more b path, e)

pub segments_below : (path name : List ℕ) → false ≡ pointwise nat_eq path root_path → segments path name ≡ length (fronts path) + length (fronts name) + 2
segments_below path name h =
    let whole : whole_of (record { repo = []; path = path; name = name }) ≡ path ++ 47 ∷ name = ap (λ t. cond t name (path ++ 47 ∷ name)) (sym h) in
    let n : length (fronts (whole_of (record { repo = []; path = path; name = name }))) ≡ length (fronts path) + length (fronts name) + 1 = ap (λ w. length (fronts w)) whole ∙ slashes_joined path name in
    omega (arith, n)

pub segments_at_root : (path name : List ℕ) → true ≡ pointwise nat_eq path root_path → segments path name ≡ length (fronts name) + 1
segments_at_root path name h = ap (λ t. length (fronts (cond t name (path ++ 47 ∷ name))) + 1) (sym h)
