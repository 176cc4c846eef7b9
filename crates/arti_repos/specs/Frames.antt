-- Definitions whose members are being gone through, the outermost first.
use Rattle.std.specs.Prelude.{◌≡◌, ℕ, List, [], ◌∷◌, ◌++◌, map, Option, None}
use Rattle.std.specs.Option.{option_map, option_or}
use Rattle.arti_repos.specs.declared.frame.Frame.{Frame}
use Rattle.arti_repos.specs.Cycles.{first_way}

-- the keys that are still to be looked at, the next one first
abbrev pub pending : List Frame → List (List ℕ)
pending [] = []
pending (f ∷ above) = pending above ++ f.rest.now

-- the way that they still lead
abbrev pub led : (List ℕ → Option (List (List ℕ))) → List Frame → Option (List (List ℕ))
led way_of [] = None
led way_of (f ∷ above) = option_map (λ way. f.key.now ∷ way) (option_or (led way_of above) (first_way way_of f.rest.now))

-- the keys that they stand for
abbrev pub path_of : List Frame → List (List ℕ)
path_of frames = map (λ f. f.key.now) frames

-- no key is left
pub record IsDone (frames : List Frame) : Type 0 where
  pub pending : pending frames ≡ []
  pub led : (way_of : List ℕ → Option (List (List ℕ))) → led way_of frames ≡ None

-- a key is taken: the way goes through it, or else as the others lead
pub record Takes (frames : List Frame) (key : List ℕ) (left : List Frame) : Type 0 where
  pub pending : pending frames ≡ key ∷ pending left
  pub led : (way_of : List ℕ → Option (List (List ℕ))) → led way_of frames ≡ option_or (option_map (λ way. path_of left ++ way) (way_of key)) (led way_of left)
