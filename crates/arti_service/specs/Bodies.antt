-- Bodies of requests, read whole.
use Rattle.std.specs.Prelude.{◌≡◌, ℕ, ◌<◌, List, ◌++◌, length, Option, Some, None, Vec}
use Rattle.std.specs.declared.alloc.Global.{Global}
use Rattle.arti_wire.specs.declared.wire.Phase.{Phase}
use Rattle.arti_wire.specs.declared.wire.Phase.TheVariants.{Between, Over}

-- the body of n bytes, and what stands behind it; or the input is shorter
abbrev pub IsBodyOf : ℕ → List ℕ → List ℕ → Option (Vec ℕ Global) → Type 0
IsBodyOf n input rest None = length input < n
IsBodyOf n input rest (Some body) = (length body.items ≡ n) × (input ≡ body.items ++ rest)

-- a whole body leaves the wire between two requests
abbrev pub LeavesPhase : Phase → Option (Vec ℕ Global) → Type 0
LeavesPhase phase None = phase ≡ Over
LeavesPhase phase (Some body) = phase ≡ Between
