-- What contracts see of a wire.
use Rattle.std.specs.Prelude.{ℕ, List}
use Rattle.arti_wire.specs.declared.wire.Phase.{Phase}

-- the bytes that were read from the source and not yet used, and where in the stream they are
pub record WireState : Type 0 where
  pub ahead : List ℕ
  pub phase : Phase
