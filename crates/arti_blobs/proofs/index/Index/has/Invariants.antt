use Rattle.std.proofs.Common.{◌≡◌}
use Rattle.arti_blobs.specs.Chains.{past}
use Rattle.arti_blobs.proofs.Searching.{IsOn, NoneFrom}
use Rattle.arti_blobs.proofs.index.Index.has.Given as goal

abbrev pub invariant-chain : goal.invariant-chain
invariant-chain l = record {
  on : IsOn l.self l.file.digests.sha256 l.next;
  none : NoneFrom l.self (λ file. file ≡ l.file) l.next;
}

abbrev pub decreases-chain : goal.decreases-chain
decreases-chain l = past l.next
