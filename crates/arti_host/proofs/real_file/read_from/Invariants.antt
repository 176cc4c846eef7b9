use Rattle.std.proofs.Common.{◌≤◌, length}
use Rattle.arti_host.proofs.real_file.read_from.Given as goal

abbrev pub invariant-reads : goal.invariant-reads
invariant-reads l = l.done ≤ length l.buf
