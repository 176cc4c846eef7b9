use Rattle.std.proofs.Common.{◌≡◌, ◌++◌, drop}
use Rattle.arti_repos.specs.Frames.{path_of}
use Rattle.arti_repos.proofs.chain.keys_through.Given as goal

abbrev pub invariant-loop-frame : goal.invariant-loop-frame
invariant-loop-frame l = l.keys ++ path_of (drop l.frame-index l.frames) ≡ path_of l.frames
