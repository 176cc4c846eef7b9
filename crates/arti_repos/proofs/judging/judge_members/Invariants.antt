use Rattle.std.proofs.Common.{◌≡◌, drop}
use Rattle.std.specs.List.{find}
use Rattle.arti_repos.specs.Refused.{is_unknown}
use Rattle.arti_repos.proofs.judging.judge_members.Given as goal

abbrev pub invariant-loop-member : goal.invariant-loop-member
invariant-loop-member l = find (is_unknown l.definitions l.def) (drop l.member-index l.member-items) ≡ find (is_unknown l.definitions l.def) l.def.members
