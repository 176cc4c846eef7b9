use Rattle.std.proofs.Common.{◌≡◌, ◌∷◌, ◌++◌, [], sym, subst, rules}
use Rattle.arti_repos.proofs.Framing.{Leaves, leaves_less}
use Rattle.arti_repos.proofs.frame.next_member.Goals as goal

pub finished-preserved : goal.finished-preserved
finished-preserved c =
    let popped : c.finished.frames.items ≡ c.pop.new.self.items ++ c.in-Some.frame ∷ [] = search rules in
    subst (Leaves _) (sym c.in_default-resume.ensures.1) (leaves_less _ c.pop.new.self.items c.in-Some.frame (subst (Leaves _) popped c.finished.invariant) c.in_default-resume.ensures.0)
