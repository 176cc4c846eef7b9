use Rattle.std.proofs.Common.{ℕ, List, [], ◌∷◌, sym, subst, Bor}
use Rattle.arti_rows.specs.declared.rows.RepoDef.{RepoDef}
use Rattle.arti_repos.specs.declared.frame.Frame.{Frame}
use Rattle.arti_repos.specs.Frames.{pending}
use Rattle.arti_repos.specs.Visits.{values}
use Rattle.arti_repos.proofs.Passing.{Walked, begun, visited}
use Rattle.arti_repos.proofs.walking.leaves.Goals as goal

pub members-init : goal.members-init
members-init c =
    let defs = c.args.definitions.now in
    let key = c.args.key.now in
    let met = c.in_ok-met.met.items in
    let start : Walked defs key met (key ∷ pending c.new-frames.result.items) (values c.new-found.result.items) =
    subst (λ (l : List Frame). Walked defs key met (key ∷ pending l) (values c.new-found.result.items)) (sym c.new-frames.ensures.items)
    (subst (λ (l : List (Bor RepoDef)). Walked defs key met (key ∷ []) (values l)) (sym c.new-found.ensures.items) (begun defs key met c.in_ok-met.ensures.none)) in (
      c.in_ok-visit.ensures.count,
      visited defs key c.requires.acyclic.0 c.requires.acyclic.1 met c.visit.new.met.items key (pending c.new-frames.result.items) (pending c.visit.new.frames.items) (values c.new-found.result.items) (values c.visit.new.found.items) start c.in_ok-visit.ensures.visits,
    )

pub members-preserved : goal.members-preserved
members-preserved c =
    let defs = c.args.definitions.now in
    let key = c.args.key.now in
    let m = c.in-Some.member.now in
    let before : Walked defs key c.members.met.items (m ∷ pending c.next_member.new.frames.items) (values c.members.found.items) =
    subst (λ (l : List (List ℕ)). Walked defs key c.members.met.items l (values c.members.found.items)) c.in-Some.ensures.pending c.members.invariant.1 in (
      c.in_ok-visit-2.ensures.count,
      visited defs key c.requires.acyclic.0 c.requires.acyclic.1 c.members.met.items c.visit-in-Some.new.met.items m (pending c.next_member.new.frames.items) (pending c.visit-in-Some.new.frames.items) (values c.members.found.items) (values c.visit-in-Some.new.found.items) before c.in_ok-visit-2.ensures.visits,
    )
