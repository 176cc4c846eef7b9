use Rattle.std.proofs.Common.{◌≡◌, ℕ, Bool, true, cond, List, [], ◌∷◌, ◌++◌, sym, ap, ◌∙◌, rules}
use Rattle.arti_rows.specs.declared.rows.Class.TheVariants.{Virtual}
use Rattle.arti_repos.specs.Definitions.{is_of}
use Rattle.arti_repos.specs.Frames.{pending}
use Rattle.arti_repos.proofs.Framing.{pending_end}
use Rattle.arti_repos.proofs.walking.enter.Goals as goal

pub returns-in_ok-push-clause-frames : goal.returns-in_ok-push-clause-frames
returns-in_ok-push-clause-frames c =
    let old = c.args.frames.now.items in
    let is : c.push.new.self.items ≡ old ++ c.frame_of.result ∷ [] = search rules in
    let virtual : is_of Virtual c.args.def.now ≡ true = search rules in
    ap pending is ∙ pending_end old c.frame_of.result
    ∙ ap (λ (l : List (List ℕ)). l ++ pending old) (c.frame_of.ensures.rest ∙ sym (ap (λ (b : Bool). cond b c.args.def.now.members []) virtual))
