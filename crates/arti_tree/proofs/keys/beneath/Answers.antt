use Rattle.std.proofs.Common.{◌≡◌, ℕ, List, ◌++◌, false, refl, sym, ap, ◌∙◌, rules}
use Rattle.std.proofs.lemmas.List.{append_cancel_left}
use Rattle.arti_rows.specs.Key.{whole_of}
use Rattle.arti_tree.specs.Renames.{may_follow}
use Rattle.arti_tree.proofs.keys.beneath.Goals as goal
use Rattle.arti_tree.proofs.keys.beneath.Goals.{in_default-via-in-Some+else-may_follow, in_default-via-in_default}

other : (path whole r rest : List ℕ) → path ≡ whole ++ r → path ≡ whole ++ rest → may_follow r ≡ false → may_follow rest ≡ false
other path whole r rest e f fails = ap may_follow (sym (append_cancel_left whole r rest (sym e ∙ f))) ∙ fails

pub returns-in_default-clause-none : goal.returns-in_default-clause-none
returns-in_default-clause-none c = λ _ rest e.
    elim c.in_default.branch [
      | in_default-via-in-Some+else-may_follow w ↦
          let is : c.args.path.now ≡ whole_of c.args.top.now ++ w.in-Some.rest.now = search rules in
          let fails : may_follow w.in-Some.rest.now ≡ false = search rules in
          other c.args.path.now (whole_of c.args.top.now) w.in-Some.rest.now rest is e fails
      | in_default-via-in_default w ↦ absurd (w.in_default.ensures.none refl rest e)
    ]
