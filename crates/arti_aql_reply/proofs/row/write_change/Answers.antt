use Rattle.std.proofs.Common.{◌≡◌, ℕ, List, [], ◌∷◌, ◌++◌, ap, ◌∙◌, rules}
use Rattle.std.specs.Prelude.{codes}
use Rattle.json.specs.Print.{quoted}
use Rattle.arti_time.specs.Printed.{printed}
use Rattle.arti_aql_reply.specs.Parts.{next, change_text}
use Rattle.arti_aql_reply.proofs.Pieces.{after_four}
use Rattle.arti_aql_reply.proofs.row.write_change.Goals as goal

pub returns : goal.returns
unfolding change_text
returns c =
    let row = c.args.row.now in
    let a = next (codes "modified") (quoted (printed row.modified)) in
    let b = next (codes "modified_by") (quoted row.modified_by) in
    let d = next (codes "updated") (quoted (printed row.updated)) in
    let e : List ℕ = 125 ∷ [] in
    let ea : c.write_next_date.new.out.items ≡ c.args.out.now.items ++ a = c.in_ok-write_next_date.ensures in
    let eb : c.write_next_words.new.out.items ≡ c.write_next_date.new.out.items ++ b = c.in_ok-write_next_words.ensures ∙ ap (λ (t : List ℕ). c.write_next_date.new.out.items ++ next (codes "modified_by") (quoted t)) c.as_str.ensures in
    let ed : c.write_next_date-2.new.out.items ≡ c.write_next_words.new.out.items ++ d = c.in_ok-write_next_date-2.ensures in
    let ee : c.push.new.self.items ≡ c.write_next_date-2.new.out.items ++ e = search rules in
    after_four c.args.out.now.items a b d e _ _ _ _ ea eb ed ee
