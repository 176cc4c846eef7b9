use Rattle.std.proofs.Common.{◌≡◌, ℕ, List, ◌++◌, ap, ◌∙◌}
use Rattle.std.specs.Prelude.{codes}
use Rattle.json.specs.Print.{quoted}
use Rattle.arti_time.specs.Printed.{printed}
use Rattle.arti_aql_reply.specs.Parts.{next, making_text}
use Rattle.arti_aql_reply.proofs.Pieces.{after_two}
use Rattle.arti_aql_reply.proofs.row.write_making.Goals as goal

pub returns : goal.returns
unfolding making_text
returns c =
    let row = c.args.row.now in
    let a = next (codes "created") (quoted (printed row.created)) in
    let b = next (codes "created_by") (quoted row.created_by) in
    let ea : c.write_next_date.new.out.items ≡ c.args.out.now.items ++ a = c.in_ok-write_next_date.ensures in
    let eb : c.write_next_words.new.out.items ≡ c.write_next_date.new.out.items ++ b = c.in_ok-write_next_words.ensures ∙ ap (λ (t : List ℕ). c.write_next_date.new.out.items ++ next (codes "created_by") (quoted t)) c.as_str.ensures in
    after_two c.args.out.now.items a b _ _ ea eb
