use Rattle.std.proofs.Common.{◌≡◌, ◌++◌, ap, ◌∙◌, rules}
use Rattle.arti_model.specs.Query.{kind_name}
use Rattle.arti_aql_reply.specs.Rows.{facts_of_row}
use Rattle.arti_aql_reply.specs.Parts.{place_text, size_text, making_text, change_text}
use Rattle.arti_aql_reply.proofs.Pieces.{after_four, whole_row}
use Rattle.arti_aql_reply.proofs.row.write_row.Goals as goal

pub returns : goal.returns
returns c =
    let m = facts_of_row c.args.row.now in
    let a = place_text m.key (kind_name m.size) in
    let b = size_text m.size in
    let d = making_text m in
    let e = change_text m in
    let ea : c.write_place.new.out.items ≡ c.args.out.now.items ++ a = search rules in
    let eb : c.write_file.new.out.items ≡ c.write_place.new.out.items ++ b = search rules in
    let ed : c.write_making.new.out.items ≡ c.write_file.new.out.items ++ d = search rules in
    let ee : c.write_change.new.out.items ≡ c.write_making.new.out.items ++ e = search rules in
    after_four c.args.out.now.items a b d e _ _ _ _ ea eb ed ee ∙ ap (λ l. c.args.out.now.items ++ l) (whole_row m)
