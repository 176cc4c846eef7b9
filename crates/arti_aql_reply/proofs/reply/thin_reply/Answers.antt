use Rattle.std.proofs.Common.{rules, ◌≡◌, ◌++◌, ◌<◌, length, map, ℕ, List, subst}
use Rattle.std.specs.Prelude.{None, codes}
use Rattle.arti_model.specs.Query.{with_commas, row_text, range_text}
use Rattle.arti_rows.specs.Sizes.{most_reply}
use Rattle.arti_aql_reply.specs.Rows.{facts_of_rows}
use Rattle.arti_aql_reply.proofs.Whole.{whole_reply, front_long, same_fault}
use Rattle.arti_aql_reply.proofs.reply.thin_reply.Goals as goal

pub returns-in-Err-clause-too_large : goal.returns-in-Err-clause-too_large
returns-in-Err-clause-too_large c = λ large.
    let begun : c.in_ok-out.out.items ≡ codes "{\"results\":[" = search rules in
    front_long (facts_of_rows c.args.rows.now) most_reply (subst (λ (l : List ℕ). most_reply < length (l ++ with_commas (map row_text (facts_of_rows c.args.rows.now)))) begun (c.in-Err.ensures.too_large (same_fault _ _ large)))

pub returns-then-len-gt-MOST_REPLY-clause-too_large : goal.returns-then-len-gt-MOST_REPLY-clause-too_large
returns-then-len-gt-MOST_REPLY-clause-too_large c = λ _.
    let begun : c.in_ok-out.out.items ≡ codes "{\"results\":[" = search rules in
    let rows : c.write_rows.new.out.items ≡ c.in_ok-out.out.items ++ with_commas (map row_text (facts_of_rows c.args.rows.now)) = search rules in
    let behind : c.write_end.new.out.items ≡ c.write_rows.new.out.items ++ (codes "],\"range\":" ++ (range_text 0 None (length c.args.rows.now) ++ codes "}")) = search rules in
    let long : most_reply < length c.write_end.new.out.items = search rules in
    subst (λ (l : List ℕ). most_reply < length l) (whole_reply c.args.rows.now _ _ _ begun rows behind) long

pub returns-clause-text : goal.returns-clause-text
returns-clause-text c =
    let begun : c.in_ok-out.out.items ≡ codes "{\"results\":[" = search rules in
    let rows : c.write_rows.new.out.items ≡ c.in_ok-out.out.items ++ with_commas (map row_text (facts_of_rows c.args.rows.now)) = search rules in
    let behind : c.write_end.new.out.items ≡ c.write_rows.new.out.items ++ (codes "],\"range\":" ++ (range_text 0 None (length c.args.rows.now) ++ codes "}")) = search rules in
    whole_reply c.args.rows.now _ _ _ begun rows behind
