use Rattle.std.proofs.Common.{◌≡◌, ◌∷◌, ◌++◌, drop, map}
use Rattle.std.specs.Prelude.{flat_map}
use Rattle.arti_model.specs.Query.{row_text}
use Rattle.arti_aql_reply.specs.Rows.{facts_of_rows}
use Rattle.arti_aql_reply.proofs.reply.write_others.Given as goal

abbrev pub invariant-loop-row : goal.invariant-loop-row
invariant-loop-row l =
    l.out.items ++ flat_map (λ t. 44 ∷ t) (map row_text (facts_of_rows (drop l.row-index l.rows))) ≡ l.fn.out.items ++ flat_map (λ t. 44 ∷ t) (map row_text (facts_of_rows l.rows))
