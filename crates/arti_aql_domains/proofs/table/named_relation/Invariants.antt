use Rattle.std.proofs.Common.{◌≡◌, drop}
use Rattle.arti_query_model.specs.Table.{named_relation}
use Rattle.arti_aql_domains.proofs.table.named_relation.Given as goal

abbrev pub invariant-loop-rel : goal.invariant-loop-rel
invariant-loop-rel l = named_relation l.name (drop l.rel-index l.rels) ≡ named_relation l.name l.rels
