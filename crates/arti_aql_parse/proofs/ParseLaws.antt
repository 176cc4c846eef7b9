-- What a text spells is the answer.
use Rattle.std.proofs.Common.{◌≡◌, ◌≢◌, refl}
use Rattle.arti_aql_lex.specs.Lexed.{Lexed}
use Rattle.arti_aql_parse.specs.Fault.{fault_of}
use Rattle.arti_aql_parse.specs.Grammar.{ReadsQuery}
use Rattle.arti_aql_parse.specs.Refusal.{RefusesQuery}
use Rattle.arti_aql_parse.specs.Tree.{PlainQuery}
use Rattle.arti_aql_parse.specs.declared.fault.ParseFault.TheVariants as parsing
use Rattle.arti_aql_parse.specs.declared.fault.ReadFault.{ReadFault}
use Rattle.arti_aql_parse.specs.declared.fault.ReadFault.TheVariants.{Memory, Lex, Expected, TooDeep}
use Rattle.arti_aql_parse.proofs.OneReading.{query_not}

-- where tokens are read as a query, no refusal comes but for want of memory
pub memory_alone : {a : Lexed} {q : PlainQuery} (f : ReadFault) → (f ≢ Memory → RefusesQuery a f) → ReadsQuery a q → fault_of f ≡ parsing.Memory
memory_alone Memory refused r = refl
memory_alone (Lex f) refused r = absurd (query_not r (refused (λ e. cc)))
memory_alone (Expected at part) refused r = absurd (query_not r (refused (λ e. cc)))
memory_alone TooDeep refused r = absurd (query_not r (refused (λ e. cc)))
