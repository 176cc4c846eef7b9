-- Suffixes that are read one after the other.
use Rattle.std.proofs.Common.{ℕ, ◌<◌, ◌≤◌, List, Bool, refl, ap, arith}
use Rattle.arti_aql_lex.specs.Lexed.{Lexed}
use Rattle.arti_aql_lex.specs.declared.token.TokenKind.{TokenKind}
use Rattle.arti_aql_lex.specs.declared.token.TokenKind.TheVariants.{Dot}
use Rattle.arti_aql_parse.specs.Front.{tail}
use Rattle.arti_aql_parse.specs.Grammar.{Mark, ReadsTexts, last_text, more_texts, ReadsOrder, ReadsSort, ReadsNatural, ReadsTruth, ReadsName, ReadsSuffix, include, sort, offset, limit, distinct, ReadsSuffixes, no_suffixes}
use Rattle.arti_aql_parse.specs.Refusal.{RefusesSuffixes}
use Rattle.arti_aql_parse.specs.declared.fault.ReadFault.{ReadFault}
use Rattle.arti_aql_parse.specs.declared.query.Sort.{Sort}
use Rattle.arti_aql_parse.specs.declared.query.Suffixes.{Suffixes}
use Rattle.arti_aql_parse.specs.declared.words.Suffix.{Suffix}
use Rattle.arti_aql_parse.proofs.RowSteps.{size, tail_le, front_smaller}
use Rattle.arti_aql_parse.proofs.CriteriaRows.{mark_le}

-- what is read from here on, beside the suffixes given so far, is read from the start; and a refusal from here on is one from the start
pub record SuffixesGo (start now : Lexed) (given : Suffixes) : Type 0 where
  pub reads : (all : Suffixes) → ReadsSuffixes given now all → ReadsSuffixes no_suffixes start all
  pub refuses : (f : ReadFault) → RefusesSuffixes given now f → RefusesSuffixes no_suffixes start f

texts_le : {close : TokenKind} {a b : Lexed} {xs : List (List ℕ)} → ReadsTexts close a xs b → size b ≤ size a
texts_le (last_text {a} t m) = omega (arith, ap size t.rest, tail_le a, mark_le m)
texts_le (more_texts {a} t m r) = omega (arith, ap size t.rest, tail_le a, mark_le m, texts_le r)

order_le : {a b : Lexed} {x : Bool} → ReadsOrder a x b → size b ≤ size a
order_le {a} {b} {x} o = omega (arith, ap size o.rest, tail_le a, tail_le (tail a), tail_le (tail (tail a)), tail_le (tail (tail (tail a))))

sort_le : {a b : Lexed} {x : Sort} → ReadsSort a x b → size b ≤ size a
sort_le {a} {b} {x} s = omega (arith, order_le s.order, texts_le s.texts, mark_le s.end_brace, mark_le s.end)

natural_le : {a b : Lexed} {n : ℕ} → ReadsNatural a n b → size b ≤ size a
natural_le {a} {b} {n} s = omega (arith, ap size s.rest, tail_le a, tail_le (tail a))

truth_le : {a b : Lexed} {x : Bool} → ReadsTruth a x b → size b ≤ size a
truth_le {a} {b} {x} s = omega (arith, ap size s.rest, tail_le a, tail_le (tail a))

name_le : {given : Suffixes} {a b : Lexed} {x : Suffix} → ReadsName given a x b → size b ≤ size a
name_le {given} {a} {b} {x} s = omega (arith, ap size s.rest, tail_le a, tail_le (tail a))

suffix_le : {given next : Suffixes} {a b : Lexed} → ReadsSuffix given a next b → size b ≤ size a
suffix_le (include n r) = omega (arith, name_le n, texts_le r)
suffix_le (sort n r) = omega (arith, name_le n, sort_le r)
suffix_le (offset n r) = omega (arith, name_le n, natural_le r)
suffix_le (limit n r) = omega (arith, name_le n, natural_le r)
suffix_le (distinct n r) = omega (arith, name_le n, truth_le r)

pub suffix_smaller : {given next : Suffixes} {a b c : Lexed} → Mark Dot a b → ReadsSuffix given b next c → size c < size a
suffix_smaller {given} {next} {a} m r = omega (arith, ap size m.rest, front_smaller Dot a refl m.here, suffix_le r)
