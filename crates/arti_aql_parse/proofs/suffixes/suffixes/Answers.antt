use Rattle.std.proofs.Common.{◌≢◌, Some, rules}
use Rattle.std.proofs.lemmas.Result.{err_from_is_err_and}
use Rattle.arti_aql_lex.specs.declared.token.TokenKind.TheVariants.{End}
use Rattle.arti_aql_parse.specs.Ahead.{to_come}
use Rattle.arti_aql_parse.specs.Front.{kind_at}
use Rattle.arti_aql_parse.specs.Grammar.{no_more, one_more}
use Rattle.arti_aql_parse.specs.Refusal.{no_dot, in_suffix, later_suffix}
use Rattle.arti_aql_parse.proofs.SuffixRows.{suffix_smaller}
use Rattle.arti_aql_parse.proofs.suffixes.suffixes.Goals as goal

pub returns-then-is_at-clause-read : goal.returns-then-is_at-clause-read
returns-then-is_at-clause-read c = c.row.invariant.reads _ (no_more (search rules))

pub returns-in_err-take-clause-refused : goal.returns-in_err-take-clause-refused
returns-in_err-take-clause-refused c =
    let p = err_from_is_err_and c.from_residual.result c.from_residual.ensures.1 in
    let e = c.in_err-take.ensures.err in
    let more : kind_at (to_come c.row.parser) ≢ Some End = search rules in
    rw (p.1, p.2) (λ other. c.row.invariant.refuses _ (no_dot more e.1 e.0))

pub returns-in_err-given-clause-refused : goal.returns-in_err-given-clause-refused
returns-in_err-given-clause-refused c =
    let p = err_from_is_err_and c.from_residual-in_err-given.result c.from_residual-in_err-given.ensures.1 in
    rw (p.1, p.2) (λ other. c.row.invariant.refuses _ (in_suffix c.in_ok-take.ensures.ok (c.in_err-given.ensures.refused other)))

pub row-smaller : goal.row-smaller
row-smaller c = suffix_smaller c.in_ok-take.ensures.ok c.in_ok-given.ensures.read

pub row-preserved : goal.row-preserved
row-preserved c = record {
  reads = λ all r. c.row.invariant.reads all (one_more c.in_ok-take.ensures.ok c.in_ok-given.ensures.read r);
  refuses = λ f r. c.row.invariant.refuses f (later_suffix c.in_ok-take.ensures.ok c.in_ok-given.ensures.read r);
}
