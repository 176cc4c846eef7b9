use Rattle.std.proofs.Common.{◌≡◌, ◌≢◌, ◌+◌, ◌<◌, get_or, drop, Ok, sym, ap, ◌∙◌, arith}
use Rattle.arti_aql_lex.specs.Literal.{piece_len, literal_end}
use Rattle.arti_aql_lex.proofs.Literals.{end_at_piece}
use Rattle.arti_aql_lex.proofs.literal.literal_end.Goals as goal

pub loop-at-preserved : goal.loop-at-preserved
loop-at-preserved c =
    let h = c.in_ok-at.ensures in
    let d = c.args.rest.now in
    let at = c.loop-at.at in
    let n = c.in_ok-at.field-0 in
    let o = c.args.opening in
    let rest = c.bytes_from.ensures.value in
    let piece : piece_len o (o + at) (drop at d) ≡ Ok n = ap (piece_len o (o + at)) (sym rest) ∙ sym h.value in
    let some : 0 < n = h.within.0 in
    let no_quote : get_or d at 0 ≢ 34 = c.if-rest-at-eq34.false in
    let place : o + (at + n) ≡ o + at + n = omega arith in
    record {
      some = omega arith;
      within = omega (arith, h.within.1, c.bytes_from.ensures.len);
      same = ap (λ p. literal_end o p 0 (drop (at + n) d)) place ∙ sym (end_at_piece o (o + at) at n d c.loop-at-test.true no_quote some piece) ∙ c.loop-at.invariant.same;
    }
