use Rattle.std.proofs.Common.{◌≡◌, ◌<◌, ◌≤◌, ◌-◌, ◌++◌, [], length, take, drop, sym, ap, ◌∙◌, arith, rules}
use Rattle.std.specs.Prelude.{take_while}
use Rattle.std.proofs.lemmas.Bool.Decides.{nat_tests}
use Rattle.std.proofs.lemmas.List.{drop_all, length-drop, nil_from_length}
use Rattle.arti_model.specs.Requests.{is_line_byte, skip}
use Rattle.arti_wire.proofs.SkipLemmas.{skip_part, skip_done}
use Rattle.arti_wire.proofs.reading.skip_line_ends.Goals as goal

pub returns-then-not-is_empty-clause-bytes : goal.returns-then-not-is_empty-clause-bytes
returns-then-not-is_empty-clause-bytes g c = λ tells.
    let most = c.loop-ahead.most in
    let n = c.line_ends-n.result in
    let ahead = c.has_more.new.self in
    let left = g.S.Source.left c.has_more.new.source in
    let counted : n ≡ length (take_while is_line_byte (take most ahead)) =
    c.line_ends-n.ensures ∙ ap (λ bytes. length (take_while is_line_byte (take most bytes))) c.as_slice.ensures.value in
    let size = ap length c.pass.ensures ∙ length-drop n ahead in
    let some : n < length ahead = grind (arith, nat_tests) in
    ap (λ bytes. bytes ++ left) c.pass.ensures
    ∙ sym (skip_done most n ahead left counted some)
    ∙ ap (skip most) (c.in_ok-has_more.ensures.bytes tells)
    ∙ c.loop-ahead.invariant.0 tells

pub loop-ahead-preserved : goal.loop-ahead-preserved
loop-ahead-preserved g c =
    let most = c.loop-ahead.most in
    let n = c.line_ends-n.result in
    let ahead = c.has_more.new.self in
    let left = g.S.Source.left c.has_more.new.source in
    let counted : n ≡ length (take_while is_line_byte (take most ahead)) =
    c.line_ends-n.ensures ∙ ap (λ bytes. length (take_while is_line_byte (take most bytes))) c.as_slice.ensures.value in (
      (λ tells. ap (λ bytes. skip (most - n) (bytes ++ left)) c.pass.ensures
          ∙ sym (skip_part most n ahead left counted)
          ∙ ap (skip most) (c.in_ok-has_more.ensures.bytes tells)
          ∙ c.loop-ahead.invariant.0 tells),
      search rules,
    )

pub returns-clause-bytes : goal.returns-clause-bytes
returns-clause-bytes g c = λ tells.
    let most = c.loop-ahead.most in
    let ahead = c.has_more.new.self in
    let left = g.S.Source.left c.has_more.new.source in
    let none : ahead ≡ [] = nil_from_length ahead (grind (arith, nat_tests)) in
    let end : left ≡ [] = search rules in
    let sum : ahead ++ left ≡ [] = ap (λ a. a ++ left) none ∙ end in
    sum
    ∙ sym (ap (skip most) sum ∙ drop_all (length (take_while is_line_byte (take most []))) [] (omega arith))
    ∙ ap (skip most) (c.in_ok-has_more.ensures.bytes tells)
    ∙ c.loop-ahead.invariant.0 tells
