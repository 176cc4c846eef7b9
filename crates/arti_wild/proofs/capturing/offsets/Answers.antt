use Rattle.std.proofs.Common.{◌+◌, ◌∙◌, ap, arith, length, List, ℕ, length-append}
use Rattle.std.specs.Prelude.{slice_index}
use Rattle.arti_wild.proofs.WalkLemmas.{byte_next, byte_place-le, one_offset_more}
use Rattle.arti_wild.proofs.capturing.offsets.Goals as goal

pub overflow_add-at : goal.overflow_add-at
overflow_add-at c =
    let next = byte_next c.args.text.now c.chars.c-index c.c-item.result c.chars-test.true c.c-item.is in
    omega (arith, next, c.chars.invariant.at_is, c.len_utf8.ensures.len, byte_place-le c.args.text.now (c.chars.c-index + 1), c.requires)

pub chars-preserved : goal.chars-preserved
chars-preserved c = record {
  at_is = omega (arith, byte_next c.args.text.now c.chars.c-index c.c-item.result c.chars-test.true c.c-item.is, c.chars.invariant.at_is, c.len_utf8.ensures.len);
  size = ap (λ (l : List ℕ). length l) c.in_ok-push.ensures.items ∙ length-append c.chars.offsets.items _ ∙ ap (λ n. n + 1) c.chars.invariant.size;
  each = λ k h. ap (λ (l : List ℕ). slice_index l k) c.in_ok-push.ensures.items ∙ one_offset_more c.args.text.now c.chars.offsets.items c.chars.c-index c.chars.at c.chars.invariant.size c.chars.invariant.at_is c.chars.invariant.each k h;
}
