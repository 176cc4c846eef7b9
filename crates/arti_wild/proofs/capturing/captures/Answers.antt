use Rattle.std.proofs.Common.{◌∙◌, arith}
use Rattle.arti_wild.proofs.WalkLemmas.{none_captured_at, some_captured_at, decoded_len}
use Rattle.arti_wild.proofs.capturing.captures.Goals as goal

pub returns-in-None : goal.returns-in-None
returns-in-None c =
    none_captured_at c.args.pattern.now c.parts.result.now c.deref.result.now c.args.text.now c.parts.ensures (c.deref.ensures.value ∙ c.in_ok-decoded.ensures) (rw c.in-None.is at c.in_ok-places.ensures)

pub offsets-requires : goal.offsets-requires
offsets-requires c =
    let size = decoded_len c.args.text.now c.deref-in-Some.result.now c.utf8.text (c.deref-in-Some.ensures.value ∙ c.in_ok-decoded.ensures) in
    omega (arith, size, c.requires)

pub returns : goal.returns
returns c =
    some_captured_at c.args.pattern.now c.parts.result.now c.parts-in-Some.result.now c.args.text.now c.deref.result.now c.deref-in-Some.result.now c.in-Some.places.items c.in_ok-offsets-in-Some.offsets.items c.deref-in-Some-2.result.now c.in_ok-spans-in-Some.spans.items
    c.parts.ensures c.parts-in-Some.ensures (c.deref.ensures.value ∙ c.in_ok-decoded.ensures) (c.deref-in-Some.ensures.value ∙ c.in_ok-decoded.ensures) c.deref-in-Some-2.ensures.value
    (rw c.in-Some.is at c.in_ok-places.ensures) c.in_ok-offsets-in-Some.ensures c.in_ok-spans-in-Some.ensures
