use Rattle.std.proofs.Common.{rules, ◌+◌, ◌∙◌, sym, ap, ◌++◌, arith, append-nil}
use Rattle.std.proofs.lemmas.List.{take_rest}
use Rattle.arti_targets.proofs.ReadingLemmas.{taken_goes, part_pushed, no_parts}
use Rattle.arti_targets.proofs.target.parts_of.Goals as goal
use Rattle.arti_targets.proofs.target.parts_of.Goals.{then-taken-gt0, else-taken-gt0+in_ok-push}

pub chars-preserved : goal.chars-preserved
chars-preserved c = elim c.if-taken-gt0.branch [
  | then-taken-gt0 w ↦ rw (w.parts-is, w.taken-is) (ap (λ l. c.chars.parts.items ++ l) (sym (taken_goes c.chars.taken c.chars.at c.args.text.now (omega arith) (search rules))) ∙ c.chars.invariant)
  | else-taken-gt0+in_ok-push w ↦ rw (w.parts-is, w.taken-is)
      (part_pushed c.chars.parts.items w.push.new.self.items c.chars.taken c.chars.at w.index-text-at.result c.args.text.now _ w.part_at-part.result c.chars-test.true (omega arith) w.index-text-at.is
      (take_rest c.args.text.now (c.chars.at + 1)) w.part_at-part.ensures w.in_ok-push.ensures.items ∙ c.chars.invariant)
]

pub returns : goal.returns
returns c = sym (append-nil c.chars.parts.items) ∙ ap (λ l. c.chars.parts.items ++ l) (sym (no_parts c.chars.taken c.chars.at c.args.text.now (omega arith))) ∙ c.chars.invariant
