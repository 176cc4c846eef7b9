use Rattle.std.proofs.Common.{sym, ◌∙◌, refl, arith, ap}
use Rattle.arti_wild.specs.Parts.{with_last_slash}
use Rattle.arti_wild.specs.declared.part.Part.TheVariants.{Char}
use Rattle.arti_wild.proofs.PartLemmas.{none_at_end, none_before, marked_here}
use Rattle.arti_wild.proofs.pattern.mark_last_slash.Goals as goal

pub back-init : goal.back-init
back-init c = (none_at_end c.args.parts.now, omega arith, refl)

pub back-preserved : goal.back-preserved
back-preserved c = (
  none_before c.back.parts c.back.i (Char 0) c.back-test.true c.back.invariant.1 c.back.invariant.0 (sym c.is_slash.ensures ∙ c.if-is_slash.false),
  omega (arith, c.back.invariant.1),
  c.back.invariant.2,
)

pub returns-then-is_slash : goal.returns-then-is_slash
returns-then-is_slash c =
    ap with_last_slash (sym c.back.invariant.2) ∙ marked_here c.back.parts c.back.i (Char 0) c.back-test.true c.back.invariant.1 c.back.invariant.0 (sym c.is_slash.ensures ∙ c.if-is_slash.true)
