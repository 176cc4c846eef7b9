use Rattle.std.specs.Str.{chars}
use Rattle.std.proofs.Common.{rules, sym, ◌∙◌}
use Rattle.arti_wild.specs.Wild.{is_star, stands_for}
use Rattle.arti_wild.proofs.FitsLemmas.{run_no_longer, run_stuck, found, nowhere, later}
use Rattle.arti_wild.proofs.matching.find.Goals as goal

pub returns-then-has_landed : goal.returns-then-has_landed
returns-then-has_landed c = record {
  found = found is_star stands_for (chars c.args.pattern.now) (chars c.args.text.now) (chars c.loop-text.text.now) _ c.loop-text.invariant.0 c.run.ensures (sym c.has_landed.ensures ∙ c.if-has_landed.true);
  stuck = run_stuck is_star stands_for (chars c.args.pattern.now) (chars c.loop-text.text.now) _ c.run.ensures;
  no_longer = run_no_longer is_star stands_for (chars c.args.pattern.now) (chars c.loop-text.text.now) _ c.run.ensures;
}

pub returns-in-None-clause-found : goal.returns-in-None-clause-found
returns-in-None-clause-found c =
    nowhere is_star stands_for (chars c.args.pattern.now) (chars c.args.text.now) (chars c.loop-text.text.now) _ c.loop-text.invariant.0 c.run.ensures (sym c.has_landed.ensures ∙ c.if-has_landed.false) c.in-None.ensures

pub loop-text-preserved : goal.loop-text-preserved
loop-text-preserved c = (
  later is_star stands_for c.in-Some.field-0-0 (chars c.args.pattern.now) (chars c.args.text.now) (chars c.loop-text.text.now) (chars c.in-Some.rest.now) _ c.loop-text.invariant.0 c.run.ensures (sym c.has_landed.ensures ∙ c.if-has_landed.false) c.in-Some.ensures,
  search rules,
  search rules,
)
