use Rattle.std.proofs.Common.{lit<, sym, ◌∙◌, rules}
use Rattle.arti_wild.specs.Ant.{pattern_fits, trimmed}
use Rattle.arti_wild.proofs.SegmentLemmas.{first_pattern, last_pattern, is_first, not_first}
use Rattle.arti_wild.proofs.segments.ant.Goals as goal

pub returns-in-None : goal.returns-in-None
returns-in-None c =
    c.one_fits.ensures ∙ sym (c.patterns.invariant.0 ∙ last_pattern (λ pattern. pattern_fits (trimmed pattern) c.args.path.now) c.patterns.patterns.now (c.in-None.ensures.byte (lit< tt) (λ w o h. h)))

pub returns-then-one_fits : goal.returns-then-one_fits
returns-then-one_fits c =
    let parts = c.in-Some.ensures.byte (lit< tt) (λ w o h. h) in
    is_first _ _ _ (c.patterns.invariant.0 ∙ first_pattern (λ pattern. pattern_fits (trimmed pattern) c.args.path.now) c.patterns.patterns.now c.in-Some.pattern.now c.in-Some.more.now parts.0 parts.1 parts.2) (sym c.one_fits-in-Some.ensures ∙ c.if-one_fits.true)

pub patterns-preserved : goal.patterns-preserved
patterns-preserved c =
    let parts = c.in-Some.ensures.byte (lit< tt) (λ w o h. h) in (
      not_first _ _ _ (c.patterns.invariant.0 ∙ first_pattern (λ pattern. pattern_fits (trimmed pattern) c.args.path.now) c.patterns.patterns.now c.in-Some.pattern.now c.in-Some.more.now parts.0 parts.1 parts.2) (sym c.one_fits-in-Some.ensures ∙ c.if-one_fits.false),
      search rules,
      search rules,
    )
