use Rattle.std.specs.Str.{chars}
use Rattle.std.proofs.Common.{◌≡◌, rules, sym, ◌∙◌, eq-eqb}
use Rattle.std.proofs.lemmas.Bool.{ne_eqb}
use Rattle.arti_wild.specs.Fits.{is_nil}
use Rattle.arti_wild.specs.Wild.{is_star, stands_for}
use Rattle.arti_wild.proofs.FitsLemmas.{ended, halted, starred}
use Rattle.arti_wild.proofs.matching.after_run.Goals as goal

pub returns-in-None : goal.returns-in-None
returns-in-None c =
    let none : c.is_none.result ≡ is_nil (chars c.stars.text.now) = search rules in
    none ∙ sym (c.stars.invariant.0 ∙ ended is_star stands_for (chars c.stars.pattern.now) (chars c.stars.text.now) c.in-None.ensures)

pub returns-then-p-ne42 : goal.returns-then-p-ne42
returns-then-p-ne42 c =
    sym (c.stars.invariant.0 ∙ halted is_star stands_for c.in-Some.p (chars c.stars.pattern.now) (chars c.in-Some.after_star.now) (chars c.stars.text.now) c.in-Some.ensures (ne_eqb c.in-Some.p 42 c.if-p-ne42.true) c.stars.invariant.1)

pub returns-in-None-find : goal.returns-in-None-find
returns-in-None-find c =
    sym (c.stars.invariant.0 ∙ starred is_star stands_for c.in-Some.p (chars c.stars.pattern.now) (chars c.in-Some.after_star.now) (chars c.stars.text.now) c.in-Some.ensures (eq-eqb c.in-Some.p 42 c.if-p-ne42.false) ∙ c.in-None-find.ensures.found)

pub stars-preserved : goal.stars-preserved
stars-preserved c = (
  c.stars.invariant.0 ∙ starred is_star stands_for c.in-Some.p (chars c.stars.pattern.now) (chars c.in-Some.after_star.now) (chars c.stars.text.now) c.in-Some.ensures (eq-eqb c.in-Some.p 42 c.if-p-ne42.false) ∙ c.in-Some-find.ensures.found,
  c.in-Some-find.ensures.stuck,
  search rules,
  search rules,
)
