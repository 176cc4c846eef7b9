use Rattle.std.proofs.Common.{◌≡◌, true, false, rules, sym, ◌∙◌}
use Rattle.arti_wild.specs.Fits.{is_nil}
use Rattle.arti_wild.specs.Wild.{wild_text}
use Rattle.arti_wild.specs.Ant.{is_double_star, segments_left, pattern_left}
use Rattle.arti_wild.proofs.FitsLemmas.{ended, halted, starred}
use Rattle.arti_wild.proofs.segments.after_run.Goals as goal

pub returns-in-None : goal.returns-in-None
returns-in-None c =
    let none : c.is_none.result ≡ is_nil (segments_left c.stars.more_path c.stars.path.now) = search rules in
    none ∙ sym (c.stars.invariant.0 ∙ ended is_double_star wild_text (pattern_left c.stars.more_pattern c.stars.pattern.now) (segments_left c.stars.more_path c.stars.path.now) c.in-None.ensures)

pub returns-then-ne : goal.returns-then-ne
returns-then-ne c =
    let plain : is_double_star c.in-Some.first.now ≡ false = search rules in
    sym (c.stars.invariant.0 ∙ halted is_double_star wild_text c.in-Some.first.now (pattern_left c.stars.more_pattern c.stars.pattern.now) (pattern_left c.in-Some.later_pattern c.in-Some.after_star.now) (segments_left c.stars.more_path c.stars.path.now) c.in-Some.ensures plain c.stars.invariant.1)

pub returns-in-None-find : goal.returns-in-None-find
returns-in-None-find c =
    let star : is_double_star c.in-Some.first.now ≡ true = search rules in
    sym (c.stars.invariant.0 ∙ starred is_double_star wild_text c.in-Some.first.now (pattern_left c.stars.more_pattern c.stars.pattern.now) (pattern_left c.in-Some.later_pattern c.in-Some.after_star.now) (segments_left c.stars.more_path c.stars.path.now) c.in-Some.ensures star ∙ c.in-None-find.ensures.found)

pub stars-preserved : goal.stars-preserved
stars-preserved c =
    let star : is_double_star c.in-Some.first.now ≡ true = search rules in (
      c.stars.invariant.0 ∙ starred is_double_star wild_text c.in-Some.first.now (pattern_left c.stars.more_pattern c.stars.pattern.now) (pattern_left c.in-Some.later_pattern c.in-Some.after_star.now) (segments_left c.stars.more_path c.stars.path.now) c.in-Some.ensures star ∙ c.in-Some-find.ensures.found,
      c.in-Some-find.ensures.stuck,
      search rules,
      search rules,
    )
