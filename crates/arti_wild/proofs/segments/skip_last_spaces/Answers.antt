use Rattle.std.proofs.Common.{lit<, sym, ◌∙◌, rules, None, Some}
use Rattle.std.proofs.lemmas.Str.Pattern.{strip_suffix_char}
use Rattle.arti_wild.proofs.SegmentLemmas.{skip_last_one, skip_last_none}
use Rattle.arti_wild.proofs.segments.skip_last_spaces.Goals as goal

pub returns-in-None : goal.returns-in-None
returns-in-None c =
    sym (c.spaces.invariant.0 ∙ skip_last_none c.spaces.text.now (strip_suffix_char 32 c.spaces.text.now None c.in-None.ensures.cases (lit< tt)))

pub spaces-preserved : goal.spaces-preserved
spaces-preserved c = (
  c.spaces.invariant.0 ∙ skip_last_one c.spaces.text.now c.in-Some.front.now (strip_suffix_char 32 c.spaces.text.now (Some c.in-Some.front) c.in-Some.ensures.cases (lit< tt)),
  search rules,
)
