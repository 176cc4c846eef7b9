use Rattle.std.proofs.Common.{◌∙◌, sym, ap, ◌++◌, ℕ, List}
use Rattle.std.specs.Prelude.{slice_get, encode_utf8}
use Rattle.std.specs.Str.{chars}
use Rattle.arti_rows.proofs.Chars.{first_char}
use Rattle.arti_rows.proofs.marks.first.Goals as goal

pub returns : goal.returns
returns c =
    let steps = c.in_ok-c.ensures.steps in
    let whole = c.chars-rest.ensures.rest in
    first_char c.args.text.now c.as_str.result.now c.in_ok-c.c c.utf8.text (steps.2 ∙ ap (λ (l : List ℕ). slice_get (chars l) 0) whole)
    (sym whole ∙ steps.0 ∙ ap (λ (l : List ℕ). encode_utf8 c.in_ok-c.c ++ l) (sym c.as_str.ensures))
