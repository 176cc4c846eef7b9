use Rattle.std.proofs.Common.{◌≡◌, ℕ, ◌==◌, Bool, ◌||◌, List, [], ◌∷◌, map, refl, ap, ◌∙◌, sym, rules, tests}
use Rattle.std.specs.Prelude.{codes}
use Rattle.std.specs.List.{list_any, slice_split}
use Rattle.std.specs.Str.{str_eq_ignore_ascii_case}
use Rattle.std.proofs.lemmas.Iterator.Search.{any_from_yields_List}
use Rattle.std.proofs.lemmas.Iterator.Splits.{YieldsList-from_slice_split}
use Rattle.httparse.specs.Grammar.{trim_ows}
use Rattle.arti_model.specs.Requests.{tokens}
use Rattle.arti_wire.proofs.fields.lists_close.Goals as goal

any_trimmed : (test : List ℕ → Bool) (parts : List (List ℕ)) → list_any test (map trim_ows parts) ≡ list_any (λ part. test (trim_ows part)) parts
any_trimmed test [] = refl
any_trimmed test (part ∷ parts) = ap (λ b. test (trim_ows part) || b) (any_trimmed test parts)

pub returns : goal.returns
returns c =
    let bytes = c.args.value.now in
    let test : List ℕ → Bool = λ token. str_eq_ignore_ascii_case token (codes "close") in
    any_from_yields_List (λ part. test (trim_ows part)) _ _ _ c.any.ensures.ran
    (YieldsList-from_slice_split _ (λ b. b == 44) bytes c.split.ensures.rest c.split.ensures.done c.split.ensures.closure (λ x b q k. search (rules, tests)))
    (λ x b q k. search (rules, tests))
    ∙ sym (any_trimmed test (slice_split (λ b. b == 44) bytes))
