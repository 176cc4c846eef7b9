use Rattle.std.proofs.Common.{◌≡◌, ◌≤◌, ℕ, List, ◌∷◌, [], ◌++◌, length, sym, ap, ◌∙◌, subst, append_assoc, string_bytes}
use Rattle.arti_aql_parse.specs.Grammar.{most_levels}
use Rattle.arti_aql_parse.specs.Print.{printed, head_text, row, object_texts, suffixes_text}
use Rattle.arti_aql_parse.specs.Spellable.{HasSpelling}
use Rattle.arti_aql_parse.specs.Spelling.{Spells, most_bytes}
use Rattle.arti_aql_parse.specs.View.{view, objects_view}
use Rattle.arti_aql_parse.proofs.PrintQuery.{printed_spells}
use Rattle.arti_aql_parse.proofs.SpelledShorter.{printed_shortest, spelled_prints}
use Rattle.arti_aql_parse.proofs.printing.print.Goals as goal

-- what was written is what is printed of the query
written : (c : goal.After-from_string) → c.from_string.result ≡ printed (view c.args.query.now)
unfolding printed
written c =
    let q = view c.args.query.now in
    let head = head_text q.domain in
    let objects = row (object_texts q.find most_levels) in
    let suffixes = suffixes_text q.suffixes in
    let first : string_bytes c.push_head.new.out ≡ head = c.in_ok-push_head.ensures ∙ ap (λ l. l ++ head_text c.as_str.result.now) c.new-out.ensures.bytes ∙ ap head_text c.as_str.ensures in
    let second : string_bytes c.push_objects.new.out ≡ head ++ objects =
    c.in_ok-push_objects.ensures ∙ ap (λ l. l ++ row (object_texts (objects_view c.as_slice.result.now) most_levels)) first ∙ ap (λ l. head ++ row (object_texts (objects_view l) most_levels)) c.as_slice.ensures in
    let third : string_bytes c.push_str.new.self ≡ (head ++ objects) ++ 41 ∷ [] = c.in_ok-push_str.ensures.bytes ∙ ap (λ l. l ++ 41 ∷ []) second in
    c.from_string.ensures ∙ c.in_ok-push_suffixes.ensures ∙ ap (λ l. l ++ suffixes) third ∙ append_assoc (head ++ objects) (41 ∷ []) suffixes

pub returns-clause-spells : goal.returns-clause-spells
returns-clause-spells c = let q = view c.args.query.now in subst (λ t. HasSpelling q → length t ≤ most_bytes → Spells t q) (sym (written c)) (printed_spells q)

pub returns-clause-shortest : goal.returns-clause-shortest
returns-clause-shortest c =
    let q = view c.args.query.now in
    subst (λ t. (other : List ℕ) → Spells other q → Spells t q × (length t ≤ length other)) (sym (written c)) (λ other spells. (spelled_prints other q spells, printed_shortest other q spells))
