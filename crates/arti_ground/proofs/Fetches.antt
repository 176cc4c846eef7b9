-- The next answer of an upstream in memory.
use Rattle.std.proofs.Common.{◌≡◌, ◌<◌, ◌≤◌, [], length, ◌+◌, drop, map, get_or, ℕ, List, sym, ◌∙◌, ap, arith, drop-cons}
use Rattle.std.specs.Prelude.{Vec}
use Rattle.std.specs.List.{find}
use Rattle.std.specs.declared.alloc.Global.{Global}
use Rattle.std.proofs.lemmas.List.{drop-drop, drop-map, length-map}
use Rattle.std.proofs.Math.ListN.{drop_of_length-le}
use Rattle.arti_ground.specs.declared.list_upstream.RemoteEntry.{RemoteEntry}
use Rattle.arti_ground.specs.Sources.{first_answer}
use Rattle.arti_ground.specs.Remotes.{lists_of, answer_of, content_of, is_for}

-- the next list answers
pub next_answers : (answers : List (Vec RemoteEntry Global)) (i : ℕ) (one : Vec RemoteEntry Global) (entries : List RemoteEntry) → i < length answers → get_or answers i one ≡ one → entries ≡ one.items
    → first_answer (map answer_of (drop i (lists_of answers))) ≡ answer_of entries
next_answers answers i one entries lt is same =
    let items = λ (a : Vec RemoteEntry Global). a.items in
    let split = drop-cons answers i one lt in
    ap (λ (l : List (List RemoteEntry)). first_answer (map answer_of l)) (drop-map items i answers ∙ ap (λ (l : List (Vec RemoteEntry Global)). map items l) split)
    ∙ ap answer_of (ap items is ∙ sym same)

-- past the lists nothing does
pub none_answers : (answers : List (Vec RemoteEntry Global)) (i : ℕ) (url path : List ℕ) → length answers ≤ i → first_answer (map answer_of (drop i (lists_of answers))) url path ≡ content_of (find (is_for url path) [])
none_answers answers i url path le =
    let items = λ (a : Vec RemoteEntry Global). a.items in
    ap (λ (l : List (List RemoteEntry)). first_answer (map answer_of l) url path) (drop_of_length-le (lists_of answers) (omega (arith, length-map answers items, le)))

-- a fetch takes the next list
pub next_taken : (answers : List (Vec RemoteEntry Global)) (i : ℕ) (before : List (List RemoteEntry)) → drop i (lists_of answers) ≡ before → map answer_of (drop (i + 1) (lists_of answers)) ≡ drop 1 (map answer_of before)
next_taken answers i before is =
    ap (λ (l : List (List RemoteEntry)). map answer_of l) (sym (drop-drop 1 i (lists_of answers)) ∙ ap (λ (l : List (List RemoteEntry)). drop 1 l) is) ∙ sym (drop-map answer_of 1 before)
