-- A printed query spells it.
use Rattle.std.proofs.Common.{◌≡◌, ℕ, ◌<◌, ◌≤◌, false, cond, List, [], ◌∷◌, ◌++◌, length, refl, sym, ap, ◌∙◌, subst, arith, append_assoc}
use Rattle.std.specs.Prelude.{◌==◌, codes}
use Rattle.std.proofs.lemmas.Bool.{false≢true, ne_eqb}
use Rattle.std.proofs.lemmas.List.{length-append}
use Rattle.arti_aql_lex.specs.Lexed.{lexed}
use Rattle.arti_aql_lex.specs.Tokens.{is_name_byte}
use Rattle.arti_aql_lex.specs.declared.token.TokenKind.TheVariants.{Name, Close}
use Rattle.arti_aql_parse.specs.Front.{kind_at, first_value, tail}
use Rattle.arti_aql_parse.specs.Grammar as grammar
use Rattle.arti_aql_parse.specs.Grammar.{ReadsHead, ReadsCriteria, ReadsQuery, joined, most_levels}
use Rattle.arti_aql_parse.specs.Print.{row, object_texts, head_text, suffixes_text, printed}
use Rattle.arti_aql_parse.specs.Spellable.{IsName, AreNames, FitObjects, HasSpelling}
use Rattle.arti_aql_parse.specs.Spelling.{Spells, most_bytes}
use Rattle.arti_aql_parse.specs.Tree.{Objects, no_objects, object, PlainQuery}
use Rattle.arti_aql_parse.specs.Words.{is_find}
use Rattle.arti_aql_parse.proofs.PrintTokens.{Begins, name_begins, dot_begins, open_begins, close_begins, front_len}
use Rattle.arti_aql_parse.proofs.PrintParts.{mark_of_begins}
use Rattle.arti_aql_parse.proofs.PrintTree.{objects_read}
use Rattle.arti_aql_parse.proofs.PrintSuffixes.{suffixes_read}

find_reads : (p : ℕ) (rest : List ℕ) → (e : ℕ) × ReadsHead (lexed p 0 (codes "find(" ++ rest)) [] (lexed e 0 rest)
unfolding is_find
find_reads p rest =
    let w = name_begins 102 (105 ∷ 110 ∷ 100 ∷ []) p (40 ∷ rest) refl refl in
    let o = open_begins w.end rest in
    (o.1.end, grammar.find (ap kind_at w.is) (ap (λ v. is_find (first_value v)) w.is) (record { here = ap (λ v. kind_at (tail v)) w.is ∙ ap kind_at o.1.is; rest = sym (ap (λ v. tail (tail v)) w.is ∙ ap tail o.1.is) }))

name_before : (x : List ℕ) → IsName x → (p : ℕ) (more : List ℕ) → Begins p (x ++ 46 ∷ more) Name x (46 ∷ more)
name_before [] is p more = absurd (false≢true is.first)
name_before (b ∷ bs) is p more = name_begins b bs p (46 ∷ more) is.first (front_len is_name_byte (b ∷ bs) (46 ∷ more) is.each refl)

-- a name and its dot before the rest of a head
dotted : (x : List ℕ) → IsName x → (xs : List (List ℕ)) (p : ℕ) (more rest : List ℕ) → ((q : ℕ) → (e : ℕ) × ReadsHead (lexed q 0 more) xs (lexed e 0 rest)) → (e : ℕ) × ReadsHead (lexed p 0 (x ++ 46 ∷ more)) (x ∷ xs) (lexed e 0 rest)
dotted x is xs p more rest later =
    let w = name_before x is p more in
    let d = dot_begins w.end more in
    let r = later d.1.end in
    (r.0, grammar.part (ap kind_at w.is) (sym (ap first_value w.is)) (record { here = ap (λ v. kind_at (tail v)) w.is ∙ ap kind_at d.1.is; rest = sym (ap (λ v. tail (tail v)) w.is ∙ ap tail d.1.is) }) r.1)

names_read : (x : List ℕ) (xs : List (List ℕ)) → AreNames (x ∷ xs) → (p : ℕ) (rest : List ℕ) → (e : ℕ) × ReadsHead (lexed p 0 (joined (x ∷ xs) ++ 46 ∷ (codes "find(" ++ rest))) (x ∷ xs) (lexed e 0 rest)
names_read x [] are p rest = dotted x are.0 [] p (codes "find(" ++ rest) rest (λ q. find_reads q rest)
names_read x (y ∷ ys) are p rest =
    let more = joined (y ∷ ys) ++ 46 ∷ (codes "find(" ++ rest) in
    let r = dotted x are.0 (y ∷ ys) p more rest (λ q. names_read y ys are.1 q rest) in
    (r.0, subst (λ s. ReadsHead (lexed p 0 s) (x ∷ y ∷ ys) (lexed r.0 0 rest)) (sym (append_assoc x (46 ∷ joined (y ∷ ys)) (46 ∷ (codes "find(" ++ rest)))) r.1)

name_some : (x : List ℕ) → IsName x → 0 < length x
name_some [] is = absurd (false≢true is.first)
name_some (b ∷ bs) is = omega arith

pub joined_some : (x : List ℕ) (xs : List (List ℕ)) → IsName x → 0 < length (joined (x ∷ xs))
joined_some x [] is = name_some x is
joined_some x (y ∷ ys) is = omega (arith, name_some x is, length-append x (46 ∷ joined (y ∷ ys)))

head_of : (names : List (List ℕ)) → AreNames names → (p : ℕ) (rest : List ℕ) → (e : ℕ) × ReadsHead (lexed p 0 (head_text (joined names) ++ rest)) names (lexed e 0 rest)
unfolding head_text
head_of [] are p rest = find_reads p rest
head_of (x ∷ xs) are p rest =
    let domain = joined (x ∷ xs) in
    let some : (length domain == 0) ≡ false = ne_eqb (length domain) 0 (λ z. omega (arith, z, joined_some x xs are.0)) in
    let text : head_text domain ++ rest ≡ domain ++ 46 ∷ (codes "find(" ++ rest) = ap (λ t. cond t (codes "find(") (domain ++ codes ".find(") ++ rest) some ∙ append_assoc domain (codes ".find(") rest in
    let r = names_read x xs are p rest in
    (r.0, subst (λ s. ReadsHead (lexed p 0 s) (x ∷ xs) (lexed r.0 0 rest)) (sym text) r.1)

criteria_read : (os : Objects) (p : ℕ) (rest : List ℕ) → FitObjects os most_levels → (e : ℕ) × ReadsCriteria (lexed p 0 (row (object_texts os most_levels) ++ 41 ∷ rest)) os (lexed e 0 rest)
criteria_read no_objects p rest fit = let c = close_begins p rest in (c.1.end, grammar.no_criteria (mark_of_begins c.1))
criteria_read (object o os) p rest fit = let r = objects_read (object o os) most_levels Close 41 close_begins p rest (λ e. cc) fit in (r.0, grammar.criteria r.1)

printed_reads : (q : PlainQuery) → HasSpelling q → ReadsQuery (lexed 0 0 (printed q)) q
unfolding printed
printed_reads q has =
    let suffixes = suffixes_text q.suffixes in
    let objects = row (object_texts q.find most_levels) in
    let head = head_text q.domain in
    let h = head_of has.names.names has.names.each 0 (objects ++ 41 ∷ suffixes) in
    let c = criteria_read q.find h.0 suffixes has.objects in
    let x = suffixes_read q.suffixes c.0 has.included has.sorted has.first has.most in
    let whole : head ++ objects ++ 41 ∷ suffixes ≡ head_text (joined has.names.names) ++ (objects ++ 41 ∷ suffixes) =
    append_assoc head objects (41 ∷ suffixes) ∙ ap (λ d. head_text d ++ (objects ++ 41 ∷ suffixes)) has.names.whole in
    subst (λ s. ReadsQuery (lexed 0 0 s) q) (sym whole) (record {
      names = has.names.names;
      open_mark = lexed h.0 0 (objects ++ 41 ∷ suffixes);
      close_mark = lexed c.0 0 suffixes;
      head = h.1;
      domain = has.names.whole;
      find = c.1;
      suffixes = x;
    })

pub printed_spells : (q : PlainQuery) → HasSpelling q → length (printed q) ≤ most_bytes → Spells (printed q) q
printed_spells q has short = record { short = short; reads = printed_reads q has }
