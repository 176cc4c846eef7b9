-- Printed suffixes are read as what they print.
use Rattle.std.proofs.Common.{◌≡◌, ◌≢◌, ℕ, suc, Bool, true, false, cond, List, [], ◌∷◌, ◌++◌, length, Option, Some, None, refl, sym, ap, ◌∙◌, subst, append_assoc}
use Rattle.std.specs.Prelude.{codes, decimal, IfSome}
use Rattle.std.specs.List.{prefix_len}
use Rattle.json.specs.Print.{escape_byte, quoted}
use Rattle.arti_aql_lex.specs.Lexed.{lexed}
use Rattle.arti_aql_lex.specs.Tokens.{is_name_start, is_name_byte}
use Rattle.arti_aql_lex.specs.declared.token.TokenKind.TheVariants.{Close, ListClose}
use Rattle.arti_aql_parse.specs.Front.{kind_at, first_value, tail}
use Rattle.arti_aql_parse.specs.Grammar as grammar
use Rattle.arti_aql_parse.specs.Grammar.{Mark, ReadsName, ReadsNatural, ReadsTruth, ReadsOrder, ReadsSort, ReadsSuffixes, is_fresh, no_suffixes}
use Rattle.arti_aql_parse.specs.Print.{texts_text, order_text, include_text, sort_text, offset_text, limit_text, distinct_text, suffixes_text}
use Rattle.arti_aql_parse.specs.Spellable.{IsShort}
use Rattle.arti_aql_parse.specs.Words.{suffix_of, truth_of, order_of, natural_of}
use Rattle.arti_aql_parse.specs.declared.query.Sort.{Sort}
use Rattle.arti_aql_parse.specs.declared.query.Suffixes.{Suffixes}
use Rattle.arti_aql_parse.specs.declared.words.Suffix.{Suffix}
use Rattle.arti_aql_parse.specs.declared.words.Suffix.TheVariants as suffix
use Rattle.arti_aql_parse.proofs.PrintTokens.{name_begins, words_begin, dot_begins, open_begins, close_begins, brace_begins, brace_end_begins, bracket_begins, bracket_end_begins, colon_begins}
use Rattle.arti_aql_parse.proofs.PrintNumbers.{natural_printed}
use Rattle.arti_aql_parse.proofs.PrintParts.{mark_of_begins, texts_read}

-- a name and its parenthesis
name_reads : (b : ℕ) (bs : List ℕ) (x : Suffix) (given : Suffixes) → is_name_start b ≡ true → ((more : List ℕ) → prefix_len is_name_byte (b ∷ (bs ++ 40 ∷ more)) ≡ suc (length bs)) → suffix_of (b ∷ bs) ≡ Some x → is_fresh given x ≡ true
    → (p : ℕ) (rest : List ℕ) → (e : ℕ) × ReadsName given (lexed p 0 (b ∷ (bs ++ 40 ∷ rest))) x (lexed e 0 rest)
name_reads b bs x given first all known fresh p rest =
    let w = name_begins b bs p (40 ∷ rest) first (all rest) in
    let o = open_begins w.end rest in (
      o.1.end,
      record {
        here = ap kind_at w.is;
        name = ap (λ v. suffix_of (first_value v)) w.is ∙ known;
        fresh = fresh;
        open_mark = ap (λ v. kind_at (tail v)) w.is ∙ ap kind_at o.1.is;
        rest = sym (ap (λ v. tail (tail v)) w.is ∙ ap tail o.1.is);
      },
    )

natural_reads : (n p : ℕ) (rest : List ℕ) → IsShort n → (e : ℕ) × ReadsNatural (lexed p 0 (decimal n ++ 41 ∷ rest)) n (lexed e 0 rest)
natural_reads n p rest small =
    let w = natural_printed n p (41 ∷ rest) small refl in
    let c = close_begins w.1.end rest in (
      c.1.end,
      record {
        here = ap kind_at w.1.is;
        value = ap (λ v. natural_of (first_value v)) w.1.is ∙ w.2;
        end = ap (λ v. kind_at (tail v)) w.1.is ∙ ap kind_at c.1.is;
        rest = sym (ap (λ v. tail (tail v)) w.1.is ∙ ap tail c.1.is);
      },
    )

truth_reads : (b : ℕ) (bs : List ℕ) (x : Bool) → is_name_start b ≡ true → ((more : List ℕ) → prefix_len is_name_byte (b ∷ (bs ++ 41 ∷ more)) ≡ suc (length bs)) → truth_of (b ∷ bs) ≡ Some x
    → (p : ℕ) (rest : List ℕ) → (e : ℕ) × ReadsTruth (lexed p 0 (b ∷ (bs ++ 41 ∷ rest))) x (lexed e 0 rest)
truth_reads b bs x first all known p rest =
    let w = name_begins b bs p (41 ∷ rest) first (all rest) in
    let c = close_begins w.end rest in (
      c.1.end,
      record {
        here = ap kind_at w.is;
        value = ap (λ v. truth_of (first_value v)) w.is ∙ known;
        end = ap (λ v. kind_at (tail v)) w.is ∙ ap kind_at c.1.is;
        rest = sym (ap (λ v. tail (tail v)) w.is ∙ ap tail c.1.is);
      },
    )

-- `{ "$asc" : [`
unfoldable pub order_name : Bool → List ℕ
order_name descending = cond descending (codes "$desc") (codes "$asc")

order_known : (descending : Bool) → order_of (order_name descending) ≡ Some descending
unfolding order_of order_name
order_known true = refl
order_known false = refl

order_printed : (descending : Bool) → order_text descending ≡ codes ".sort(" ++ 123 ∷ (quoted (order_name descending) ++ 58 ∷ 91 ∷ [])
unfolding order_name escape_byte
order_printed true = refl
order_printed false = refl

order_reads : (descending : Bool) (p : ℕ) (rest : List ℕ) → (e : ℕ) × ReadsOrder (lexed p 0 (123 ∷ (quoted (order_name descending) ++ 58 ∷ 91 ∷ rest))) descending (lexed e 0 rest)
order_reads descending p rest =
    let o = brace_begins p (quoted (order_name descending) ++ 58 ∷ 91 ∷ rest) in
    let w = words_begin (order_name descending) o.1.end (58 ∷ 91 ∷ rest) in
    let c = colon_begins w.end (91 ∷ rest) in
    let l = bracket_begins c.1.end rest in (
      l.1.end,
      record {
        brace = ap kind_at o.1.is;
        words = ap (λ v. kind_at (tail v)) o.1.is ∙ ap kind_at w.is;
        order = ap (λ v. order_of (first_value (tail v))) o.1.is ∙ ap (λ v. order_of (first_value v)) w.is ∙ order_known descending;
        colon = ap (λ v. kind_at (tail (tail v))) o.1.is ∙ ap (λ v. kind_at (tail v)) w.is ∙ ap kind_at c.1.is;
        bracket = ap (λ v. kind_at (tail (tail (tail v)))) o.1.is ∙ ap (λ v. kind_at (tail (tail v))) w.is ∙ ap (λ v. kind_at (tail v)) c.1.is ∙ ap kind_at l.1.is;
        rest = sym (ap (λ v. tail (tail (tail (tail v)))) o.1.is ∙ ap (λ v. tail (tail (tail v))) w.is ∙ ap (λ v. tail (tail v)) c.1.is ∙ ap tail l.1.is);
      },
    )

sort_reads : (x : Sort) (p : ℕ) (rest : List ℕ) → x.fields ≢ [] → (e : ℕ) × ReadsSort (lexed p 0 (123 ∷ (quoted (order_name x.descending) ++ 58 ∷ 91 ∷ (texts_text x.fields ++ 93 ∷ 125 ∷ 41 ∷ rest)))) x (lexed e 0 rest)
sort_reads x p rest some =
    let o = order_reads x.descending p (texts_text x.fields ++ 93 ∷ 125 ∷ 41 ∷ rest) in
    let t = texts_read ListClose 93 bracket_end_begins x.fields some o.0 (125 ∷ 41 ∷ rest) in
    let b = brace_end_begins t.0 (41 ∷ rest) in
    let c = close_begins b.1.end rest in
    (c.1.end, record { fields = lexed o.0 0 (texts_text x.fields ++ 93 ∷ 125 ∷ 41 ∷ rest); brace = lexed t.0 0 (125 ∷ 41 ∷ rest); close = lexed b.1.end 0 (41 ∷ rest); order = o.1; texts = t.1; end_brace = mark_of_begins b.1; end = mark_of_begins c.1 })

include_known : suffix_of (codes "include") ≡ Some suffix.Include
unfolding suffix_of
include_known = refl

sort_known : suffix_of (codes "sort") ≡ Some suffix.Sort
unfolding suffix_of
sort_known = refl

offset_known : suffix_of (codes "offset") ≡ Some suffix.Offset
unfolding suffix_of
offset_known = refl

limit_known : suffix_of (codes "limit") ≡ Some suffix.Limit
unfolding suffix_of
limit_known = refl

distinct_known : suffix_of (codes "distinct") ≡ Some suffix.Distinct
unfolding suffix_of
distinct_known = refl

true_known : truth_of (codes "true") ≡ Some true
unfolding truth_of
true_known = refl

false_known : truth_of (codes "false") ≡ Some false
unfolding truth_of
false_known = refl

no_more : (given : Suffixes) (p : ℕ) → ReadsSuffixes given (lexed p 0 []) given
unfolding lexed
no_more given p = grammar.no_more refl

-- the suffixes from one on, beside those that were given before
distinct_reads : (i : Option (List (List ℕ))) (s : Option Sort) (o l : Option ℕ) (d : Option Bool) (p : ℕ)
    → ReadsSuffixes (record { include = i; sort = s; offset = o; limit = l; distinct = None }) (lexed p 0 (distinct_text d)) (record { include = i; sort = s; offset = o; limit = l; distinct = d })
unfolding distinct_text
distinct_reads i s o l None p = no_more _ p
distinct_reads i s o l (Some true) p =
    let m = dot_begins p (codes "distinct(true)") in
    let n = name_reads 100 (105 ∷ 115 ∷ 116 ∷ 105 ∷ 110 ∷ 99 ∷ 116 ∷ []) suffix.Distinct (record { include = i; sort = s; offset = o; limit = l; distinct = None }) refl (λ more. refl) distinct_known refl m.1.end (codes "true)") in
    let t = truth_reads 116 (114 ∷ 117 ∷ 101 ∷ []) true refl (λ more. refl) true_known n.0 [] in
    grammar.one_more (mark_of_begins m.1) (grammar.distinct n.1 t.1) (no_more _ t.0)
distinct_reads i s o l (Some false) p =
    let m = dot_begins p (codes "distinct(false)") in
    let n = name_reads 100 (105 ∷ 115 ∷ 116 ∷ 105 ∷ 110 ∷ 99 ∷ 116 ∷ []) suffix.Distinct (record { include = i; sort = s; offset = o; limit = l; distinct = None }) refl (λ more. refl) distinct_known refl m.1.end (codes "false)") in
    let t = truth_reads 102 (97 ∷ 108 ∷ 115 ∷ 101 ∷ []) false refl (λ more. refl) false_known n.0 [] in
    grammar.one_more (mark_of_begins m.1) (grammar.distinct n.1 t.1) (no_more _ t.0)

limit_reads : (i : Option (List (List ℕ))) (s : Option Sort) (o l : Option ℕ) (d : Option Bool) (p : ℕ) → IfSome l IsShort
    → ReadsSuffixes (record { include = i; sort = s; offset = o; limit = None; distinct = None }) (lexed p 0 (limit_text l ++ distinct_text d)) (record { include = i; sort = s; offset = o; limit = l; distinct = d })
unfolding limit_text
limit_reads i s o None d p small = distinct_reads i s o None d p
limit_reads i s o (Some k) d p small =
    let rest = distinct_text d in
    let more = decimal k ++ 41 ∷ rest in
    let m = dot_begins p (codes "limit(" ++ more) in
    let n = name_reads 108 (105 ∷ 109 ∷ 105 ∷ 116 ∷ []) suffix.Limit (record { include = i; sort = s; offset = o; limit = None; distinct = None }) refl (λ more. refl) limit_known refl m.1.end more in
    let t = natural_reads k n.0 rest small in
    subst (λ v. ReadsSuffixes (record { include = i; sort = s; offset = o; limit = None; distinct = None }) (lexed p 0 (codes ".limit(" ++ v)) (record { include = i; sort = s; offset = o; limit = Some k; distinct = d })) (sym (append_assoc (decimal k) (41 ∷ []) rest))
    (grammar.one_more (mark_of_begins m.1) (grammar.limit n.1 t.1) (distinct_reads i s o (Some k) d t.0))

offset_reads : (i : Option (List (List ℕ))) (s : Option Sort) (o l : Option ℕ) (d : Option Bool) (p : ℕ) → IfSome o IsShort → IfSome l IsShort
    → ReadsSuffixes (record { include = i; sort = s; offset = None; limit = None; distinct = None }) (lexed p 0 (offset_text o ++ (limit_text l ++ distinct_text d))) (record { include = i; sort = s; offset = o; limit = l; distinct = d })
unfolding offset_text
offset_reads i s None l d p small few = limit_reads i s None l d p few
offset_reads i s (Some k) l d p small few =
    let rest = limit_text l ++ distinct_text d in
    let more = decimal k ++ 41 ∷ rest in
    let m = dot_begins p (codes "offset(" ++ more) in
    let n = name_reads 111 (102 ∷ 102 ∷ 115 ∷ 101 ∷ 116 ∷ []) suffix.Offset (record { include = i; sort = s; offset = None; limit = None; distinct = None }) refl (λ more. refl) offset_known refl m.1.end more in
    let t = natural_reads k n.0 rest small in
    subst (λ v. ReadsSuffixes (record { include = i; sort = s; offset = None; limit = None; distinct = None }) (lexed p 0 (codes ".offset(" ++ v)) (record { include = i; sort = s; offset = Some k; limit = l; distinct = d })) (sym (append_assoc (decimal k) (41 ∷ []) rest))
    (grammar.one_more (mark_of_begins m.1) (grammar.offset n.1 t.1) (limit_reads i s (Some k) l d t.0 few))

sort_whole : (x : Sort) (rest : List ℕ) → (order_text x.descending ++ texts_text x.fields ++ codes "]})") ++ rest ≡ codes ".sort(" ++ 123 ∷ (quoted (order_name x.descending) ++ 58 ∷ 91 ∷ (texts_text x.fields ++ 93 ∷ 125 ∷ 41 ∷ rest))
sort_whole x rest =
    let name = quoted (order_name x.descending) in
    let texts = texts_text x.fields in
    let more = texts ++ 93 ∷ 125 ∷ 41 ∷ rest in
    append_assoc (order_text x.descending ++ texts) (codes "]})") rest ∙ append_assoc (order_text x.descending) texts (93 ∷ 125 ∷ 41 ∷ rest)
    ∙ ap (λ l. l ++ more) (order_printed x.descending) ∙ ap (λ l. codes ".sort(" ++ 123 ∷ l) (append_assoc name (58 ∷ 91 ∷ []) more)

sorted_reads : (i : Option (List (List ℕ))) (s : Option Sort) (o l : Option ℕ) (d : Option Bool) (p : ℕ) → IfSome s (λ x. x.fields ≢ []) → IfSome o IsShort → IfSome l IsShort
    → ReadsSuffixes (record { include = i; sort = None; offset = None; limit = None; distinct = None }) (lexed p 0 (sort_text s ++ (offset_text o ++ (limit_text l ++ distinct_text d)))) (record { include = i; sort = s; offset = o; limit = l; distinct = d })
unfolding sort_text
sorted_reads i None o l d p some small few = offset_reads i None o l d p small few
sorted_reads i (Some x) o l d p some small few =
    let rest = offset_text o ++ (limit_text l ++ distinct_text d) in
    let more = 123 ∷ (quoted (order_name x.descending) ++ 58 ∷ 91 ∷ (texts_text x.fields ++ 93 ∷ 125 ∷ 41 ∷ rest)) in
    let m = dot_begins p (codes "sort(" ++ more) in
    let n = name_reads 115 (111 ∷ 114 ∷ 116 ∷ []) suffix.Sort (record { include = i; sort = None; offset = None; limit = None; distinct = None }) refl (λ more. refl) sort_known refl m.1.end more in
    let t = sort_reads x n.0 rest some in
    subst (λ v. ReadsSuffixes (record { include = i; sort = None; offset = None; limit = None; distinct = None }) (lexed p 0 v) (record { include = i; sort = Some x; offset = o; limit = l; distinct = d })) (sym (sort_whole x rest))
    (grammar.one_more (mark_of_begins m.1) (grammar.sort n.1 t.1) (offset_reads i (Some x) o l d t.0 small few))

included_reads : (i : Option (List (List ℕ))) (s : Option Sort) (o l : Option ℕ) (d : Option Bool) (p : ℕ) → IfSome i (λ xs. xs ≢ []) → IfSome s (λ x. x.fields ≢ []) → IfSome o IsShort → IfSome l IsShort
    → ReadsSuffixes no_suffixes (lexed p 0 (include_text i ++ (sort_text s ++ (offset_text o ++ (limit_text l ++ distinct_text d))))) (record { include = i; sort = s; offset = o; limit = l; distinct = d })
unfolding include_text
included_reads None s o l d p shown sorted small few = sorted_reads None s o l d p sorted small few
included_reads (Some xs) s o l d p shown sorted small few =
    let rest = sort_text s ++ (offset_text o ++ (limit_text l ++ distinct_text d)) in
    let more = texts_text xs ++ 41 ∷ rest in
    let m = dot_begins p (codes "include(" ++ more) in
    let n = name_reads 105 (110 ∷ 99 ∷ 108 ∷ 117 ∷ 100 ∷ 101 ∷ []) suffix.Include no_suffixes refl (λ more. refl) include_known refl m.1.end more in
    let t = texts_read Close 41 close_begins xs shown n.0 rest in
    subst (λ v. ReadsSuffixes no_suffixes (lexed p 0 (codes ".include(" ++ v)) (record { include = Some xs; sort = s; offset = o; limit = l; distinct = d })) (sym (append_assoc (texts_text xs) (41 ∷ []) rest))
    (grammar.one_more (mark_of_begins m.1) (grammar.include n.1 t.1) (sorted_reads (Some xs) s o l d t.0 sorted small few))

pub suffixes_read : (x : Suffixes) (p : ℕ) → IfSome x.include (λ xs. xs ≢ []) → IfSome x.sort (λ s. s.fields ≢ []) → IfSome x.offset IsShort → IfSome x.limit IsShort → ReadsSuffixes no_suffixes (lexed p 0 (suffixes_text x)) x
unfolding suffixes_text
suffixes_read x p shown sorted small few =
    let i = include_text x.include in
    let s = sort_text x.sort in
    let o = offset_text x.offset in
    let l = limit_text x.limit in
    let d = distinct_text x.distinct in
    let whole : i ++ s ++ o ++ l ++ d ≡ i ++ (s ++ (o ++ (l ++ d))) =
    append_assoc (i ++ s ++ o) l d ∙ append_assoc (i ++ s) o (l ++ d) ∙ append_assoc i s (o ++ (l ++ d)) in
    subst (λ v. ReadsSuffixes no_suffixes (lexed p 0 v) x) (sym whole) (included_reads x.include x.sort x.offset x.limit x.distinct p shown sorted small few)
