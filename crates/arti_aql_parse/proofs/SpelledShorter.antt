-- No text that spells a query is shorter than what is printed of it.
use Rattle.std.proofs.Common.{◌≡◌, ℕ, zero, suc, ◌+◌, ◌<◌, ◌≤◌, Bool, true, false, cond, List, [], ◌∷◌, ◌++◌, length, map, drop, Option, Some, None, refl, sym, ap, ◌∙◌, subst, arith, pos, neg_ℤ}
use Rattle.std.specs.Prelude.{◌==◌, codes, decimal, is_none}
use Rattle.std.specs.Fmt.{signed_decimal}
use Rattle.std.specs.Cmp.Lexicographic.{same_text}
use Rattle.std.specs.Str.{bytes_eq}
use Rattle.std.proofs.lemmas.Bool.{false≢true, eqb-true, ne_eqb}
use Rattle.std.proofs.lemmas.List.{length-append}
use Rattle.json.specs.Print.{escape_byte, quoted}
use Rattle.std.proofs.lemmas.Option.{none-some, same_Some}
use Rattle.arti_aql_lex.specs.Lexed.{Lexed, finish, fault, token}
use Rattle.arti_aql_lex.specs.declared.token.TokenKind.{TokenKind}
use Rattle.arti_aql_lex.specs.declared.token.TokenKind.TheVariants.{Name, Words, Number, Open, Close, ObjectOpen, ListOpen, Colon, End}
use Rattle.arti_aql_parse.specs.Front.{kind_at, first_value, tail, literal_of, literal_at}
use Rattle.arti_aql_parse.specs.Grammar.{Mark, ReadsText, ReadsTexts, last_text, more_texts, ReadsTest, ReadsTests, last_test, more_tests, ReadsKey, ReadsOperand, equals, compares, ReadsObject, no_member, some_members, ReadsMembers, last_member, more_members, ReadsMember, list, field, ReadsObjects, last_object, more_objects, ReadsOrder, ReadsSort, ReadsNatural, ReadsTruth, ReadsName, ReadsSuffix, include, sort, offset, limit, distinct, ReadsSuffixes, no_more, one_more, ReadsHead, find, part, no_suffixes, ReadsCriteria, no_criteria, criteria, joined, most_levels}
use Rattle.arti_aql_parse.specs.Print.{group_name, op_name, is_equality, literal_text, row, test_text, tests_text, operand_text, enclosed, member_text, member_texts, object_text, object_texts, head_text, texts_text, order_text, include_text, sort_text, offset_text, limit_text, distinct_text, suffixes_text, printed}
use Rattle.arti_aql_parse.specs.Spellable.{AreNames}
use Rattle.arti_aql_parse.specs.Spelling.{Spells}
use Rattle.arti_aql_parse.specs.Tree.{PlainMember, Members, no_members, Objects, PlainQuery}
use Rattle.arti_aql_parse.specs.Words.{group_of, op_of, suffix_of, truth_of, order_of, is_null, is_find, number_of, natural_of, is_negative, digits_value}
use Rattle.arti_aql_parse.specs.declared.query.Lit.{Lit}
use Rattle.arti_aql_parse.specs.declared.query.Lit.TheVariants as lit
use Rattle.arti_aql_parse.specs.declared.query.Op.{Op}
use Rattle.arti_aql_parse.specs.declared.query.Op.TheVariants.{Eq, Ne, Gt, Gte, Lt, Lte, Match, Nmatch, Before, Last}
use Rattle.arti_aql_parse.specs.declared.query.Sort.{Sort}
use Rattle.arti_aql_parse.specs.declared.query.Suffixes.{Suffixes}
use Rattle.arti_aql_parse.specs.declared.query.Test.{Test}
use Rattle.arti_aql_parse.specs.declared.words.Group.{Group}
use Rattle.arti_aql_parse.specs.declared.words.Group.TheVariants.{All, Any, Same}
use Rattle.arti_aql_parse.specs.declared.words.Suffix.{Suffix}
use Rattle.arti_aql_parse.specs.declared.words.Suffix.TheVariants as suffix
use Rattle.arti_aql_parse.proofs.PrintSuffixes.{order_name}
use Rattle.arti_aql_parse.proofs.PrintQuery.{joined_some, printed_spells}
use Rattle.arti_aql_parse.proofs.SpelledTokens.{case, is_mark, lexed_sound}
use Rattle.arti_aql_parse.proofs.SpelledFits.{head_fits, spelled_fits}
use Rattle.arti_aql_parse.proofs.SpelledCosts.{cost, weight, mark_cost, lexed_weight}

-- the first token's share
front_weight : (a : Lexed) (k : TokenKind) → kind_at a ≡ Some k → weight a ≡ cost k (first_value a) + weight (tail a)
front_weight (finish at) k h = subst (λ (j : TokenKind). 0 ≡ cost j [] + 0) (same_Some End k h) refl
front_weight (fault f) k h = absurd (none-some k h)
front_weight (token b e kind value rest) k h = ap (λ j. cost j value + weight rest) (same_Some kind k h)

mark_weight : {k : TokenKind} {a b : Lexed} → Mark k a b → is_mark k ≡ true → weight a ≡ 1 + weight b
mark_weight {k} {a} m is = front_weight a k m.here ∙ ap (λ n. n + weight (tail a)) (mark_cost k (first_value a) is) ∙ ap (λ v. 1 + weight v) (sym m.rest)

-- a text that has a meaning is the word of that meaning
back : {A : Type 0} (v w : List ℕ) (name : A → List ℕ) (y x : A) (r : Option A) → name y ≡ w → (r ≡ Some x → v ≡ name x) → cond (bytes_eq v w) (Some y) r ≡ Some x → v ≡ name x
back v w name y x r is more h = case (bytes_eq v w) (Some y) r (Some x) (v ≡ name x) (λ t e. same_text v w (sym t) ∙ sym is ∙ ap name (same_Some y x e)) (λ t e. more e) h

op_back : (v : List ℕ) (x : Op) → op_of v ≡ Some x → v ≡ op_name x
unfolding op_of op_name
op_back v x = back v (codes "$eq") op_name Eq x _ refl (back v (codes "$ne") op_name Ne x _ refl (back v (codes "$gt") op_name Gt x _ refl (back v (codes "$gte") op_name Gte x _ refl (back v (codes "$lt") op_name Lt x _ refl (back v (codes "$lte") op_name Lte x _ refl (back v (codes "$match") op_name Match x _ refl (back v (codes "$nmatch") op_name Nmatch x _ refl (back v (codes "$before") op_name Before x _ refl (back v (codes "$last") op_name Last x _ refl (λ e. absurd (none-some x e)))))))))))

group_back : (v : List ℕ) (x : Group) → group_of v ≡ Some x → v ≡ group_name x
unfolding group_of group_name
group_back v x = back v (codes "$and") group_name All x _ refl (back v (codes "$or") group_name Any x _ refl (back v (codes "$msp") group_name Same x _ refl (λ e. absurd (none-some x e))))

order_back : (v : List ℕ) (x : Bool) → order_of v ≡ Some x → v ≡ order_name x
unfolding order_of order_name
order_back v x = back v (codes "$asc") order_name false x _ refl (back v (codes "$desc") order_name true x _ refl (λ e. absurd (none-some x e)))

abbrev pub truth_name : Bool → List ℕ
truth_name true = codes "true"
truth_name false = codes "false"

truth_back : (v : List ℕ) (x : Bool) → truth_of v ≡ Some x → v ≡ truth_name x
unfolding truth_of
truth_back v x = back v (codes "true") truth_name true x _ refl (back v (codes "false") truth_name false x _ refl (λ e. absurd (none-some x e)))

abbrev pub suffix_name : Suffix → List ℕ
suffix_name suffix.Include = codes "include"
suffix_name suffix.Sort = codes "sort"
suffix_name suffix.Offset = codes "offset"
suffix_name suffix.Limit = codes "limit"
suffix_name suffix.Distinct = codes "distinct"

suffix_back : (v : List ℕ) (x : Suffix) → suffix_of v ≡ Some x → v ≡ suffix_name x
unfolding suffix_of
suffix_back v x = back v (codes "include") suffix_name suffix.Include x _ refl (back v (codes "sort") suffix_name suffix.Sort x _ refl (back v (codes "offset") suffix_name suffix.Offset x _ refl (back v (codes "limit") suffix_name suffix.Limit x _ refl (back v (codes "distinct") suffix_name suffix.Distinct x _ refl (λ e. absurd (none-some x e))))))

null_back : (v : List ℕ) → is_null v ≡ true → v ≡ codes "null"
unfolding is_null
null_back v h = same_text v (codes "null") (sym h)

find_back : (v : List ℕ) → is_find v ≡ true → v ≡ codes "find"
unfolding is_find
find_back v h = same_text v (codes "find") (sym h)

natural_back : (v : List ℕ) (n : ℕ) → natural_of v ≡ Some n → number_of v ≡ pos n
unfolding natural_of number_of
natural_back v n h = by_sign (is_negative v) refl h
  where
    by_sign : (t : Bool) → is_negative v ≡ t → cond t (cond (digits_value (drop 1 v) == 0) (Some 0) None) (Some (digits_value v)) ≡ Some n → cond (is_negative v) (neg_ℤ (pos (digits_value (drop 1 v)))) (pos (digits_value v)) ≡ pos n
    by_sign true is e = case (digits_value (drop 1 v) == 0) (Some 0) None (Some n) _ (λ z s. rw is (ap (λ m. neg_ℤ (pos m)) (eqb-true (digits_value (drop 1 v)) 0 z) ∙ ap pos (same_Some 0 n s))) (λ z s. absurd (none-some n s)) e
    by_sign false is e = rw is (ap pos (same_Some (digits_value v) n e))

row_cons : (x : List ℕ) (xs : List (List ℕ)) → length (row (x ∷ xs)) ≤ length x + 1 + length (row xs)
row_cons x [] = omega arith
row_cons x (y ∷ ys) = omega (arith, length-append x (44 ∷ row (y ∷ ys)))

text_shorter : {a b : Lexed} {x : List ℕ} → ReadsText a x b → length (quoted x) + weight b ≤ weight a
text_shorter {a} t = omega (arith, front_weight a Words t.here, ap (λ v. length (quoted v)) t.value, ap weight t.rest)

texts_shorter : {close : TokenKind} {a b : Lexed} {xs : List (List ℕ)} → ReadsTexts close a xs b → is_mark close ≡ true → length (row (map quoted xs)) + 1 + weight b ≤ weight a
texts_shorter (last_text t m) is = omega (arith, text_shorter t, mark_weight m is)
texts_shorter (more_texts {x = x} {xs = xs} t m r) is = omega (arith, text_shorter t, mark_weight m refl, texts_shorter r is, row_cons (quoted x) (map quoted xs))

null_shorter : (t : Bool) (value : List ℕ) (x : Lit) → is_null value ≡ t → cond t (Some lit.Null) None ≡ Some x → length (literal_text x) ≤ length value
unfolding literal_text
null_shorter true value x is h = subst (λ (y : Lit). length (literal_text y) ≤ length value) (same_Some lit.Null x h) (omega (arith, ap length (null_back value is)))
null_shorter false value x is h = absurd (none-some x h)

literal_cost : (kind : TokenKind) (value : List ℕ) (x : Lit) → literal_of kind value ≡ Some x → length (literal_text x) ≤ cost kind value
unfolding literal_text
literal_cost Words value x h = subst (λ (y : Lit). length (literal_text y) ≤ cost Words value) (same_Some (lit.Words value) x h) (omega arith)
literal_cost Number value x h = subst (λ (y : Lit). length (literal_text y) ≤ cost Number value) (same_Some (lit.Number (number_of value)) x h) (omega arith)
literal_cost Name value x h = null_shorter (is_null value) value x refl h
literal_cost _ value x h = absurd (none-some x h)

literal_shorter : (a : Lexed) (x : Lit) → literal_at a ≡ Some x → length (literal_text x) + weight (tail a) ≤ weight a
literal_shorter (finish at) x h = absurd (none-some x h)
literal_shorter (fault f) x h = absurd (none-some x h)
literal_shorter (token b e kind value rest) x h = omega (arith, literal_cost kind value x h)

test_shorter : {a b : Lexed} {x : Test} → ReadsTest a x b → length (test_text x) + weight b ≤ weight a
unfolding test_text
test_shorter {a} {b} {x} t =
    omega (arith, length-append (quoted (op_name x.op)) (58 ∷ literal_text x.value), front_weight a Words t.here, ap (λ v. length (quoted v)) (op_back (first_value a) x.op t.operator), front_weight (tail a) Colon t.colon, literal_shorter (tail (tail a)) x.value t.literal, ap weight t.rest)

tests_shorter : {a b : Lexed} {xs : List Test} → ReadsTests a xs b → length (row (map test_text xs)) + 1 + weight b ≤ weight a
tests_shorter (last_test t m) = omega (arith, test_shorter t, mark_weight m refl)
tests_shorter (more_tests {x = x} {xs = xs} t m r) = omega (arith, test_shorter t, mark_weight m refl, tests_shorter r, row_cons (test_text x) (map test_text xs))

single_le : (t : Test) (q : Bool) → length (cond q (literal_text t.value) (tests_text (t ∷ []))) ≤ length (tests_text (t ∷ []))
unfolding tests_text test_text
single_le t true = omega (arith, length-append (quoted (op_name t.op) ++ 58 ∷ literal_text t.value) (125 ∷ []), length-append (quoted (op_name t.op)) (58 ∷ literal_text t.value))
single_le t false = omega arith

operand_le : (ts : List Test) → length (operand_text ts) ≤ length (tests_text ts)
unfolding operand_text
operand_le [] = omega arith
operand_le (t ∷ []) = single_le t (is_equality t.op)
operand_le (t ∷ u ∷ us) = omega arith

tests_long : (ts : List Test) → length (tests_text ts) ≡ length (row (map test_text ts)) + 2
unfolding tests_text
tests_long ts = omega (arith, length-append (row (map test_text ts)) (125 ∷ []))

operand_shorter : {n : ℕ} {a b : Lexed} {xs : List Test} → ReadsOperand n a xs b → length (operand_text xs) + weight b ≤ weight a
unfolding operand_text
operand_shorter {n} {a} (equals {x = x} other literal rest) = omega (arith, literal_shorter a x literal, ap weight rest)
operand_shorter {n} {a} {b} {xs} (compares left m r) = omega (arith, mark_weight m refl, tests_shorter r, operand_le xs, tests_long xs)

key_shorter : {a b : Lexed} {key : List ℕ} → ReadsKey a key b → length (quoted key) + 1 + weight b ≤ weight a
key_shorter {a} k = omega (arith, front_weight a Words k.here, ap (λ v. length (quoted v)) k.value, front_weight (tail a) Colon k.colon, ap weight k.rest)

enclosed_long : (opening closing n k : ℕ) (parts : ℕ → List (List ℕ)) → n ≡ k + 1 → length (enclosed opening closing n parts) ≡ length (row (parts k)) + 2
enclosed_long opening closing zero k parts is = absurd (omega (arith, is))
enclosed_long opening closing (suc j) k parts is =
    let same : j ≡ k = omega (arith, is) in
    omega (arith, length-append (row (parts j)) (closing ∷ []), ap (λ m. length (row (parts m))) same)

no_members_long : (n : ℕ) → 0 < n → length (object_text no_members n) ≤ 2
no_members_long zero left = absurd (omega (arith, left))
no_members_long (suc j) left = omega arith

mutual
  object_shorter : {n : ℕ} {a b : Lexed} {ms : Members} → ReadsObject n a ms b → length (object_text ms n) + weight b ≤ weight a
  object_shorter {n} (no_member left m c) = omega (arith, no_members_long n left, mark_weight m refl, mark_weight c refl)
  object_shorter {n} {a} {b} {ms} (some_members {m = k} is m r) = omega (arith, enclosed_long 123 125 n k (member_texts ms) is, mark_weight m refl, members_shorter r)

  members_shorter : {n : ℕ} {a b : Lexed} {ms : Members} → ReadsMembers n a ms b → length (row (member_texts ms n)) + 1 + weight b ≤ weight a
  members_shorter (last_member x m) = omega (arith, member_shorter x, mark_weight m refl)
  members_shorter {n} (more_members {m = y} {ms = ys} x m r) = omega (arith, member_shorter x, mark_weight m refl, members_shorter r, row_cons (member_text y n) (member_texts ys n))

  member_shorter : {n : ℕ} {a b : Lexed} {x : PlainMember} → ReadsMember n a x b → length (member_text x n) + weight b ≤ weight a
  member_shorter {n} (list {m = k} {key = key} {join = join} {os = os} h is left m r) =
      omega (arith, key_shorter h, ap (λ v. length (quoted v)) (group_back key join is), length-append (quoted (group_name join)) (58 ∷ enclosed 91 93 n (object_texts os)), enclosed_long 91 93 n k (object_texts os) left, mark_weight m refl, objects_shorter r refl)
  member_shorter {n} (field {key = key} {xs = xs} h is r) = omega (arith, key_shorter h, length-append (quoted key) (58 ∷ operand_text xs), operand_shorter r)

  objects_shorter : {n : ℕ} {close : TokenKind} {a b : Lexed} {os : Objects} → ReadsObjects n close a os b → is_mark close ≡ true → length (row (object_texts os n)) + 1 + weight b ≤ weight a
  objects_shorter (last_object x m) is = omega (arith, object_shorter x, mark_weight m is)
  objects_shorter {n} (more_objects {o = o} {os = os} x m r) is = omega (arith, object_shorter x, mark_weight m refl, objects_shorter r is, row_cons (object_text o n) (object_texts os n))

-- how many bytes are printed of suffixes
abbrev total : Suffixes → ℕ
total x = length (include_text x.include) + length (sort_text x.sort) + length (offset_text x.offset) + length (limit_text x.limit) + length (distinct_text x.distinct)

none_of : {A : Type 0} (o : Option A) → is_none o ≡ true → o ≡ None
none_of None h = refl
none_of (Some x) h = absurd (false≢true h)

name_weight : {given : Suffixes} {a b : Lexed} {x : Suffix} → ReadsName given a x b → weight a ≡ length (suffix_name x) + 1 + weight b
name_weight {given} {a} {b} {x} r = omega (arith, front_weight a Name r.here, ap length (suffix_back (first_value a) x r.name), front_weight (tail a) Open r.open_mark, ap weight r.rest)

natural_weight : {a b : Lexed} {n : ℕ} → ReadsNatural a n b → weight a ≡ length (decimal n) + 1 + weight b
natural_weight {a} {b} {n} r = omega (arith, front_weight a Number r.here, ap (λ z. length (signed_decimal z)) (natural_back (first_value a) n r.value), front_weight (tail a) Close r.end, ap weight r.rest)

truth_weight : {a b : Lexed} {x : Bool} → ReadsTruth a x b → weight a ≡ length (truth_name x) + 1 + weight b
truth_weight {a} {b} {x} r = omega (arith, front_weight a Name r.here, ap length (truth_back (first_value a) x r.value), front_weight (tail a) Close r.end, ap weight r.rest)

order_weight : {a b : Lexed} {x : Bool} → ReadsOrder a x b → weight a ≡ length (quoted (order_name x)) + 3 + weight b
order_weight {a} {b} {x} o =
    omega (arith, front_weight a ObjectOpen o.brace, front_weight (tail a) Words o.words, ap (λ v. length (quoted v)) (order_back (first_value (tail a)) x o.order), front_weight (tail (tail a)) Colon o.colon, front_weight (tail (tail (tail a))) ListOpen o.bracket, ap weight o.rest)

order_long : (x : Bool) → length (order_text x) ≡ length (quoted (order_name x)) + 9
unfolding order_name escape_byte
order_long true = refl
order_long false = refl

sort_shorter : {a b : Lexed} {x : Sort} → ReadsSort a x b → length (sort_text (Some x)) + weight b ≤ 6 + weight a
unfolding sort_text
sort_shorter {a} {b} {x} r =
    omega (arith, order_long x.descending, order_weight r.order, texts_shorter r.texts refl, mark_weight r.end_brace refl, mark_weight r.end refl, length-append (order_text x.descending ++ texts_text x.fields) (codes "]})"), length-append (order_text x.descending) (texts_text x.fields))

include_long : (xs : List (List ℕ)) → length (include_text (Some xs)) ≡ length (row (map quoted xs)) + 10
unfolding include_text
include_long xs = omega (arith, length-append (texts_text xs) (codes ")"))

offset_long : (n : ℕ) → length (offset_text (Some n)) ≡ length (decimal n) + 9
unfolding offset_text
offset_long n = omega (arith, length-append (decimal n) (codes ")"))

limit_long : (n : ℕ) → length (limit_text (Some n)) ≡ length (decimal n) + 8
unfolding limit_text
limit_long n = omega (arith, length-append (decimal n) (codes ")"))

distinct_long : (x : Bool) → length (distinct_text (Some x)) ≡ length (truth_name x) + 11
unfolding distinct_text
distinct_long true = refl
distinct_long false = refl

-- a suffix behind its dot
suffix_shorter : {given next : Suffixes} {a b : Lexed} → ReadsSuffix given a next b → total next + weight b ≤ total given + 1 + weight a
suffix_shorter {given} (include {xs = xs} n r) = omega (arith, name_weight n, texts_shorter r refl, include_long xs)
suffix_shorter {given} (sort {x = x} n r) = omega (arith, name_weight n, sort_shorter r)
suffix_shorter {given} (offset {n = k} n r) = omega (arith, name_weight n, natural_weight r, offset_long k)
suffix_shorter {given} (limit {n = k} n r) = omega (arith, name_weight n, natural_weight r, limit_long k)
suffix_shorter {given} (distinct {x = x} n r) = omega (arith, name_weight n, truth_weight r, distinct_long x)

suffixes_shorter : {given all : Suffixes} {a : Lexed} → ReadsSuffixes given a all → total all ≤ total given + weight a
suffixes_shorter (no_more h) = omega arith
suffixes_shorter (one_more m s r) = omega (arith, mark_weight m refl, suffix_shorter s, suffixes_shorter r)

none_total : total no_suffixes ≡ 0
unfolding include_text sort_text offset_text limit_text distinct_text
none_total = refl

suffixes_long : (x : Suffixes) → length (suffixes_text x) ≡ total x
unfolding suffixes_text
suffixes_long x =
    let i = include_text x.include in
    let s = sort_text x.sort in
    let o = offset_text x.offset in
    let l = limit_text x.limit in
    let d = distinct_text x.distinct in
    omega (arith, length-append (i ++ s ++ o ++ l) d, length-append (i ++ s ++ o) l, length-append (i ++ s) o, length-append i s)

find_weight : (a b : Lexed) → kind_at a ≡ Some Name → is_find (first_value a) ≡ true → Mark Open (tail a) b → weight a ≡ 5 + weight b
find_weight a b h is m = omega (arith, front_weight a Name h, ap length (find_back (first_value a) is), mark_weight m refl)

head_le : (domain : List ℕ) (t : Bool) → length (cond t (codes "find(") (domain ++ codes ".find(")) ≤ length domain + 6
head_le domain true = omega arith
head_le domain false = omega (arith, length-append domain (codes ".find("))

head_long : (domain : List ℕ) → 0 < length domain → length (head_text domain) ≡ length domain + 6
unfolding head_text
head_long domain some =
    let other : (length domain == 0) ≡ false = ne_eqb (length domain) 0 (λ z. omega (arith, z, some)) in
    ap (λ t. length (cond t (codes "find(") (domain ++ codes ".find("))) other ∙ length-append domain (codes ".find(")

part_le : (x : List ℕ) (xs : List (List ℕ)) → AreNames xs → length (head_text (joined (x ∷ xs))) ≤ length x + 1 + length (head_text (joined xs))
unfolding head_text
part_le x [] are = omega (arith, head_le x (length x == 0))
part_le x (y ∷ ys) are =
    omega (arith, head_le (joined (x ∷ y ∷ ys)) (length (joined (x ∷ y ∷ ys)) == 0), length-append x (46 ∷ joined (y ∷ ys)), head_long (joined (y ∷ ys)) (joined_some y ys are.0))

head_shorter : {a b : Lexed} {names : List (List ℕ)} → ReadsHead a names b → AreNames names → length (head_text (joined names)) + weight b ≤ weight a
unfolding head_text
head_shorter {a} {b} (find h n m) are = omega (arith, find_weight a b h n m)
head_shorter {a} (part {x = x} {xs = xs} h v m r) are = omega (arith, front_weight a Name h, ap length v, mark_weight m refl, head_shorter r are.1, part_le x xs are.1)

criteria_shorter : {a b : Lexed} {os : Objects} → ReadsCriteria a os b → length (row (object_texts os most_levels)) + 1 + weight b ≤ weight a
criteria_shorter (no_criteria m) = omega (arith, mark_weight m refl)
criteria_shorter (criteria r) = objects_shorter r refl

pub printed_shortest : (text : List ℕ) (q : PlainQuery) → Spells text q → length (printed q) ≤ length text
unfolding printed
printed_shortest text q spells =
    let r = spells.reads in
    let names = head_fits r.head (lexed_sound text 0 0) in
    let head = head_text q.domain in
    let objects = row (object_texts q.find most_levels) in
    omega (
      arith,
      head_shorter r.head names.0,
      ap (λ d. length (head_text d)) r.domain,
      criteria_shorter r.find,
      suffixes_shorter r.suffixes,
      none_total,
      suffixes_long q.suffixes,
      lexed_weight text 0 0,
      length-append (head ++ objects) (41 ∷ suffixes_text q.suffixes),
      length-append head objects,
    )

-- where a text spells a query, what is printed does
pub spelled_prints : (text : List ℕ) (q : PlainQuery) → Spells text q → Spells (printed q) q
spelled_prints text q spells = printed_spells q (spelled_fits text q spells) (omega (arith, printed_shortest text q spells, spells.short))
