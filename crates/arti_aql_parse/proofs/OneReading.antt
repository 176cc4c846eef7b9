-- One reading: tokens that are read so are read in no other way, and aren't refused.
use Rattle.std.proofs.Common.{◌≡◌, ◌≢◌, ℕ, List, [], ◌∷◌, Bool, true, false, not, ◌||◌, Option, Some, None, is_some, refl, sym, ap, ◌∙◌, arith}
use Rattle.std.proofs.lemmas.Bool.{false≢true}
use Rattle.std.proofs.lemmas.Option.{none-some, same_Some}
use Rattle.arti_aql_lex.specs.Lexed.{Lexed}
use Rattle.arti_aql_lex.specs.declared.token.TokenKind.{TokenKind}
use Rattle.arti_aql_lex.specs.declared.token.TokenKind.TheVariants.{Words, Dot, Open, Close, ObjectOpen, ObjectClose, ListClose, Comma, End}
use Rattle.arti_aql_parse.specs.Front.{kind_at, first_value, tail, literal_at}
use Rattle.arti_aql_parse.specs.Grammar.{Mark, IsField, ReadsText, ReadsTexts, last_text, more_texts, ReadsTest, ReadsTests, last_test, more_tests, ReadsKey, ReadsOperand, equals, compares, ReadsObject, no_member, some_members, ReadsMembers, last_member, more_members, ReadsMember, list, field, ReadsObjects, last_object, more_objects, ReadsOrder, ReadsSort, ReadsNatural, ReadsTruth, is_fresh, ReadsName, ReadsSuffix, include, sort, offset, limit, distinct, ReadsSuffixes, no_more, one_more, ReadsHead, find, part, joined, ReadsCriteria, no_criteria, criteria, ReadsQuery}
use Rattle.arti_aql_parse.specs.Refusal as no
use Rattle.arti_aql_parse.specs.Refusal.{RefusesTexts, RefusesTest, RefusesTests, RefusesKey, RefusesOperand, RefusesObject, RefusesMembers, RefusesMember, RefusesObjects, RefusesOrder, RefusesSort, RefusesNatural, RefusesTruth, RefusesName, RefusesSuffix, RefusesSuffixes, RefusesHead, RefusesCriteria, RefusesQuery}
use Rattle.arti_aql_parse.specs.Tree.{PlainMember, tests, group, Members, no_members, member, Objects, no_objects, object, PlainQuery}
use Rattle.arti_aql_parse.specs.Words as word
use Rattle.arti_aql_parse.specs.declared.fault.ReadFault.{ReadFault}
use Rattle.arti_aql_parse.specs.declared.query.Op.TheVariants.{Eq}
use Rattle.arti_aql_parse.specs.declared.query.Sort.{Sort}
use Rattle.arti_aql_parse.specs.declared.query.Suffixes.{Suffixes}
use Rattle.arti_aql_parse.specs.declared.query.Test.{Test}
use Rattle.arti_aql_parse.specs.declared.words.Group.{Group}
use Rattle.arti_aql_parse.specs.declared.words.Suffix.{Suffix}
use Rattle.arti_aql_parse.specs.declared.words.Suffix.TheVariants as suffix

marks_same : {k : TokenKind} {a a' b b' : Lexed} → a ≡ a' → Mark k a b → Mark k a' b' → b ≡ b'
marks_same e m m' = m.rest ∙ ap tail e ∙ sym m'.rest

marks_apart : {k l : TokenKind} {a a' b b' : Lexed} → k ≢ l → a ≡ a' → Mark k a b → Mark l a' b' → ⊥
marks_apart differ e m m' = differ (same_Some _ _ (sym m.here ∙ ap kind_at e ∙ m'.here))

brace_comma : ObjectClose ≢ Comma
brace_comma q = cc

bracket_comma : ListClose ≢ Comma
bracket_comma q = cc

close_comma : Close ≢ Comma
close_comma q = cc

text_one : {a a' b b' : Lexed} {x x' : List ℕ} → a ≡ a' → ReadsText a x b → ReadsText a' x' b' → (x ≡ x') × (b ≡ b')
text_one e t u = (t.value ∙ ap first_value e ∙ sym u.value, t.rest ∙ ap tail e ∙ sym u.rest)

texts_one : {close : TokenKind} {a a' b b' : Lexed} {xs xs' : List (List ℕ)} → close ≢ Comma → a ≡ a' → ReadsTexts close a xs b → ReadsTexts close a' xs' b' → (xs ≡ xs') × (b ≡ b')
texts_one differ e (last_text t m) (last_text u k) = let f = text_one e t u in (ap (λ x. x ∷ []) f.0, marks_same f.1 m k)
texts_one differ e (last_text t m) (more_texts u k s) = absurd (marks_apart differ (text_one e t u).1 m k)
texts_one differ e (more_texts t m r) (last_text u k) = absurd (marks_apart (λ q. differ (sym q)) (text_one e t u).1 m k)
texts_one differ e (more_texts t m r) (more_texts u k s) = let f = text_one e t u in let i = texts_one differ (marks_same f.1 m k) r s in (λ j. f.0 j ∷ i.0 j, i.1)

texts_not : {close : TokenKind} {a a' b : Lexed} {xs : List (List ℕ)} {f : ReadFault} → close ≢ Comma → a ≡ a' → ReadsTexts close a xs b → RefusesTexts close a' f → ⊥
texts_not differ e (last_text t m) (no.no_text other is) = other (ap kind_at (sym e) ∙ t.here)
texts_not differ e (last_text t m) (no.after_text u f) = f.end (ap kind_at (sym (text_one e t u).1) ∙ m.here)
texts_not differ e (last_text t m) (no.later_text u k s) = marks_apart differ (text_one e t u).1 m k
texts_not differ e (more_texts t m r) (no.no_text other is) = other (ap kind_at (sym e) ∙ t.here)
texts_not differ e (more_texts t m r) (no.after_text u f) = f.comma (ap kind_at (sym (text_one e t u).1) ∙ m.here)
texts_not differ e (more_texts t m r) (no.later_text u k s) = texts_not differ (marks_same (text_one e t u).1 m k) r s

test_one : {a a' b b' : Lexed} {x x' : Test} → a ≡ a' → ReadsTest a x b → ReadsTest a' x' b' → (x ≡ x') × (b ≡ b')
test_one {a} {a'} {b} {b'} {x} {x'} e t u =
    let op : x.op ≡ x'.op = same_Some _ _ (sym t.operator ∙ ap (λ v. word.op_of (first_value v)) e ∙ u.operator) in
    let value : x.value ≡ x'.value = same_Some _ _ (sym t.literal ∙ ap (λ v. literal_at (tail (tail v))) e ∙ u.literal) in
    (λ j. record { op = op j; value = value j }, t.rest ∙ ap (λ v. tail (tail (tail v))) e ∙ sym u.rest)

test_not : {a a' b : Lexed} {x : Test} {f : ReadFault} → a ≡ a' → ReadsTest a x b → RefusesTest a' f → ⊥
test_not e t (no.no_words other is) = other (ap kind_at (sym e) ∙ t.here)
test_not e t (no.no_operator here none is) = none-some _ (sym (sym t.operator ∙ ap (λ v. word.op_of (first_value v)) e ∙ none))
test_not e t (no.no_colon here op other is) = other (ap (λ v. kind_at (tail v)) (sym e) ∙ t.colon)
test_not e t (no.no_literal here op colon none is) = none-some _ (sym (sym t.literal ∙ ap (λ v. literal_at (tail (tail v))) e ∙ none))

tests_one : {a a' b b' : Lexed} {xs xs' : List Test} → a ≡ a' → ReadsTests a xs b → ReadsTests a' xs' b' → (xs ≡ xs') × (b ≡ b')
tests_one e (last_test t m) (last_test u k) = let f = test_one e t u in (ap (λ x. x ∷ []) f.0, marks_same f.1 m k)
tests_one e (last_test t m) (more_tests u k s) = absurd (marks_apart brace_comma (test_one e t u).1 m k)
tests_one e (more_tests t m r) (last_test u k) = absurd (marks_apart (λ q. brace_comma (sym q)) (test_one e t u).1 m k)
tests_one e (more_tests t m r) (more_tests u k s) = let f = test_one e t u in let i = tests_one (marks_same f.1 m k) r s in (λ j. f.0 j ∷ i.0 j, i.1)

tests_not : {a a' b : Lexed} {xs : List Test} {f : ReadFault} → a ≡ a' → ReadsTests a xs b → RefusesTests a' f → ⊥
tests_not e (last_test t m) (no.no_test g) = test_not e t g
tests_not e (last_test t m) (no.after_test u f) = f.end (ap kind_at (sym (test_one e t u).1) ∙ m.here)
tests_not e (last_test t m) (no.later_test u k s) = marks_apart brace_comma (test_one e t u).1 m k
tests_not e (more_tests t m r) (no.no_test g) = test_not e t g
tests_not e (more_tests t m r) (no.after_test u f) = f.comma (ap kind_at (sym (test_one e t u).1) ∙ m.here)
tests_not e (more_tests t m r) (no.later_test u k s) = tests_not (marks_same (test_one e t u).1 m k) r s

key_one : {a a' b b' : Lexed} {x x' : List ℕ} → a ≡ a' → ReadsKey a x b → ReadsKey a' x' b' → (x ≡ x') × (b ≡ b')
key_one e k l = (k.value ∙ ap first_value e ∙ sym l.value, k.rest ∙ ap (λ v. tail (tail v)) e ∙ sym l.rest)

no_key_is : (g : Option Group) (d : Bool) → g ≡ None → d ≡ true → (is_some g || not d) ≡ true → ⊥
no_key_is None true is dollar fits = false≢true fits
no_key_is None false is dollar fits = false≢true dollar
no_key_is (Some x) d is dollar fits = none-some _ (sym is)

key_not : {a a' b : Lexed} {x : List ℕ} {f : ReadFault} → word.is_key x ≡ true → a ≡ a' → ReadsKey a x b → RefusesKey a' f → ⊥
key_not fits e k (no.no_key other is) = other (ap kind_at (sym e) ∙ k.here)
key_not {a} {a'} {b} {x} fits e k (no.bad_key here none dollar is) =
    no_key_is (word.group_of (first_value a')) (word.begins_with_dollar (first_value a')) none dollar (ap (λ v. word.is_key v) (sym (k.value ∙ ap first_value e)) ∙ fits)
key_not fits e k (no.no_key_colon here key other is) = other (ap (λ v. kind_at (tail v)) (sym e) ∙ k.colon)

group_fits : (x : List ℕ) (join : Group) → word.group_of x ≡ Some join → word.is_key x ≡ true
group_fits x join is = ap (λ g. is_some g || not (word.begins_with_dollar x)) is

field_fits : {x : List ℕ} → IsField x → word.is_key x ≡ true
field_fits {x} f = ap (λ g. is_some g || not (word.begins_with_dollar x)) f.plain ∙ ap (λ d. not d) f.other

operand_one : {n n' : ℕ} {a a' b b' : Lexed} {xs xs' : List Test} → a ≡ a' → ReadsOperand n a xs b → ReadsOperand n' a' xs' b' → (xs ≡ xs') × (b ≡ b')
operand_one e (equals other literal rest) (equals other' literal' rest') = (ap (λ x. record { op = Eq; value = x } ∷ []) (same_Some _ _ (sym literal ∙ ap literal_at e ∙ literal')), rest ∙ ap tail e ∙ sym rest')
operand_one e (equals other literal rest) (compares some m r) = absurd (other (ap kind_at e ∙ m.here))
operand_one e (compares some m r) (equals other literal rest) = absurd (other (ap kind_at (sym e) ∙ m.here))
operand_one e (compares some m r) (compares some' m' r') = tests_one (marks_same e m m') r r'

operand_not : {n n' : ℕ} {a a' b : Lexed} {xs : List Test} {f : ReadFault} → n ≡ n' → a ≡ a' → ReadsOperand n a xs b → RefusesOperand n' a' f → ⊥
operand_not l e (equals other literal rest) (no.no_operand other' none is) = none-some _ (sym (sym literal ∙ ap literal_at e ∙ none))
operand_not l e (equals other literal rest) (no.deep_tests z here is) = other (ap kind_at e ∙ here)
operand_not l e (equals other literal rest) (no.in_tests some m r) = other (ap kind_at e ∙ m.here)
operand_not l e (compares some m r) (no.no_operand other none is) = other (ap kind_at (sym e) ∙ m.here)
operand_not l e (compares some m r) (no.deep_tests z here is) = omega (arith, some, l, z)
operand_not l e (compares some m r) (no.in_tests some' m' r') = tests_not (marks_same e m m') r r'

member_begins : {n : ℕ} {a b : Lexed} {x : PlainMember} → ReadsMember n a x b → kind_at a ≡ Some Words
member_begins (list k join is m r) = k.here
member_begins (field k f o) = k.here

members_begin : {n : ℕ} {a b : Lexed} {x : Members} → ReadsMembers n a x b → kind_at a ≡ Some Words
members_begin (last_member x m) = member_begins x
members_begin (more_members x m r) = member_begins x

object_begins : {n : ℕ} {a b : Lexed} {x : Members} → ReadsObject n a x b → kind_at a ≡ Some ObjectOpen
object_begins (no_member some m c) = m.here
object_begins (some_members is m r) = m.here

objects_begin : {n : ℕ} {close : TokenKind} {a b : Lexed} {x : Objects} → ReadsObjects n close a x b → kind_at a ≡ Some ObjectOpen
objects_begin (last_object x m) = object_begins x
objects_begin (more_objects x m r) = object_begins x

words_apart : {a a' : Lexed} → a ≡ a' → kind_at a ≡ Some ObjectClose → kind_at a' ≡ Some Words → ⊥
words_apart e here there = let never : Some ObjectClose ≡ Some Words = sym here ∙ ap kind_at e ∙ there in cc

mutual
  object_one : {n n' : ℕ} {a a' b b' : Lexed} {x x' : Members} → n ≡ n' → a ≡ a' → ReadsObject n a x b → ReadsObject n' a' x' b' → (x ≡ x') × (b ≡ b')
  object_one l e (no_member some m c) (no_member some' m' c') = (refl, marks_same (marks_same e m m') c c')
  object_one l e (no_member some m c) (some_members is' m' r') = absurd (words_apart (marks_same e m m') c.here (members_begin r'))
  object_one l e (some_members is m r) (no_member some' m' c') = absurd (words_apart (sym (marks_same e m m')) c'.here (members_begin r))
  object_one l e (some_members is m r) (some_members is' m' r') = members_one (omega (arith, l, is, is')) (marks_same e m m') r r'

  members_one : {n n' : ℕ} {a a' b b' : Lexed} {x x' : Members} → n ≡ n' → a ≡ a' → ReadsMembers n a x b → ReadsMembers n' a' x' b' → (x ≡ x') × (b ≡ b')
  members_one l e (last_member x m) (last_member y k) = let f = member_one l e x y in (ap (λ v. member v no_members) f.0, marks_same f.1 m k)
  members_one l e (last_member x m) (more_members y k s) = absurd (marks_apart brace_comma (member_one l e x y).1 m k)
  members_one l e (more_members x m r) (last_member y k) = absurd (marks_apart (λ q. brace_comma (sym q)) (member_one l e x y).1 m k)
  members_one l e (more_members x m r) (more_members y k s) = let f = member_one l e x y in let i = members_one l (marks_same f.1 m k) r s in (λ j. member (f.0 j) (i.0 j), i.1)

  member_one : {n n' : ℕ} {a a' b b' : Lexed} {x x' : PlainMember} → n ≡ n' → a ≡ a' → ReadsMember n a x b → ReadsMember n' a' x' b' → (x ≡ x') × (b ≡ b')
  member_one l e (list k join is m r) (list k' join' is' m' r') =
      let f = key_one e k k' in
      let g = same_Some _ _ (sym join ∙ ap word.group_of f.0 ∙ join') in
      let i = objects_one (omega (arith, l, is, is')) (marks_same f.1 m m') r r' bracket_comma in
      (λ j. group (g j) (i.0 j), i.1)
  member_one l e (list k join is m r) (field k' f' o') = absurd (none-some _ (sym (sym join ∙ ap word.group_of (key_one e k k').0 ∙ f'.plain)))
  member_one l e (field k f o) (list k' join' is' m' r') = absurd (none-some _ (sym (sym join' ∙ ap word.group_of (sym (key_one e k k').0) ∙ f.plain)))
  member_one l e (field k f o) (field k' f' o') = let g = key_one e k k' in let i = operand_one g.1 o o' in (λ j. tests (g.0 j) (i.0 j), i.1)

  objects_one : {n n' : ℕ} {a a' b b' : Lexed} {close : TokenKind} {x x' : Objects} → n ≡ n' → a ≡ a' → ReadsObjects n close a x b → ReadsObjects n' close a' x' b' → close ≢ Comma → (x ≡ x') × (b ≡ b')
  objects_one l e (last_object x m) (last_object y k) differ = let f = object_one l e x y in (ap (λ v. object v no_objects) f.0, marks_same f.1 m k)
  objects_one l e (last_object x m) (more_objects y k s) differ = absurd (marks_apart differ (object_one l e x y).1 m k)
  objects_one l e (more_objects x m r) (last_object y k) differ = absurd (marks_apart (λ q. differ (sym q)) (object_one l e x y).1 m k)
  objects_one l e (more_objects x m r) (more_objects y k s) differ = let f = object_one l e x y in let i = objects_one l (marks_same f.1 m k) r s differ in (λ j. object (f.0 j) (i.0 j), i.1)

mutual
  object_not : {n n' : ℕ} {a a' b : Lexed} {x : Members} {f : ReadFault} → n ≡ n' → a ≡ a' → ReadsObject n a x b → RefusesObject n' a' f → ⊥
  object_not l e (no_member some m c) (no.no_object other is) = other (ap kind_at (sym e) ∙ m.here)
  object_not l e (no_member some m c) (no.deep_object z here is) = omega (arith, some, l, z)
  object_not l e (no_member some m c) (no.in_object is m' other g) = other (ap kind_at (sym (marks_same e m m')) ∙ c.here)
  object_not l e (some_members is m r) (no.no_object other is') = other (ap kind_at (sym e) ∙ m.here)
  object_not l e (some_members is m r) (no.deep_object z here is') = omega (arith, is, l, z)
  object_not l e (some_members is m r) (no.in_object is' m' other g) = members_not (omega (arith, l, is, is')) (marks_same e m m') r g

  members_not : {n n' : ℕ} {a a' b : Lexed} {x : Members} {f : ReadFault} → n ≡ n' → a ≡ a' → ReadsMembers n a x b → RefusesMembers n' a' f → ⊥
  members_not l e (last_member x m) (no.no_member g) = member_not l e x g
  members_not l e (last_member x m) (no.after_member y f) = f.end (ap kind_at (sym (member_one l e x y).1) ∙ m.here)
  members_not l e (last_member x m) (no.later_member y k s) = marks_apart brace_comma (member_one l e x y).1 m k
  members_not l e (more_members x m r) (no.no_member g) = member_not l e x g
  members_not l e (more_members x m r) (no.after_member y f) = f.comma (ap kind_at (sym (member_one l e x y).1) ∙ m.here)
  members_not l e (more_members x m r) (no.later_member y k s) = members_not l (marks_same (member_one l e x y).1 m k) r s

  member_not : {n n' : ℕ} {a a' b : Lexed} {x : PlainMember} {f : ReadFault} → n ≡ n' → a ≡ a' → ReadsMember n a x b → RefusesMember n' a' f → ⊥
  member_not l e (list k join is m r) (no.not_a_key g) = key_not (group_fits _ _ join) e k g
  member_not l e (list k join is m r) (no.no_list k' join' other is') = other (ap kind_at (sym (key_one e k k').1) ∙ m.here)
  member_not l e (list k join is m r) (no.deep_list k' join' z here is') = omega (arith, is, l, z)
  member_not l e (list k join is m r) (no.in_list k' join' is' m' s) = objects_not (omega (arith, l, is, is')) (marks_same (key_one e k k').1 m m') r s bracket_comma
  member_not l e (list k join is m r) (no.in_operand k' f s) = none-some _ (sym (sym join ∙ ap word.group_of (key_one e k k').0 ∙ f.plain))
  member_not l e (field k f o) (no.not_a_key g) = key_not (field_fits f) e k g
  member_not l e (field k f o) (no.no_list k' join' other is') = none-some _ (sym (sym join' ∙ ap word.group_of (sym (key_one e k k').0) ∙ f.plain))
  member_not l e (field k f o) (no.deep_list k' join' z here is') = none-some _ (sym (sym join' ∙ ap word.group_of (sym (key_one e k k').0) ∙ f.plain))
  member_not l e (field k f o) (no.in_list k' join' is' m' s) = none-some _ (sym (sym join' ∙ ap word.group_of (sym (key_one e k k').0) ∙ f.plain))
  member_not l e (field k f o) (no.in_operand k' f' s) = operand_not l (key_one e k k').1 o s

  objects_not : {n n' : ℕ} {a a' b : Lexed} {close : TokenKind} {x : Objects} {f : ReadFault} → n ≡ n' → a ≡ a' → ReadsObjects n close a x b → RefusesObjects n' close a' f → close ≢ Comma → ⊥
  objects_not l e (last_object x m) (no.not_an_object g) differ = object_not l e x g
  objects_not l e (last_object x m) (no.after_object y f) differ = f.end (ap kind_at (sym (object_one l e x y).1) ∙ m.here)
  objects_not l e (last_object x m) (no.later_object y k s) differ = marks_apart differ (object_one l e x y).1 m k
  objects_not l e (more_objects x m r) (no.not_an_object g) differ = object_not l e x g
  objects_not l e (more_objects x m r) (no.after_object y f) differ = f.comma (ap kind_at (sym (object_one l e x y).1) ∙ m.here)
  objects_not l e (more_objects x m r) (no.later_object y k s) differ = objects_not l (marks_same (object_one l e x y).1 m k) r s differ

order_one : {a a' b b' : Lexed} {x x' : Bool} → a ≡ a' → ReadsOrder a x b → ReadsOrder a' x' b' → (x ≡ x') × (b ≡ b')
order_one e o p = (same_Some _ _ (sym o.order ∙ ap (λ v. word.order_of (first_value (tail v))) e ∙ p.order), o.rest ∙ ap (λ v. tail (tail (tail (tail v)))) e ∙ sym p.rest)

order_not : {a a' b : Lexed} {x : Bool} {f : ReadFault} → a ≡ a' → ReadsOrder a x b → RefusesOrder a' f → ⊥
order_not e o (no.no_brace other is) = other (ap kind_at (sym e) ∙ o.brace)
order_not e o (no.no_order here other is) = other (ap (λ v. kind_at (tail v)) (sym e) ∙ o.words)
order_not e o (no.bad_order here words none is) = none-some _ (sym (sym o.order ∙ ap (λ v. word.order_of (first_value (tail v))) e ∙ none))
order_not e o (no.no_order_colon here words order other is) = other (ap (λ v. kind_at (tail (tail v))) (sym e) ∙ o.colon)
order_not e o (no.no_bracket here words order colon other is) = other (ap (λ v. kind_at (tail (tail (tail v)))) (sym e) ∙ o.bracket)

sort_one : {a a' b b' : Lexed} {x x' : Sort} → a ≡ a' → ReadsSort a x b → ReadsSort a' x' b' → (x ≡ x') × (b ≡ b')
sort_one {a} {a'} {b} {b'} {x} {x'} e s t =
    let o = order_one e s.order t.order in
    let i = texts_one bracket_comma o.1 s.texts t.texts in
    (λ j. record { descending = o.0 j; fields = i.0 j }, marks_same (marks_same i.1 s.end_brace t.end_brace) s.end t.end)

sort_not : {a a' b : Lexed} {x : Sort} {f : ReadFault} → a ≡ a' → ReadsSort a x b → RefusesSort a' f → ⊥
sort_not e s (no.not_an_order g) = order_not e s.order g
sort_not e s (no.in_fields o g) = texts_not bracket_comma (order_one e s.order o).1 s.texts g
sort_not e s (no.no_end_brace o t other is) = let i = texts_one bracket_comma (order_one e s.order o).1 s.texts t in other (ap kind_at (sym i.1) ∙ s.end_brace.here)
sort_not e s (no.no_sort_end o t m other is) = let i = texts_one bracket_comma (order_one e s.order o).1 s.texts t in other (ap kind_at (sym (marks_same i.1 s.end_brace m)) ∙ s.end.here)

natural_one : {a a' b b' : Lexed} {x x' : ℕ} → a ≡ a' → ReadsNatural a x b → ReadsNatural a' x' b' → (x ≡ x') × (b ≡ b')
natural_one e s t = (same_Some _ _ (sym s.value ∙ ap (λ v. word.natural_of (first_value v)) e ∙ t.value), s.rest ∙ ap (λ v. tail (tail v)) e ∙ sym t.rest)

natural_not : {a a' b : Lexed} {x : ℕ} {f : ReadFault} → a ≡ a' → ReadsNatural a x b → RefusesNatural a' f → ⊥
natural_not e s (no.no_number other is) = other (ap kind_at (sym e) ∙ s.here)
natural_not e s (no.negative here none is) = none-some _ (sym (sym s.value ∙ ap (λ v. word.natural_of (first_value v)) e ∙ none))
natural_not e s (no.no_number_end here value other is) = other (ap (λ v. kind_at (tail v)) (sym e) ∙ s.end)

truth_one : {a a' b b' : Lexed} {x x' : Bool} → a ≡ a' → ReadsTruth a x b → ReadsTruth a' x' b' → (x ≡ x') × (b ≡ b')
truth_one e s t = (same_Some _ _ (sym s.value ∙ ap (λ v. word.truth_of (first_value v)) e ∙ t.value), s.rest ∙ ap (λ v. tail (tail v)) e ∙ sym t.rest)

truth_not : {a a' b : Lexed} {x : Bool} {f : ReadFault} → a ≡ a' → ReadsTruth a x b → RefusesTruth a' f → ⊥
truth_not e s (no.no_truth other is) = other (ap kind_at (sym e) ∙ s.here)
truth_not e s (no.other_name here none is) = none-some _ (sym (sym s.value ∙ ap (λ v. word.truth_of (first_value v)) e ∙ none))
truth_not e s (no.no_truth_end here value other is) = other (ap (λ v. kind_at (tail v)) (sym e) ∙ s.end)

name_one : {given given' : Suffixes} {a a' b b' : Lexed} {x x' : Suffix} → a ≡ a' → ReadsName given a x b → ReadsName given' a' x' b' → (x ≡ x') × (b ≡ b')
name_one e s t = (same_Some _ _ (sym s.name ∙ ap (λ v. word.suffix_of (first_value v)) e ∙ t.name), s.rest ∙ ap (λ v. tail (tail v)) e ∙ sym t.rest)

name_not : {given given' : Suffixes} {a a' b : Lexed} {x : Suffix} {f : ReadFault} → given ≡ given' → a ≡ a' → ReadsName given a x b → RefusesName given' a' f → ⊥
name_not g e s (no.no_suffix other is) = other (ap kind_at (sym e) ∙ s.here)
name_not g e s (no.no_such_suffix here none is) = none-some _ (sym (sym s.name ∙ ap (λ v. word.suffix_of (first_value v)) e ∙ none))
name_not g e s (no.given_before here named old is) =
    let same = same_Some _ _ (sym s.name ∙ ap (λ v. word.suffix_of (first_value v)) e ∙ named) in
    false≢true (sym old ∙ sym (λ j. is_fresh (g j) (same j)) ∙ s.fresh)
name_not g e s (no.no_open here named fresh other is) = other (ap (λ v. kind_at (tail v)) (sym e) ∙ s.open_mark)

suffix_one : {given given' next next' : Suffixes} {a a' b b' : Lexed} → given ≡ given' → a ≡ a' → ReadsSuffix given a next b → ReadsSuffix given' a' next' b' → (next ≡ next') × (b ≡ b')
suffix_one g e (include n r) (include m s) = let i = texts_one close_comma (name_one e n m).1 r s in (λ j. record (g j) { include = Some (i.0 j) }, i.1)
suffix_one g e (include n r) (sort m s) = let other : suffix.Include ≡ suffix.Sort = (name_one e n m).0 in cc
suffix_one g e (include n r) (offset m s) = let other : suffix.Include ≡ suffix.Offset = (name_one e n m).0 in cc
suffix_one g e (include n r) (limit m s) = let other : suffix.Include ≡ suffix.Limit = (name_one e n m).0 in cc
suffix_one g e (include n r) (distinct m s) = let other : suffix.Include ≡ suffix.Distinct = (name_one e n m).0 in cc
suffix_one g e (sort n r) (include m s) = let other : suffix.Sort ≡ suffix.Include = (name_one e n m).0 in cc
suffix_one g e (sort n r) (sort m s) = let i = sort_one (name_one e n m).1 r s in (λ j. record (g j) { sort = Some (i.0 j) }, i.1)
suffix_one g e (sort n r) (offset m s) = let other : suffix.Sort ≡ suffix.Offset = (name_one e n m).0 in cc
suffix_one g e (sort n r) (limit m s) = let other : suffix.Sort ≡ suffix.Limit = (name_one e n m).0 in cc
suffix_one g e (sort n r) (distinct m s) = let other : suffix.Sort ≡ suffix.Distinct = (name_one e n m).0 in cc
suffix_one g e (offset n r) (include m s) = let other : suffix.Offset ≡ suffix.Include = (name_one e n m).0 in cc
suffix_one g e (offset n r) (sort m s) = let other : suffix.Offset ≡ suffix.Sort = (name_one e n m).0 in cc
suffix_one g e (offset n r) (offset m s) = let i = natural_one (name_one e n m).1 r s in (λ j. record (g j) { offset = Some (i.0 j) }, i.1)
suffix_one g e (offset n r) (limit m s) = let other : suffix.Offset ≡ suffix.Limit = (name_one e n m).0 in cc
suffix_one g e (offset n r) (distinct m s) = let other : suffix.Offset ≡ suffix.Distinct = (name_one e n m).0 in cc
suffix_one g e (limit n r) (include m s) = let other : suffix.Limit ≡ suffix.Include = (name_one e n m).0 in cc
suffix_one g e (limit n r) (sort m s) = let other : suffix.Limit ≡ suffix.Sort = (name_one e n m).0 in cc
suffix_one g e (limit n r) (offset m s) = let other : suffix.Limit ≡ suffix.Offset = (name_one e n m).0 in cc
suffix_one g e (limit n r) (limit m s) = let i = natural_one (name_one e n m).1 r s in (λ j. record (g j) { limit = Some (i.0 j) }, i.1)
suffix_one g e (limit n r) (distinct m s) = let other : suffix.Limit ≡ suffix.Distinct = (name_one e n m).0 in cc
suffix_one g e (distinct n r) (include m s) = let other : suffix.Distinct ≡ suffix.Include = (name_one e n m).0 in cc
suffix_one g e (distinct n r) (sort m s) = let other : suffix.Distinct ≡ suffix.Sort = (name_one e n m).0 in cc
suffix_one g e (distinct n r) (offset m s) = let other : suffix.Distinct ≡ suffix.Offset = (name_one e n m).0 in cc
suffix_one g e (distinct n r) (limit m s) = let other : suffix.Distinct ≡ suffix.Limit = (name_one e n m).0 in cc
suffix_one g e (distinct n r) (distinct m s) = let i = truth_one (name_one e n m).1 r s in (λ j. record (g j) { distinct = Some (i.0 j) }, i.1)

suffix_not : {given given' next : Suffixes} {a a' b : Lexed} {f : ReadFault} → given ≡ given' → a ≡ a' → ReadsSuffix given a next b → RefusesSuffix given' a' f → ⊥
suffix_not g e (include n r) (no.not_a_name h) = name_not g e n h
suffix_not g e (include n r) (no.in_include m s) = texts_not close_comma (name_one e n m).1 r s
suffix_not g e (include n r) (no.in_sort m s) = let other : suffix.Include ≡ suffix.Sort = (name_one e n m).0 in cc
suffix_not g e (include n r) (no.in_offset m s) = let other : suffix.Include ≡ suffix.Offset = (name_one e n m).0 in cc
suffix_not g e (include n r) (no.in_limit m s) = let other : suffix.Include ≡ suffix.Limit = (name_one e n m).0 in cc
suffix_not g e (include n r) (no.in_distinct m s) = let other : suffix.Include ≡ suffix.Distinct = (name_one e n m).0 in cc
suffix_not g e (sort n r) (no.not_a_name h) = name_not g e n h
suffix_not g e (sort n r) (no.in_include m s) = let other : suffix.Sort ≡ suffix.Include = (name_one e n m).0 in cc
suffix_not g e (sort n r) (no.in_sort m s) = sort_not (name_one e n m).1 r s
suffix_not g e (sort n r) (no.in_offset m s) = let other : suffix.Sort ≡ suffix.Offset = (name_one e n m).0 in cc
suffix_not g e (sort n r) (no.in_limit m s) = let other : suffix.Sort ≡ suffix.Limit = (name_one e n m).0 in cc
suffix_not g e (sort n r) (no.in_distinct m s) = let other : suffix.Sort ≡ suffix.Distinct = (name_one e n m).0 in cc
suffix_not g e (offset n r) (no.not_a_name h) = name_not g e n h
suffix_not g e (offset n r) (no.in_include m s) = let other : suffix.Offset ≡ suffix.Include = (name_one e n m).0 in cc
suffix_not g e (offset n r) (no.in_sort m s) = let other : suffix.Offset ≡ suffix.Sort = (name_one e n m).0 in cc
suffix_not g e (offset n r) (no.in_offset m s) = natural_not (name_one e n m).1 r s
suffix_not g e (offset n r) (no.in_limit m s) = let other : suffix.Offset ≡ suffix.Limit = (name_one e n m).0 in cc
suffix_not g e (offset n r) (no.in_distinct m s) = let other : suffix.Offset ≡ suffix.Distinct = (name_one e n m).0 in cc
suffix_not g e (limit n r) (no.not_a_name h) = name_not g e n h
suffix_not g e (limit n r) (no.in_include m s) = let other : suffix.Limit ≡ suffix.Include = (name_one e n m).0 in cc
suffix_not g e (limit n r) (no.in_sort m s) = let other : suffix.Limit ≡ suffix.Sort = (name_one e n m).0 in cc
suffix_not g e (limit n r) (no.in_offset m s) = let other : suffix.Limit ≡ suffix.Offset = (name_one e n m).0 in cc
suffix_not g e (limit n r) (no.in_limit m s) = natural_not (name_one e n m).1 r s
suffix_not g e (limit n r) (no.in_distinct m s) = let other : suffix.Limit ≡ suffix.Distinct = (name_one e n m).0 in cc
suffix_not g e (distinct n r) (no.not_a_name h) = name_not g e n h
suffix_not g e (distinct n r) (no.in_include m s) = let other : suffix.Distinct ≡ suffix.Include = (name_one e n m).0 in cc
suffix_not g e (distinct n r) (no.in_sort m s) = let other : suffix.Distinct ≡ suffix.Sort = (name_one e n m).0 in cc
suffix_not g e (distinct n r) (no.in_offset m s) = let other : suffix.Distinct ≡ suffix.Offset = (name_one e n m).0 in cc
suffix_not g e (distinct n r) (no.in_limit m s) = let other : suffix.Distinct ≡ suffix.Limit = (name_one e n m).0 in cc
suffix_not g e (distinct n r) (no.in_distinct m s) = truth_not (name_one e n m).1 r s

end_dot : {a a' : Lexed} → a ≡ a' → kind_at a ≡ Some End → kind_at a' ≡ Some Dot → ⊥
end_dot e here there = let never : Some End ≡ Some Dot = sym here ∙ ap kind_at e ∙ there in cc

suffixes_one : {given given' all all' : Suffixes} {a a' : Lexed} → given ≡ given' → a ≡ a' → ReadsSuffixes given a all → ReadsSuffixes given' a' all' → all ≡ all'
suffixes_one g e (no_more h) (no_more k) = g
suffixes_one g e (no_more h) (one_more m s r) = absurd (end_dot e h m.here)
suffixes_one g e (one_more m s r) (no_more h) = absurd (end_dot (sym e) h m.here)
suffixes_one g e (one_more m s r) (one_more m' s' r') = let i = suffix_one g (marks_same e m m') s s' in suffixes_one i.0 i.1 r r'

suffixes_not : {given given' all : Suffixes} {a a' : Lexed} {f : ReadFault} → given ≡ given' → a ≡ a' → ReadsSuffixes given a all → RefusesSuffixes given' a' f → ⊥
suffixes_not g e (no_more h) (no.no_dot more other is) = more (ap kind_at (sym e) ∙ h)
suffixes_not g e (no_more h) (no.in_suffix m s) = end_dot e h m.here
suffixes_not g e (no_more h) (no.later_suffix m s r) = end_dot e h m.here
suffixes_not g e (one_more m s r) (no.no_dot more other is) = other (ap kind_at (sym e) ∙ m.here)
suffixes_not g e (one_more m s r) (no.in_suffix m' s') = suffix_not g (marks_same e m m') s s'
suffixes_not g e (one_more m s r) (no.later_suffix m' s' r') = let i = suffix_one g (marks_same e m m') s s' in suffixes_not i.0 i.1 r r'

open_dot : Open ≢ Dot
open_dot q = cc

head_one : {a a' b b' : Lexed} {xs xs' : List (List ℕ)} → a ≡ a' → ReadsHead a xs b → ReadsHead a' xs' b' → (xs ≡ xs') × (b ≡ b')
head_one e (find h n m) (find h' n' m') = (refl, marks_same (ap tail e) m m')
head_one e (find h n m) (part h' v' m' r') = absurd (marks_apart open_dot (ap tail e) m m')
head_one e (part h v m r) (find h' n' m') = absurd (marks_apart (λ q. open_dot (sym q)) (ap tail e) m m')
head_one e (part h v m r) (part h' v' m' r') = let f = v ∙ ap first_value e ∙ sym v' in let i = head_one (marks_same (ap tail e) m m') r r' in (λ j. f j ∷ i.0 j, i.1)

head_not : {a a' b : Lexed} {xs : List (List ℕ)} {f : ReadFault} → a ≡ a' → ReadsHead a xs b → RefusesHead a' f → ⊥
head_not e (find h n m) (no.no_name other is) = other (ap kind_at (sym e) ∙ h)
head_not e (find h n m) (no.no_name_dot here name other is) = false≢true (sym name ∙ ap (λ v. word.is_find (first_value v)) (sym e) ∙ n)
head_not e (find h n m) (no.no_find_open here name dot other is) = other (ap (λ v. kind_at (tail v)) (sym e) ∙ m.here)
head_not e (find h n m) (no.later_name here m' r) = marks_apart open_dot (ap tail e) m m'
head_not e (part h v m r) (no.no_name other is) = other (ap kind_at (sym e) ∙ h)
head_not e (part h v m r) (no.no_name_dot here name other is) = other (ap (λ v. kind_at (tail v)) (sym e) ∙ m.here)
head_not e (part h v m r) (no.no_find_open here name dot other is) = dot (ap (λ v. kind_at (tail v)) (sym e) ∙ m.here)
head_not e (part h v m r) (no.later_name here m' r') = head_not (marks_same (ap tail e) m m') r r'

close_brace : {a a' : Lexed} → a ≡ a' → kind_at a ≡ Some Close → kind_at a' ≡ Some ObjectOpen → ⊥
close_brace e here there = let never : Some Close ≡ Some ObjectOpen = sym here ∙ ap kind_at e ∙ there in cc

criteria_one : {a a' b b' : Lexed} {x x' : Objects} → a ≡ a' → ReadsCriteria a x b → ReadsCriteria a' x' b' → (x ≡ x') × (b ≡ b')
criteria_one e (no_criteria m) (no_criteria m') = (refl, marks_same e m m')
criteria_one e (no_criteria m) (criteria r) = absurd (close_brace e m.here (objects_begin r))
criteria_one e (criteria r) (no_criteria m) = absurd (close_brace (sym e) m.here (objects_begin r))
criteria_one e (criteria r) (criteria r') = objects_one refl e r r' close_comma

criteria_not : {a a' b : Lexed} {x : Objects} {f : ReadFault} → a ≡ a' → ReadsCriteria a x b → RefusesCriteria a' f → ⊥
criteria_not e (no_criteria m) (no.not_objects other r) = other (ap kind_at (sym e) ∙ m.here)
criteria_not e (criteria r) (no.not_objects other r') = objects_not refl e r r' close_comma

-- tokens are read as one query at most
pub query_one : {a : Lexed} {q q' : PlainQuery} → ReadsQuery a q → ReadsQuery a q' → q ≡ q'
query_one {a} {q} {q'} r s =
    let h = head_one refl r.head s.head in
    let c = criteria_one h.1 r.find s.find in
    let x = suffixes_one refl c.1 r.suffixes s.suffixes in
    let d = r.domain ∙ ap joined h.0 ∙ sym s.domain in
    (λ j. record { domain = d j; find = c.0 j; suffixes = x j })

-- tokens that are read as a query aren't refused
pub query_not : {a : Lexed} {q : PlainQuery} {f : ReadFault} → ReadsQuery a q → RefusesQuery a f → ⊥
query_not r (no.in_head g) = head_not refl r.head g
query_not r (no.in_criteria h g) = criteria_not (head_one refl r.head h).1 r.find g
query_not r (no.behind_criteria h c g) = suffixes_not refl (criteria_one (head_one refl r.head h).1 r.find c).1 r.suffixes g
