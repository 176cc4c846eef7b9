-- A query that a text spells is one that has a spelling.
use Rattle.std.proofs.Common.{◌≡◌, ◌≢◌, ℕ, zero, suc, ◌+◌, ◌<◌, Bool, true, false, cond, List, [], ◌∷◌, Some, None, refl, sym, subst, arith}
use Rattle.std.specs.Prelude.{IfSome}
use Rattle.std.proofs.lemmas.Bool.{false≢true}
use Rattle.std.proofs.lemmas.Option.{none-some, same_Some}
use Rattle.arti_aql_lex.specs.Lexed.{Lexed, finish, fault, token}
use Rattle.arti_aql_lex.specs.declared.token.TokenKind.{TokenKind}
use Rattle.arti_aql_lex.specs.declared.token.TokenKind.TheVariants.{Name, Words, Number}
use Rattle.arti_aql_parse.specs.Front.{tail, literal_of, literal_at}
use Rattle.arti_aql_parse.specs.Grammar.{Mark, ReadsText, ReadsTexts, last_text, more_texts, ReadsTest, ReadsTests, last_test, more_tests, ReadsKey, ReadsOperand, equals, compares, ReadsObject, no_member, some_members, ReadsMembers, last_member, more_members, ReadsMember, list, field, ReadsObjects, last_object, more_objects, ReadsOrder, ReadsNatural, ReadsTruth, ReadsName, ReadsSuffix, include, sort, offset, limit, distinct, ReadsSuffixes, no_more, one_more, ReadsHead, find, part, ReadsCriteria, no_criteria, criteria, most_levels}
use Rattle.arti_aql_parse.specs.Spellable.{IsShort, AreNames, FitsLiteral, FitTests, FitsOperand, Opens, FitsMember, FitMembers, FitObjects, HasSpelling, IsName}
use Rattle.arti_aql_parse.specs.Spelling.{Spells}
use Rattle.arti_aql_parse.specs.Tree.{PlainMember, Members, no_members, Objects, no_objects, PlainQuery}
use Rattle.arti_aql_parse.specs.Words.{is_null, number_of}
use Rattle.arti_aql_parse.specs.declared.query.Lit.{Lit}
use Rattle.arti_aql_parse.specs.declared.query.Lit.TheVariants as lit
use Rattle.arti_aql_parse.specs.declared.query.Test.{Test}
use Rattle.arti_aql_parse.specs.declared.query.Suffixes.{Suffixes}
use Rattle.arti_aql_parse.specs.declared.words.Suffix.{Suffix}
use Rattle.arti_aql_parse.proofs.SpelledTokens.{SoundToken, Sound, lexed_sound, sound_tail, sound_name, sound_natural}

null_fits : (t : Bool) (x : Lit) → cond t (Some lit.Null) None ≡ Some x → FitsLiteral x
null_fits true x h = subst FitsLiteral (same_Some lit.Null x h) tt
null_fits false x h = absurd (none-some x h)

literal_kind : (kind : TokenKind) (value : List ℕ) (x : Lit) → SoundToken kind value → literal_of kind value ≡ Some x → FitsLiteral x
literal_kind Words value x s h = subst FitsLiteral (same_Some (lit.Words value) x h) tt
literal_kind Number value x s h = subst FitsLiteral (same_Some (lit.Number (number_of value)) x h) (s.number refl)
literal_kind Name value x s h = null_fits (is_null value) x h
literal_kind _ value x s h = absurd (none-some x h)

literal_fits : (a : Lexed) (x : Lit) → Sound a → literal_at a ≡ Some x → FitsLiteral x
literal_fits (finish at) x s h = absurd (none-some x h)
literal_fits (fault f) x s h = absurd (none-some x h)
literal_fits (token b e kind value rest) x s h = literal_kind kind value x s.0 h

mark_sound : {k : TokenKind} {a b : Lexed} → Mark k a b → Sound a → Sound b
mark_sound {k} {a} m s = subst Sound (sym m.rest) (sound_tail a s)

text_sound : {a b : Lexed} {x : List ℕ} → ReadsText a x b → Sound a → Sound b
text_sound {a} t s = subst Sound (sym t.rest) (sound_tail a s)

texts_fit : {close : TokenKind} {a b : Lexed} {xs : List (List ℕ)} → ReadsTexts close a xs b → Sound a → (xs ≢ []) × Sound b
texts_fit (last_text t m) s = (λ e. cc, mark_sound m (text_sound t s))
texts_fit (more_texts t m r) s = (λ e. cc, (texts_fit r (mark_sound m (text_sound t s))).1)

test_fits : {a b : Lexed} {x : Test} → ReadsTest a x b → Sound a → FitsLiteral x.value × Sound b
test_fits {a} {b} {x} t s =
    let next = sound_tail (tail a) (sound_tail a s) in
    (literal_fits (tail (tail a)) x.value next t.literal, subst Sound (sym t.rest) (sound_tail (tail (tail a)) next))

tests_fit : {a b : Lexed} {xs : List Test} → ReadsTests a xs b → Sound a → (xs ≢ []) × FitTests xs × Sound b
tests_fit (last_test t m) s = let f = test_fits t s in (λ e. cc, (f.0, tt), mark_sound m f.1)
tests_fit (more_tests t m r) s = let f = test_fits t s in let g = tests_fit r (mark_sound m f.1) in (λ e. cc, (f.0, g.1), g.2)

operand_of : (xs : List Test) (n : ℕ) → xs ≢ [] → FitTests xs → 0 < n → FitsOperand xs n
operand_of [] n some fit left = absurd (some refl)
operand_of (t ∷ []) n some fit left = (fit.0, λ e. left)
operand_of (t ∷ u ∷ us) n some fit left = (fit, left)

operand_fits : {n : ℕ} {a b : Lexed} {xs : List Test} → ReadsOperand n a xs b → Sound a → FitsOperand xs n × Sound b
operand_fits {n} {a} (equals {x = x} other literal rest) s = ((literal_fits a x s literal, λ e. absurd (false≢true (sym e))), subst Sound (sym rest) (sound_tail a s))
operand_fits {n} {a} {b} {xs} (compares left m r) s = let f = tests_fit r (mark_sound m s) in (operand_of xs n f.0 f.1 left, f.2)

key_sound : {a b : Lexed} {key : List ℕ} → ReadsKey a key b → Sound a → Sound b
key_sound {a} k s = subst Sound (sym k.rest) (sound_tail (tail a) (sound_tail a s))

opens_at : (P : ℕ → Type 0) (n k : ℕ) → n ≡ k + 1 → P k → Opens n P
opens_at P zero k is x = absurd (omega (arith, is))
opens_at P (suc j) k is x = let same : k ≡ j = omega (arith, is) in subst P same x

opens_any : (n : ℕ) → 0 < n → Opens n (FitMembers no_members)
opens_any zero left = absurd (omega (arith, left))
opens_any (suc j) left = tt

mutual
  object_fits : {n : ℕ} {a b : Lexed} {ms : Members} → ReadsObject n a ms b → Sound a → Opens n (FitMembers ms) × Sound b
  object_fits {n} (no_member left m c) s = (opens_any n left, mark_sound c (mark_sound m s))
  object_fits {n} {a} {b} {ms} (some_members {m = k} is m r) s = let f = members_fit r (mark_sound m s) in (opens_at (FitMembers ms) n k is f.0, f.1)

  members_fit : {n : ℕ} {a b : Lexed} {ms : Members} → ReadsMembers n a ms b → Sound a → FitMembers ms n × Sound b
  members_fit (last_member x m) s = let f = member_fits x s in ((f.0, tt), mark_sound m f.1)
  members_fit (more_members x m r) s = let f = member_fits x s in let g = members_fit r (mark_sound m f.1) in ((f.0, g.0), g.1)

  member_fits : {n : ℕ} {a b : Lexed} {x : PlainMember} → ReadsMember n a x b → Sound a → FitsMember x n × Sound b
  member_fits {n} (list {m = k} {os = os} key join is m r) s = let f = objects_fit r (mark_sound m (key_sound key s)) in ((f.0, opens_at (FitObjects os) n k is f.1), f.2)
  member_fits (field key is r) s = let f = operand_fits r (key_sound key s) in ((is.other, f.0), f.1)

  objects_fit : {n : ℕ} {close : TokenKind} {a b : Lexed} {os : Objects} → ReadsObjects n close a os b → Sound a → (os ≢ no_objects) × FitObjects os n × Sound b
  objects_fit (last_object x m) s = let f = object_fits x s in (λ e. cc, (f.0, tt), mark_sound m f.1)
  objects_fit (more_objects x m r) s = let f = object_fits x s in let g = objects_fit r (mark_sound m f.1) in (λ e. cc, (f.0, g.1), g.2)

order_sound : {a b : Lexed} {x : Bool} → ReadsOrder a x b → Sound a → Sound b
order_sound {a} o s = subst Sound (sym o.rest) (sound_tail (tail (tail (tail a))) (sound_tail (tail (tail a)) (sound_tail (tail a) (sound_tail a s))))

natural_fits : {a b : Lexed} {n : ℕ} → ReadsNatural a n b → Sound a → IsShort n × Sound b
natural_fits {a} {b} {n} r s = (sound_natural a s r.here n r.value, subst Sound (sym r.rest) (sound_tail (tail a) (sound_tail a s)))

truth_sound : {a b : Lexed} {x : Bool} → ReadsTruth a x b → Sound a → Sound b
truth_sound {a} r s = subst Sound (sym r.rest) (sound_tail (tail a) (sound_tail a s))

suffix_name_sound : {given : Suffixes} {a b : Lexed} {x : Suffix} → ReadsName given a x b → Sound a → Sound b
suffix_name_sound {given} {a} r s = subst Sound (sym r.rest) (sound_tail (tail a) (sound_tail a s))

record FitSuffixes (x : Suffixes) : Type 0 where
  included : IfSome x.include (λ xs. xs ≢ [])
  sorted : IfSome x.sort (λ s. s.fields ≢ [])
  first : IfSome x.offset IsShort
  most : IfSome x.limit IsShort

suffix_fits : {given next : Suffixes} {a b : Lexed} → ReadsSuffix given a next b → Sound a → FitSuffixes given → FitSuffixes next × Sound b
suffix_fits (include n r) s f = let t = texts_fit r (suffix_name_sound n s) in (record { included = t.0; sorted = f.sorted; first = f.first; most = f.most }, t.1)
suffix_fits (sort n r) s f =
    let t = texts_fit r.texts (order_sound r.order (suffix_name_sound n s)) in
    (record { included = f.included; sorted = t.0; first = f.first; most = f.most }, mark_sound r.end (mark_sound r.end_brace t.1))
suffix_fits (offset n r) s f = let t = natural_fits r (suffix_name_sound n s) in (record { included = f.included; sorted = f.sorted; first = t.0; most = f.most }, t.1)
suffix_fits (limit n r) s f = let t = natural_fits r (suffix_name_sound n s) in (record { included = f.included; sorted = f.sorted; first = f.first; most = t.0 }, t.1)
suffix_fits (distinct n r) s f = (record { included = f.included; sorted = f.sorted; first = f.first; most = f.most }, truth_sound r (suffix_name_sound n s))

suffixes_fit : {given all : Suffixes} {a : Lexed} → ReadsSuffixes given a all → Sound a → FitSuffixes given → FitSuffixes all
suffixes_fit (no_more h) s f = f
suffixes_fit (one_more m r more) s f = let g = suffix_fits r (mark_sound m s) f in suffixes_fit more g.1 g.0

pub head_fits : {a b : Lexed} {names : List (List ℕ)} → ReadsHead a names b → Sound a → AreNames names × Sound b
head_fits {a} (find h n m) s = (tt, mark_sound m (sound_tail a s))
head_fits {a} (part h v m r) s = let f = head_fits r (mark_sound m (sound_tail a s)) in ((subst IsName (sym v) (sound_name a s h), f.0), f.1)

criteria_fit : {a b : Lexed} {os : Objects} → ReadsCriteria a os b → Sound a → FitObjects os most_levels × Sound b
criteria_fit (no_criteria m) s = (tt, mark_sound m s)
criteria_fit (criteria r) s = let f = objects_fit r s in (f.1, f.2)

pub spelled_fits : (text : List ℕ) (q : PlainQuery) → Spells text q → HasSpelling q
spelled_fits text q spells =
    let r = spells.reads in
    let h = head_fits r.head (lexed_sound text 0 0) in
    let c = criteria_fit r.find h.1 in
    let x = suffixes_fit r.suffixes c.1 (record { included = tt; sorted = tt; first = tt; most = tt }) in
    record {
      names = record { names = r.names; each = h.0; whole = r.domain };
      objects = c.0;
      included = x.included;
      sorted = x.sorted;
      first = x.first;
      most = x.most;
    }
