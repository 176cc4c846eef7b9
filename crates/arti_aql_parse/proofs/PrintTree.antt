-- Printed objects, members and lists of objects are read as what they print.
use Rattle.std.proofs.Common.{◌≡◌, ◌≢◌, ℕ, zero, suc, ◌+◌, false, List, [], ◌∷◌, ◌++◌, Some, refl, sym, ap, ◌∙◌, subst, arith, append_assoc}
use Rattle.std.specs.Prelude.{◌==◌}
use Rattle.std.proofs.lemmas.Bool.Decides.{nat_tests}
use Rattle.json.specs.Print.{quoted}
use Rattle.arti_aql_lex.specs.Lexed.{lexed}
use Rattle.arti_aql_lex.specs.Tokens.{is_name_byte}
use Rattle.arti_aql_lex.specs.declared.token.TokenKind.{TokenKind}
use Rattle.arti_aql_lex.specs.declared.token.TokenKind.TheVariants.{ListClose}
use Rattle.arti_aql_parse.specs.Grammar as grammar
use Rattle.arti_aql_parse.specs.Grammar.{IsField, ReadsObject, ReadsMembers, ReadsMember, ReadsObjects}
use Rattle.arti_aql_parse.specs.Print.{group_name, row, operand_text, member_text, member_texts, object_text, object_texts}
use Rattle.arti_aql_parse.specs.Spellable.{Opens, FitsMember, FitMembers, FitObjects}
use Rattle.arti_aql_parse.specs.Tree.{PlainMember, tests, group, Members, no_members, member, Objects, no_objects, object}
use Rattle.arti_aql_parse.specs.Words.{group_of, begins_with_dollar}
use Rattle.arti_aql_parse.specs.declared.words.Group.{Group}
use Rattle.arti_aql_parse.specs.declared.words.Group.TheVariants.{All, Any, Same}
use Rattle.arti_aql_parse.proofs.PrintTokens.{brace_begins, brace_end_begins, bracket_begins, bracket_end_begins, comma_begins}
use Rattle.arti_aql_parse.proofs.PrintParts.{mark_of_begins, Closes, key_reads, operand_reads}

group_known : (join : Group) → group_of (group_name join) ≡ Some join
unfolding group_of group_name
group_known All = refl
group_known Any = refl
group_known Same = refl

first_byte : (k : ℕ) (ks : List ℕ) → begins_with_dollar (k ∷ ks) ≡ false → (k == 36) ≡ false
first_byte k ks h = grind (arith, nat_tests, h)

-- a text that doesn't begin with `$` may stand for a field
field_fits : (key : List ℕ) → begins_with_dollar key ≡ false → IsField key
unfolding group_of
field_fits [] h = record { plain = refl; other = h }
field_fits (k ∷ ks) h = record { plain = rw (first_byte k ks h) refl; other = h }

-- an object, whose members are read so
object_from : (ms : Members) → ((n p : ℕ) (rest : List ℕ) → ms ≢ no_members → FitMembers ms n → (e : ℕ) × ReadsMembers n (lexed p 0 (row (member_texts ms n) ++ 125 ∷ rest)) ms (lexed e 0 rest))
    → (n p : ℕ) (rest : List ℕ) → Opens n (FitMembers ms) → (e : ℕ) × ReadsObject n (lexed p 0 (object_text ms n ++ rest)) ms (lexed e 0 rest)
object_from ms members zero p rest fits = absurd fits
object_from no_members members (suc n) p rest fits =
    let m = brace_begins p (125 ∷ rest) in
    let c = brace_end_begins m.1.end rest in
    (c.1.end, grammar.no_member (omega arith) (mark_of_begins m.1) (mark_of_begins c.1))
object_from (member x ms) members (suc n) p rest fits =
    let inside = row (member_texts (member x ms) n) in
    let m = brace_begins p (inside ++ 125 ∷ rest) in
    let r = members n m.1.end rest (λ e. cc) fits in
    let less : suc n ≡ n + 1 = omega arith in
    (r.0, subst (λ s. ReadsObject (suc n) (lexed p 0 (123 ∷ s)) (member x ms) (lexed r.0 0 rest)) (sym (append_assoc inside (125 ∷ []) rest)) (grammar.some_members less (mark_of_begins m.1) r.1))

-- a list of objects behind its key
group_from : (join : Group) (os : Objects) → ((n p : ℕ) (rest : List ℕ) → os ≢ no_objects → FitObjects os n → (e : ℕ) × ReadsObjects n ListClose (lexed p 0 (row (object_texts os n) ++ 93 ∷ rest)) os (lexed e 0 rest))
    → (n p : ℕ) (rest : List ℕ) → os ≢ no_objects → Opens n (FitObjects os) → (e : ℕ) × ReadsMember n (lexed p 0 (member_text (group join os) n ++ rest)) (group join os) (lexed e 0 rest)
group_from join os objects zero p rest some fits = absurd fits
group_from join os objects (suc n) p rest some fits =
    let inside = row (object_texts os n) in
    let more = inside ++ 93 ∷ rest in
    let k = key_reads (group_name join) p (91 ∷ more) in
    let m = bracket_begins k.0 more in
    let r = objects n m.1.end rest some fits in
    let less : suc n ≡ n + 1 = omega arith in
    let whole : (quoted (group_name join) ++ 58 ∷ 91 ∷ (inside ++ 93 ∷ [])) ++ rest ≡ quoted (group_name join) ++ 58 ∷ 91 ∷ more =
    append_assoc (quoted (group_name join)) (58 ∷ 91 ∷ (inside ++ 93 ∷ [])) rest ∙ ap (λ s. quoted (group_name join) ++ 58 ∷ 91 ∷ s) (append_assoc inside (93 ∷ []) rest) in
    (r.0, subst (λ s. ReadsMember (suc n) (lexed p 0 s) (group join os) (lexed r.0 0 rest)) (sym whole) (grammar.list k.1 (group_known join) less (mark_of_begins m.1) r.1))

mutual
  member_reads : (x : PlainMember) (n p b : ℕ) (rest : List ℕ) → is_name_byte b ≡ false → FitsMember x n → (e : ℕ) × ReadsMember n (lexed p 0 (member_text x n ++ b ∷ rest)) x (lexed e 0 (b ∷ rest))
  member_reads (tests key ts) n p b rest stop fits =
      let k = key_reads key p (operand_text ts ++ b ∷ rest) in
      let r = operand_reads ts n fits.1 k.0 b rest stop in
      (r.0, subst (λ s. ReadsMember n (lexed p 0 s) (tests key ts) (lexed r.0 0 (b ∷ rest))) (sym (append_assoc (quoted key) (58 ∷ operand_text ts) (b ∷ rest))) (grammar.field k.1 (field_fits key fits.0) r.1))
  member_reads (group join os) n p b rest stop fits = group_from join os (λ m q more. objects_read os m ListClose 93 bracket_end_begins q more) n p (b ∷ rest) fits.0 fits.1

  members_read : (ms : Members) (n p : ℕ) (rest : List ℕ) → ms ≢ no_members → FitMembers ms n → (e : ℕ) × ReadsMembers n (lexed p 0 (row (member_texts ms n) ++ 125 ∷ rest)) ms (lexed e 0 rest)
  members_read no_members n p rest some fit = absurd (some refl)
  members_read (member x no_members) n p rest some fit =
      let r = member_reads x n p 125 rest refl fit.0 in
      let m = brace_end_begins r.0 rest in
      (m.1.end, grammar.last_member r.1 (mark_of_begins m.1))
  members_read (member x (member y ms)) n p rest some fit =
      let later = row (member_texts (member y ms) n) in
      let r = member_reads x n p 44 (later ++ 125 ∷ rest) refl fit.0 in
      let m = comma_begins r.0 (later ++ 125 ∷ rest) in
      let q = members_read (member y ms) n m.1.end rest (λ e. cc) fit.1 in
      (q.0, subst (λ s. ReadsMembers n (lexed p 0 s) (member x (member y ms)) (lexed q.0 0 rest)) (sym (append_assoc (member_text x n) (44 ∷ later) (125 ∷ rest))) (grammar.more_members r.1 (mark_of_begins m.1) q.1))

  pub objects_read : (os : Objects) (n : ℕ) (closing : TokenKind) (c : ℕ) → Closes closing c → (p : ℕ) (rest : List ℕ) → os ≢ no_objects → FitObjects os n → (e : ℕ) × ReadsObjects n closing (lexed p 0 (row (object_texts os n) ++ c ∷ rest)) os (lexed e 0 rest)
  objects_read no_objects n closing c closes p rest some fit = absurd (some refl)
  objects_read (object o no_objects) n closing c closes p rest some fit =
      let r = object_from o (members_read o) n p (c ∷ rest) fit.0 in
      let m = closes r.0 rest in
      (m.1.end, grammar.last_object r.1 (mark_of_begins m.1))
  objects_read (object o (object u os)) n closing c closes p rest some fit =
      let later = row (object_texts (object u os) n) in
      let r = object_from o (members_read o) n p (44 ∷ (later ++ c ∷ rest)) fit.0 in
      let m = comma_begins r.0 (later ++ c ∷ rest) in
      let q = objects_read (object u os) n closing c closes m.1.end rest (λ e. cc) fit.1 in
      (q.0, subst (λ s. ReadsObjects n closing (lexed p 0 s) (object o (object u os)) (lexed q.0 0 rest)) (sym (append_assoc (object_text o n) (44 ∷ later) (c ∷ rest))) (grammar.more_objects r.1 (mark_of_begins m.1) q.1))
