-- Rows of members and of objects, as lists.
use Rattle.std.proofs.Common.{ℕ, List, ◌<◌, ◌≤◌, refl, ap, arith}
use Rattle.arti_aql_lex.specs.Lexed.{Lexed}
use Rattle.arti_aql_lex.specs.declared.token.TokenKind.{TokenKind}
use Rattle.arti_aql_lex.specs.declared.token.TokenKind.TheVariants.{Words, ObjectOpen}
use Rattle.arti_aql_parse.specs.Front.{tail}
use Rattle.arti_aql_parse.specs.Grammar.{Mark, ReadsKey, ReadsTest, ReadsTests, last_test, more_tests, ReadsOperand, equals, compares, ReadsObject, no_member, some_members, ReadsMembers, last_member, more_members, ReadsMember, list, field, ReadsObjects, last_object, more_objects}
use Rattle.arti_aql_parse.proofs.RowSteps.{size, tail_le, front_smaller}
use Rattle.arti_aql_parse.specs.Tree.{PlainMember, Members, Objects}
use Rattle.arti_aql_parse.specs.View.{members_of, objects_of}
use Rattle.arti_aql_parse.specs.declared.query.Test.{Test}

abbrev pub ReadsMemberRow : ℕ → Lexed → List PlainMember → Lexed → Type 0
ReadsMemberRow left a xs b = ReadsMembers left a (members_of xs) b

abbrev pub ReadsObjectRow : ℕ → TokenKind → Lexed → List Members → Lexed → Type 0
ReadsObjectRow left close a xs b = ReadsObjects left close a (objects_of xs) b

pub mark_le : {kind : TokenKind} {a b : Lexed} → Mark kind a b → size b ≤ size a
mark_le {kind} {a} {b} m = omega (arith, ap size m.rest, tail_le a)

test_le : {a b : Lexed} {x : Test} → ReadsTest a x b → size b ≤ size a
test_le {a} {b} {x} t = omega (arith, ap size t.rest, tail_le a, tail_le (tail a), tail_le (tail (tail a)))

tests_le : {a b : Lexed} {xs : List Test} → ReadsTests a xs b → size b ≤ size a
tests_le (last_test t m) = omega (arith, test_le t, mark_le m)
tests_le (more_tests t m r) = omega (arith, test_le t, mark_le m, tests_le r)

operand_le : {n : ℕ} {a b : Lexed} {xs : List Test} → ReadsOperand n a xs b → size b ≤ size a
operand_le {n} {a} (equals other literal rest) = omega (arith, ap size rest, tail_le a)
operand_le (compares some m r) = omega (arith, mark_le m, tests_le r)

key_smaller : {a b : Lexed} {key : List ℕ} → ReadsKey a key b → size b < size a
key_smaller {a} {b} {key} k = omega (arith, ap size k.rest, front_smaller Words a refl k.here, tail_le (tail a))

mutual
  pub object_smaller : {n : ℕ} {a b : Lexed} {ms : Members} → ReadsObject n a ms b → size b < size a
  object_smaller {n} {a} (no_member some m c) = omega (arith, ap size m.rest, front_smaller ObjectOpen a refl m.here, mark_le c)
  object_smaller {n} {a} (some_members is m r) = omega (arith, ap size m.rest, front_smaller ObjectOpen a refl m.here, members_smaller r)

  pub members_smaller : {n : ℕ} {a b : Lexed} {ms : Members} → ReadsMembers n a ms b → size b < size a
  members_smaller (last_member x m) = omega (arith, member_smaller x, mark_le m)
  members_smaller (more_members x m r) = omega (arith, member_smaller x, mark_le m, members_smaller r)

  pub member_smaller : {n : ℕ} {a b : Lexed} {x : PlainMember} → ReadsMember n a x b → size b < size a
  member_smaller (list k join is m r) = omega (arith, key_smaller k, mark_le m, objects_smaller r)
  member_smaller (field k is r) = omega (arith, key_smaller k, operand_le r)

  pub objects_smaller : {n : ℕ} {close : TokenKind} {a b : Lexed} {os : Objects} → ReadsObjects n close a os b → size b < size a
  objects_smaller (last_object x m) = omega (arith, object_smaller x, mark_le m)
  objects_smaller (more_objects x m r) = omega (arith, object_smaller x, mark_le m, objects_smaller r)
