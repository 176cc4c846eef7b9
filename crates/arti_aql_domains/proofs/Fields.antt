-- Tests of one and the same property, field by field.
use Rattle.std.proofs.Common.{◌≡◌, List, ℕ, refl, ap, ◌∙◌}
use Rattle.std.specs.Prelude.{Option, Some, Result, Ok, Err}
use Rattle.arti_aql_parse.specs.Tree.{tests}
use Rattle.arti_aql_parse.specs.declared.query.Test.{Test}
use Rattle.arti_query_model.specs.declared.fields.Rel.{Rel}
use Rattle.arti_query_model.specs.declared.tests.PropKey.{PropKey}
use Rattle.arti_query_model.specs.declared.tests.PropTest.{PropTest}
use Rattle.arti_query_model.specs.declared.fault.TypeFault.{TypeFault}
use Rattle.arti_query_model.specs.Outcome.{◌>>=◌, each}
use Rattle.arti_query_model.specs.Paths.{Target, target}
use Rattle.arti_query_model.specs.Typing.{Begin, SameTests, same_key, same_test, same_member}

abbrev after_key : Begin → List ℕ → List Test → List Rel → Result PropKey TypeFault → Result SameTests TypeFault
after_key b path ts rels r = do
  key ← r
  typed ← each (same_test b.now path key) ts
  Ok (record { path = Some rels; tests = typed })

abbrev after_target : Begin → Option (List Rel) → List ℕ → List Test → Result Target TypeFault → Result SameTests TypeFault
after_target b before path ts r = r >>= λ goal. after_key b path ts goal.path (same_key before goal.path goal.what)

abbrev after_tests : List Rel → Result (List PropTest) TypeFault → Result SameTests TypeFault
after_tests rels r = r >>= λ typed. Ok (record { path = Some rels; tests = typed })

opened : (b : Begin) (before : Option (List Rel)) (path : List ℕ) (ts : List Test) → same_member b before (tests path ts) ≡ after_target b before path ts (target b.root path)
unfolding same_member
opened b before path ts = refl

pub no_target : (b : Begin) (before : Option (List Rel)) (path : List ℕ) (ts : List Test) (f : TypeFault)
    → target b.root path ≡ Err f → same_member b before (tests path ts) ≡ Err f
no_target b before path ts f h = opened b before path ts ∙ ap (after_target b before path ts) h

pub no_key : (b : Begin) (before : Option (List Rel)) (path : List ℕ) (ts : List Test) (goal : Target) (f : TypeFault)
    → target b.root path ≡ Ok goal → same_key before goal.path goal.what ≡ Err f → same_member b before (tests path ts) ≡ Err f
no_key b before path ts goal f h k = opened b before path ts ∙ ap (after_target b before path ts) h ∙ ap (after_key b path ts goal.path) k

pub no_tests : (b : Begin) (before : Option (List Rel)) (path : List ℕ) (ts : List Test) (goal : Target) (key : PropKey) (f : TypeFault)
    → target b.root path ≡ Ok goal → same_key before goal.path goal.what ≡ Ok key → each (same_test b.now path key) ts ≡ Err f → same_member b before (tests path ts) ≡ Err f
no_tests b before path ts goal key f h k t =
    opened b before path ts ∙ ap (after_target b before path ts) h ∙ ap (after_key b path ts goal.path) k ∙ ap (after_tests goal.path) t

pub field_tests : (b : Begin) (before : Option (List Rel)) (path : List ℕ) (ts : List Test) (goal : Target) (key : PropKey) (typed : List PropTest)
    → target b.root path ≡ Ok goal → same_key before goal.path goal.what ≡ Ok key → each (same_test b.now path key) ts ≡ Ok typed
    → same_member b before (tests path ts) ≡ Ok (record { path = Some goal.path; tests = typed })
field_tests b before path ts goal key typed h k t =
    opened b before path ts ∙ ap (after_target b before path ts) h ∙ ap (after_key b path ts goal.path) k ∙ ap (after_tests goal.path) t
