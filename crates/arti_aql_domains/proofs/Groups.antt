-- Members and objects, by what stands in them.
use Rattle.std.proofs.Common.{◌≡◌, List, map, Vec, Global, rules, refl, sym, ap, ◌∙◌}
use Rattle.std.specs.Prelude.{Option, Result, Ok, Err}
use Rattle.arti_aql_parse.specs.Tree.{group, Objects}
use Rattle.arti_aql_parse.specs.View.{member_view, object_view, members_view, objects_view}
use Rattle.arti_aql_parse.specs.declared.query.Member as in_query
use Rattle.arti_aql_parse.specs.declared.query.Member.{Member}
use Rattle.arti_aql_parse.specs.declared.query.Object.{Object}
use Rattle.arti_aql_parse.specs.declared.words.Group.{Group}
use Rattle.arti_aql_parse.specs.declared.words.Group.TheVariants as join
use Rattle.arti_query_model.specs.declared.fault.TypeFault.{TypeFault}
use Rattle.arti_query_model.specs.declared.fault.TypeFault.TheVariants.{WrongOperator}
use Rattle.arti_query_model.specs.Outcome.{◌>>=◌, each}
use Rattle.arti_query_model.specs.Criteria.{every, some, Conds}
use Rattle.arti_query_model.specs.declared.fields.Rel.{Rel}
use Rattle.arti_query_model.specs.World.{RowTest, Criterion}
use Rattle.arti_query_model.specs.Typing.{Begin, msp, same_member, typed_member, typed_members, typed_objects, typed_criteria}
use Rattle.arti_aql_domains.specs.declared.cond.Cond as typed
use Rattle.arti_aql_domains.specs.declared.cond.Cond.{Cond}
use Rattle.arti_aql_domains.specs.Conditions.{cond_view, conds_view}
use Rattle.arti_aql_domains.specs.Listed.{of_member, of_object}
use Rattle.arti_aql_domains.proofs.Parts.{members_given, members_refused, objects_given, objects_refused}

view-All : (v : Vec Object Global) → member_view (in_query.All v) ≡ group join.All (objects_view v.items)
view-All v = search (rules, in_query.the_lemmas)

view-Any : (v : Vec Object Global) → member_view (in_query.Any v) ≡ group join.Any (objects_view v.items)
view-Any v = search (rules, in_query.the_lemmas)

pub view-Object : (o : Object) → object_view o ≡ members_view o.members.items
view-Object o = search (rules, in_query.the_lemmas)

cond-All : (v : Vec Cond Global) → cond_view (typed.All v) ≡ every (conds_view v.items)
cond-All v = search (rules, typed.the_lemmas)

cond-Any : (v : Vec Cond Global) → cond_view (typed.Any v) ≡ some (conds_view v.items)
cond-Any v = search (rules, typed.the_lemmas)

view-Same : (v : Vec Object Global) → member_view (in_query.Same v) ≡ group join.Same (objects_view v.items)
view-Same v = search (rules, in_query.the_lemmas)

-- a group is no test of a property
no_group : (b : Begin) (before : Option (List Rel)) (g : Group) (os : Objects) → same_member b before (group g os) ≡ Err (WrongOperator msp)
unfolding same_member
no_group b before g os = refl

pub not_all : (b : Begin) (before : Option (List Rel)) (m : Member) (v : Vec Object Global) → m ≡ in_query.All v → same_member b before (member_view m) ≡ Err (WrongOperator msp)
not_all b before m v is = ap (λ k. same_member b before k) (ap member_view is ∙ view-All v) ∙ no_group b before join.All (objects_view v.items)

pub not_any : (b : Begin) (before : Option (List Rel)) (m : Member) (v : Vec Object Global) → m ≡ in_query.Any v → same_member b before (member_view m) ≡ Err (WrongOperator msp)
not_any b before m v is = ap (λ k. same_member b before k) (ap member_view is ∙ view-Any v) ∙ no_group b before join.Any (objects_view v.items)

pub not_same : (b : Begin) (before : Option (List Rel)) (m : Member) (v : Vec Object Global) → m ≡ in_query.Same v → same_member b before (member_view m) ≡ Err (WrongOperator msp)
not_same b before m v is = ap (λ k. same_member b before k) (ap member_view is ∙ view-Same v) ∙ no_group b before join.Same (objects_view v.items)

-- ---- criteria

abbrev every_of : Result (Conds Rel RowTest) TypeFault → Result Criterion TypeFault
every_of r = r >>= λ parts. Ok (every parts)

abbrev some_of : Result (Conds Rel RowTest) TypeFault → Result Criterion TypeFault
some_of r = r >>= λ parts. Ok (some parts)

pub all_given : (b : Begin) (m : Member) (v : Vec Object Global) (os : List Object) (parts : Vec Cond Global) → m ≡ in_query.All v → os ≡ v.items
    → each (of_object b) os ≡ Ok (map cond_view parts.items) → of_member b m ≡ Ok (cond_view (typed.All parts))
all_given b m v os parts is same h =
    ap (of_member b) is ∙ ap (typed_member b) (view-All v) ∙ ap (λ l. every_of (typed_objects b (objects_view l))) (sym same)
    ∙ ap every_of (objects_given b os (map cond_view parts.items) h) ∙ ap Ok (sym (cond-All parts))

pub all_refused : (b : Begin) (m : Member) (v : Vec Object Global) (os : List Object) (f : TypeFault) → m ≡ in_query.All v → os ≡ v.items
    → each (of_object b) os ≡ Err f → of_member b m ≡ Err f
all_refused b m v os f is same h =
    ap (of_member b) is ∙ ap (typed_member b) (view-All v) ∙ ap (λ l. every_of (typed_objects b (objects_view l))) (sym same) ∙ ap every_of (objects_refused b os f h)

pub any_given : (b : Begin) (m : Member) (v : Vec Object Global) (os : List Object) (parts : Vec Cond Global) → m ≡ in_query.Any v → os ≡ v.items
    → each (of_object b) os ≡ Ok (map cond_view parts.items) → of_member b m ≡ Ok (cond_view (typed.Any parts))
any_given b m v os parts is same h =
    ap (of_member b) is ∙ ap (typed_member b) (view-Any v) ∙ ap (λ l. some_of (typed_objects b (objects_view l))) (sym same)
    ∙ ap some_of (objects_given b os (map cond_view parts.items) h) ∙ ap Ok (sym (cond-Any parts))

pub any_refused : (b : Begin) (m : Member) (v : Vec Object Global) (os : List Object) (f : TypeFault) → m ≡ in_query.Any v → os ≡ v.items
    → each (of_object b) os ≡ Err f → of_member b m ≡ Err f
any_refused b m v os f is same h =
    ap (of_member b) is ∙ ap (typed_member b) (view-Any v) ∙ ap (λ l. some_of (typed_objects b (objects_view l))) (sym same) ∙ ap some_of (objects_refused b os f h)

pub object_given : (b : Begin) (o : Object) (ms : List Member) (parts : Vec Cond Global) → ms ≡ o.members.items
    → each (of_member b) ms ≡ Ok (map cond_view parts.items) → of_object b o ≡ Ok (cond_view (typed.All parts))
object_given b o ms parts same h =
    ap (λ l. every_of (typed_members b l)) (view-Object o) ∙ ap (λ l. every_of (typed_members b (members_view l))) (sym same)
    ∙ ap every_of (members_given b ms (map cond_view parts.items) h) ∙ ap Ok (sym (cond-All parts))

pub object_refused : (b : Begin) (o : Object) (ms : List Member) (f : TypeFault) → ms ≡ o.members.items
    → each (of_member b) ms ≡ Err f → of_object b o ≡ Err f
object_refused b o ms f same h =
    ap (λ l. every_of (typed_members b l)) (view-Object o) ∙ ap (λ l. every_of (typed_members b (members_view l))) (sym same) ∙ ap every_of (members_refused b ms f h)

pub criteria_given : (b : Begin) (os : List Object) (parts : Vec Cond Global) → each (of_object b) os ≡ Ok (map cond_view parts.items)
    → typed_criteria b (objects_view os) ≡ Ok (cond_view (typed.All parts))
unfolding typed_criteria
criteria_given b os parts h = ap every_of (objects_given b os (map cond_view parts.items) h) ∙ ap Ok (sym (cond-All parts))

pub criteria_refused : (b : Begin) (os : List Object) (f : TypeFault) → each (of_object b) os ≡ Err f → typed_criteria b (objects_view os) ≡ Err f
unfolding typed_criteria
criteria_refused b os f h = ap every_of (objects_refused b os f h)
