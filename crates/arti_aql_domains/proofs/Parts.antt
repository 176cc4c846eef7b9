-- Criteria as lists of their parts.
use Rattle.std.proofs.Common.{◌≡◌, List, [], ◌∷◌, refl, ap, ◌∙◌}
use Rattle.std.specs.Prelude.{Result, Ok, Err}
use Rattle.arti_aql_parse.specs.declared.query.Member.{Member}
use Rattle.arti_aql_parse.specs.declared.query.Object.{Object}
use Rattle.arti_aql_parse.specs.View.{object_view, members_view, objects_view}
use Rattle.arti_query_model.specs.declared.fields.Rel.{Rel}
use Rattle.arti_query_model.specs.declared.fault.TypeFault.{TypeFault}
use Rattle.arti_query_model.specs.Outcome.{◌>>=◌, each}
use Rattle.arti_query_model.specs.Criteria.{every, Conds, part}
use Rattle.arti_query_model.specs.World.{RowTest, Criterion}
use Rattle.arti_query_model.specs.Typing.{Begin, conds_of, typed_members, typed_objects}
use Rattle.arti_aql_domains.specs.Listed.{of_member, of_object}

abbrev parts_of : Result (List Criterion) TypeFault → Result (Conds Rel RowTest) TypeFault
parts_of r = r >>= λ cs. Ok (conds_of cs)

one_more : (first : Result Criterion TypeFault) (rest : Result (Conds Rel RowTest) TypeFault) (all : Result (List Criterion) TypeFault)
    → rest ≡ parts_of all → (first >>= λ c. rest >>= λ cs. Ok (part c cs)) ≡ parts_of (first >>= λ c. all >>= λ cs. Ok (c ∷ cs))
one_more (Err e) rest all is = refl
one_more (Ok c) rest (Err e) is = ap (λ r. r >>= λ cs. Ok (part c cs)) is
one_more (Ok c) rest (Ok cs) is = ap (λ r. r >>= λ cs. Ok (part c cs)) is

pub members_each : (b : Begin) (ms : List Member) → typed_members b (members_view ms) ≡ parts_of (each (of_member b) ms)
members_each b [] = refl
members_each b (m ∷ ms) = one_more (of_member b m) (typed_members b (members_view ms)) (each (of_member b) ms) (members_each b ms)

one_object : (first : Result (Conds Rel RowTest) TypeFault) (rest : Result (Conds Rel RowTest) TypeFault)
    → (first >>= λ c. rest >>= λ cs. Ok (part (every c) cs)) ≡ ((first >>= λ c. Ok (every c)) >>= λ c. rest >>= λ cs. Ok (part c cs))
one_object (Err e) rest = refl
one_object (Ok c) rest = refl

pub objects_each : (b : Begin) (os : List Object) → typed_objects b (objects_view os) ≡ parts_of (each (of_object b) os)
objects_each b [] = refl
objects_each b (o ∷ os) =
    one_object (typed_members b (object_view o)) (typed_objects b (objects_view os))
    ∙ one_more (of_object b o) (typed_objects b (objects_view os)) (each (of_object b) os) (objects_each b os)

pub members_given : (b : Begin) (ms : List Member) (cs : List Criterion) → each (of_member b) ms ≡ Ok cs → typed_members b (members_view ms) ≡ Ok (conds_of cs)
members_given b ms cs h = members_each b ms ∙ ap parts_of h

pub members_refused : (b : Begin) (ms : List Member) (f : TypeFault) → each (of_member b) ms ≡ Err f → typed_members b (members_view ms) ≡ Err f
members_refused b ms f h = members_each b ms ∙ ap parts_of h

pub objects_given : (b : Begin) (os : List Object) (cs : List Criterion) → each (of_object b) os ≡ Ok cs → typed_objects b (objects_view os) ≡ Ok (conds_of cs)
objects_given b os cs h = objects_each b os ∙ ap parts_of h

pub objects_refused : (b : Begin) (os : List Object) (f : TypeFault) → each (of_object b) os ≡ Err f → typed_objects b (objects_view os) ≡ Err f
objects_refused b os f h = objects_each b os ∙ ap parts_of h
