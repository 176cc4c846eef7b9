-- Tests of one and the same property, behind those that were found.
use Rattle.std.proofs.Common.{◌≡◌, ℕ, ◌+◌, ◌<◌, ◌≤◌, List, [], ◌∷◌, ◌++◌, length, get_or, drop, Vec, Global, refl, sym, ap, ◌∙◌, append_assoc, append-nil}
use Rattle.std.specs.Prelude.{Option, None, Result, Ok, Err}
use Rattle.std.specs.Option.{unwrap_or}
use Rattle.std.proofs.lemmas.List.{at_drop_all}
use Rattle.arti_aql_parse.specs.Tree.{PlainMember}
use Rattle.arti_aql_parse.specs.View.{member_view, members_view, objects_view}
use Rattle.arti_aql_parse.specs.declared.query.Member.{Member}
use Rattle.arti_aql_parse.specs.declared.query.Object.{Object}
use Rattle.arti_query_model.specs.declared.fields.Rel.{Rel}
use Rattle.arti_query_model.specs.declared.tests.PropTest.{PropTest}
use Rattle.arti_query_model.specs.declared.fault.TypeFault.{TypeFault}
use Rattle.arti_query_model.specs.Outcome.{◌>>=◌}
use Rattle.arti_query_model.specs.Criteria.{leaf}
use Rattle.arti_query_model.specs.World.{same, Criterion}
use Rattle.arti_query_model.specs.Typing.{Begin, SameTests, members_with, members_in, same_member, same_tests, same_of}
use Rattle.arti_aql_domains.specs.declared.same.Found.{Found}
use Rattle.arti_aql_domains.specs.Behind.{behind_tests, found_view, told}
use Rattle.arti_aql_domains.proofs.Next.{next}
use Rattle.arti_aql_domains.proofs.Groups.{view-Object}

-- the tests of a member, then those of the members behind it
abbrev and_then : Begin → List PlainMember → Result SameTests TypeFault → Result SameTests TypeFault
and_then b ms r = do
  first ← r
  rest ← same_tests b first.path ms
  Ok (record { path = rest.path; tests = first.tests ++ rest.tests })

opened : (b : Begin) (before : Option (List Rel)) (m : PlainMember) (ms : List PlainMember) → same_tests b before (m ∷ ms) ≡ and_then b ms (same_member b before m)
unfolding same_tests
opened b before m ms = refl

further : (front more : List PropTest) (r : Result SameTests TypeFault) → behind_tests front (behind_tests more r) ≡ behind_tests (front ++ more) r
further front more (Ok s) = ap (λ (ts : List PropTest). Ok (record { path = s.path; tests = ts })) (sym (append_assoc front more s.tests))
further front more (Err f) = refl

member_more : (b : Begin) (found more : Found) (m : PlainMember) (ms : List PlainMember) → same_member b found.path m ≡ Ok (found_view more)
    → told b found (m ∷ ms) ≡ behind_tests (found.tests.items ++ more.tests.items) (same_tests b more.path ms)
member_more b found more m ms h =
    ap (behind_tests found.tests.items) (opened b found.path m ms ∙ ap (and_then b ms) h) ∙ further found.tests.items more.tests.items (same_tests b more.path ms)

member_stops : (b : Begin) (found : Found) (m : PlainMember) (ms : List PlainMember) (f : TypeFault) → same_member b found.path m ≡ Err f → told b found (m ∷ ms) ≡ Err f
member_stops b found m ms f h = ap (behind_tests found.tests.items) (opened b found.path m ms ∙ ap (and_then b ms) h)

-- ---- the members of an object

-- what these members give behind what was found, and then others
abbrev pub told_with : Begin → Found → List Member → List PlainMember → Result SameTests TypeFault
told_with b found ms rest = told b found (members_with (members_view ms) rest)

pub member_pushed : (b : Begin) (ms : List Member) (i : ℕ) (x : Member) (start found more : Found) (all : Vec PropTest Global)
    → i < length ms → x ≡ get_or ms i x → same_member b found.path (member_view x) ≡ Ok (found_view more) → all.items ≡ found.tests.items ++ more.tests.items
    → ((rest : List PlainMember) → told_with b start ms rest ≡ told_with b found (drop i ms) rest)
    → (rest : List PlainMember) → told_with b start ms rest ≡ told_with b (record { path = more.path; tests = all }) (drop (i + 1) ms) rest
member_pushed b ms i x start found more all lt is gives joined so rest =
    so rest ∙ ap (λ l. told_with b found l rest) (next ms i x lt is)
    ∙ member_more b found more (member_view x) (members_with (members_view (drop (i + 1) ms)) rest) gives
    ∙ ap (λ ts. behind_tests ts (same_tests b more.path (members_with (members_view (drop (i + 1) ms)) rest))) (sym joined)

pub member_refused : (b : Begin) (ms : List Member) (i : ℕ) (x : Member) (start found : Found) (f : TypeFault)
    → i < length ms → x ≡ get_or ms i x → same_member b found.path (member_view x) ≡ Err f
    → ((rest : List PlainMember) → told_with b start ms rest ≡ told_with b found (drop i ms) rest)
    → (rest : List PlainMember) → told_with b start ms rest ≡ Err f
member_refused b ms i x start found f lt is refused so rest =
    so rest ∙ ap (λ l. told_with b found l rest) (next ms i x lt is) ∙ member_stops b found (member_view x) (members_with (members_view (drop (i + 1) ms)) rest) f refused

-- ---- objects

abbrev same_from : Result SameTests TypeFault → Result Criterion TypeFault
same_from r = r >>= λ found. Ok (leaf (unwrap_or found.path []) (same found.tests))

-- the members of an object, then those of the objects behind it
object_first : (b : Begin) (found : Found) (os : List Object) (i : ℕ) (o : Object) (ms : List Member)
    → i < length os → o ≡ get_or os i o → ms ≡ o.members.items
    → told b found (members_in (objects_view (drop i os))) ≡ told_with b found ms (members_in (objects_view (drop (i + 1) os)))
object_first b found os i o ms lt is alike =
    ap (λ l. told b found (members_in (objects_view l))) (next os i o lt is)
    ∙ ap (λ k. told b found (members_with k (members_in (objects_view (drop (i + 1) os))))) (view-Object o ∙ ap members_view (sym alike))

pub object_pushed : (b : Begin) (os : List Object) (i : ℕ) (o : Object) (ms : List Member) (found more : Found)
    → i < length os → o ≡ get_or os i o → ms ≡ o.members.items
    → ((rest : List PlainMember) → told_with b found ms rest ≡ told b more rest)
    → same_tests b None (members_in (objects_view os)) ≡ told b found (members_in (objects_view (drop i os)))
    → same_tests b None (members_in (objects_view os)) ≡ told b more (members_in (objects_view (drop (i + 1) os)))
object_pushed b os i o ms found more lt is alike gives so =
    so ∙ object_first b found os i o ms lt is alike ∙ gives (members_in (objects_view (drop (i + 1) os)))

pub object_refused : (b : Begin) (os : List Object) (i : ℕ) (o : Object) (ms : List Member) (found : Found) (f : TypeFault)
    → i < length os → o ≡ get_or os i o → ms ≡ o.members.items
    → ((rest : List PlainMember) → told_with b found ms rest ≡ Err f)
    → same_tests b None (members_in (objects_view os)) ≡ told b found (members_in (objects_view (drop i os)))
    → same_of b (objects_view os) ≡ Err f
unfolding same_of
object_refused b os i o ms found f lt is alike refused so =
    ap same_from (so ∙ object_first b found os i o ms lt is alike ∙ refused (members_in (objects_view (drop (i + 1) os))))

ended : (b : Begin) (found : Found) → told b found [] ≡ Ok (found_view found)
unfolding same_tests
ended b found = ap (λ (ts : List PropTest). Ok (record { path = found.path; tests = ts })) (append-nil found.tests.items)

pub objects_pushed : (b : Begin) (os : List Object) (i : ℕ) (found : Found) (c : Criterion)
    → length os ≤ i → same_tests b None (members_in (objects_view os)) ≡ told b found (members_in (objects_view (drop i os)))
    → c ≡ leaf (unwrap_or found.path []) (same found.tests.items) → same_of b (objects_view os) ≡ Ok c
unfolding same_of
objects_pushed b os i found c end so is =
    ap same_from (so ∙ at_drop_all (λ l. told b found (members_in (objects_view l))) os i end ∙ ended b found) ∙ ap Ok (sym is)
