use Rattle.std.proofs.lemmas.Result.{err_from_is_err_and}
use Rattle.arti_aql_domains.proofs.Groups.{all_given, all_refused, any_given, any_refused, object_given, object_refused}
use Rattle.arti_aql_domains.proofs.criteria.+criteria.Goals as goal

pub type_member-returns-in_err-parts-in-All-clause-refused : goal.type_member-returns-in_err-parts-in-All-clause-refused
type_member-returns-in_err-parts-in-All-clause-refused t c =
    let p = err_from_is_err_and c.from_residual.result c.from_residual.ensures.1 in
    rw (p.1, p.2) (λ other. all_refused _ c.args.member.now c.in-All.objects _ _ c.in-All.is c.as_slice.ensures.value (c.in_err-parts-in-All.ensures.refused other))

pub type_member-returns-in_err-parts-in-Any-clause-refused : goal.type_member-returns-in_err-parts-in-Any-clause-refused
type_member-returns-in_err-parts-in-Any-clause-refused t c =
    let p = err_from_is_err_and c.from_residual-in_err-parts-in-Any.result c.from_residual-in_err-parts-in-Any.ensures.1 in
    rw (p.1, p.2) (λ other. any_refused _ c.args.member.now c.in-Any.objects _ _ c.in-Any.is c.as_slice-in-Any.ensures.value (c.in_err-parts-in-Any.ensures.refused other))

pub type_member-returns-in_ok-parts-in-All-clause-typed : goal.type_member-returns-in_ok-parts-in-All-clause-typed
type_member-returns-in_ok-parts-in-All-clause-typed t c =
    all_given _ c.args.member.now c.in-All.objects _ c.in_ok-parts-in-All.parts c.in-All.is c.as_slice.ensures.value c.in_ok-parts-in-All.ensures.typed

pub type_member-returns-in_ok-parts-in-Any-clause-typed : goal.type_member-returns-in_ok-parts-in-Any-clause-typed
type_member-returns-in_ok-parts-in-Any-clause-typed t c =
    any_given _ c.args.member.now c.in-Any.objects _ c.in_ok-parts-in-Any.parts c.in-Any.is c.as_slice-in-Any.ensures.value c.in_ok-parts-in-Any.ensures.typed

pub type_object-returns-in_err-parts-clause-refused : goal.type_object-returns-in_err-parts-clause-refused
type_object-returns-in_err-parts-clause-refused t c =
    let p = err_from_is_err_and c.from_residual.result c.from_residual.ensures.1 in
    rw (p.1, p.2) (λ other. object_refused _ c.args.object.now _ _ c.as_slice.ensures.value (c.in_err-parts.ensures.refused other))

pub type_object-returns-clause-typed : goal.type_object-returns-clause-typed
type_object-returns-clause-typed t c =
    object_given _ c.args.object.now _ c.in_ok-parts.parts c.as_slice.ensures.value c.in_ok-parts.ensures.typed
