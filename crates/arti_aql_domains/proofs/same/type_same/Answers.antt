use Rattle.std.proofs.lemmas.Result.{err_from_is_err_and}
use Rattle.arti_aql_domains.proofs.Pushed.{object_pushed, object_refused, objects_pushed}
use Rattle.arti_aql_domains.proofs.same.type_same.Goals as goal

pub returns-in_err-push_members-clause-refused : goal.returns-in_err-push_members-clause-refused
returns-in_err-push_members-clause-refused c =
    let p = err_from_is_err_and c.from_residual.result c.from_residual.ensures.1 in
    rw (p.1, p.2) (λ other. object_refused _ c.args.objects.now c.loop-object.object-index c.object-item.result c.as_slice.result.now c.loop-object.found _
    c.loop-object-test.true c.object-item.is c.as_slice.ensures.value (c.in_err-push_members.ensures.refused other) c.loop-object.invariant)

pub loop-object-preserved : goal.loop-object-preserved
loop-object-preserved c =
    object_pushed _ c.args.objects.now c.loop-object.object-index c.object-item.result c.as_slice.result.now c.loop-object.found c.push_members.new.found
    c.loop-object-test.true c.object-item.is c.as_slice.ensures.value c.in_ok-push_members.ensures.typed c.loop-object.invariant

pub returns-clause-typed : goal.returns-clause-typed
returns-clause-typed c =
    objects_pushed _ c.args.objects.now c.loop-object.object-index c.loop-object.found _ c.loop-object-test.false c.loop-object.invariant c.same_cond.ensures
