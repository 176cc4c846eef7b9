-- What members and objects of a query give.
use Rattle.std.specs.Prelude.{Result, Ok}
use Rattle.arti_aql_parse.specs.declared.query.Member.{Member}
use Rattle.arti_aql_parse.specs.declared.query.Object.{Object}
use Rattle.arti_aql_parse.specs.View.{member_view, object_view}
use Rattle.arti_query_model.specs.declared.fault.TypeFault.{TypeFault}
use Rattle.arti_query_model.specs.Outcome.{◌>>=◌}
use Rattle.arti_query_model.specs.Criteria.{every}
use Rattle.arti_query_model.specs.World.{Criterion}
use Rattle.arti_query_model.specs.Typing.{Begin, typed_member, typed_members}

abbrev pub of_member : Begin → Member → Result Criterion TypeFault
of_member b m = typed_member b (member_view m)

abbrev pub of_object : Begin → Object → Result Criterion TypeFault
of_object b o = typed_members b (object_view o) >>= λ first. Ok (every first)
