use Rattle.std.proofs.Common.{◌+◌, ◌*◌, map}
use Rattle.arti_aql_parse.specs.Ahead.{to_come}
use Rattle.arti_aql_parse.specs.Refusal.{RefusesMembers, RefusesObjects}
use Rattle.arti_aql_parse.specs.View.{member_view, object_view}
use Rattle.arti_aql_parse.proofs.RowSteps.{Goes, size}
use Rattle.arti_aql_parse.proofs.CriteriaRows.{ReadsMemberRow, ReadsObjectRow}
use Rattle.arti_aql_parse.proofs.criteria.+criteria.Given as goal

abbrev pub decreases-member : goal.decreases-member
decreases-member l = 4 * l.left

abbrev pub decreases-members : goal.decreases-members
decreases-members l = 4 * l.left + 1

abbrev pub decreases-object : goal.decreases-object
decreases-object l = 4 * l.left + 2

abbrev pub decreases-objects : goal.decreases-objects
decreases-objects l = 4 * l.left + 3

abbrev pub invariant-members-row : goal.invariant-members-row
invariant-members-row l = Goes (ReadsMemberRow l.left) (RefusesMembers l.left) (to_come l.initial.parser) (to_come l.parser) (map member_view l.members.items)

abbrev pub decreases-members-row : goal.decreases-members-row
decreases-members-row l = size (to_come l.parser)

abbrev pub invariant-objects-row : goal.invariant-objects-row
invariant-objects-row l = Goes (ReadsObjectRow l.left l.close) (RefusesObjects l.left l.close) (to_come l.initial.parser) (to_come l.parser) (map object_view l.objects.items)

abbrev pub decreases-objects-row : goal.decreases-objects-row
decreases-objects-row l = size (to_come l.parser)
