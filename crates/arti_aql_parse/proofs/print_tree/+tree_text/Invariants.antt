use Rattle.std.proofs.Common.{◌≡◌, ◌+◌, ◌*◌, ◌++◌, take, map, string_bytes}
use Rattle.arti_aql_parse.specs.Print.{row, member_text, object_text}
use Rattle.arti_aql_parse.specs.View.{member_view, object_view}
use Rattle.arti_aql_parse.proofs.print_tree.+tree_text.Given as goal

abbrev pub decreases-push_group : goal.decreases-push_group
decreases-push_group l = 5 * l.left

abbrev pub decreases-push_member : goal.decreases-push_member
decreases-push_member l = 5 * l.left + 1

abbrev pub decreases-push_members : goal.decreases-push_members
decreases-push_members l = 5 * l.left + 2

abbrev pub decreases-push_object : goal.decreases-push_object
decreases-push_object l = 5 * l.left + 3

abbrev pub decreases-push_objects : goal.decreases-push_objects
decreases-push_objects l = 5 * l.left + 4

abbrev pub invariant-push_members-loop-i : goal.invariant-push_members-loop-i
invariant-push_members-loop-i l = string_bytes l.out ≡ string_bytes l.initial.out ++ row (map (λ m. member_text (member_view m) l.left) (take l.i l.members))

abbrev pub invariant-push_objects-loop-i : goal.invariant-push_objects-loop-i
invariant-push_objects-loop-i l = string_bytes l.out ≡ string_bytes l.initial.out ++ row (map (λ o. object_text (object_view o) l.left) (take l.i l.objects))
