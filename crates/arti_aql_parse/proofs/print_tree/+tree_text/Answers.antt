use Rattle.std.proofs.Common.{◌∙◌, sym, ap, ◌++◌, string_bytes}
use Rattle.arti_aql_parse.specs.Print.{row, member_text, object_text}
use Rattle.arti_aql_parse.specs.View.{member_view, object_view}
use Rattle.arti_aql_parse.proofs.PrintRows.{row_step, row_done, member_rows, object_rows}
use Rattle.arti_aql_parse.proofs.print_tree.+tree_text.Goals as goal

pub push_members-loop-i-preserved : goal.push_members-loop-i-preserved
push_members-loop-i-preserved t c =
    row_step (λ m. member_text (member_view m) c.args.left) c.args.members.now c.loop-i.i c.index-members-i.result (string_bytes c.args.out.now) (string_bytes c.loop-i.out) (string_bytes c.push_comma.new.out) (string_bytes c.push_member.new.out)
    c.loop-i-test.true c.index-members-i.is c.loop-i.invariant c.in_ok-push_comma.ensures c.in_ok-push_member.ensures

pub push_members-returns : goal.push_members-returns
push_members-returns t c =
    row_done (λ m. member_text (member_view m) c.args.left) c.args.members.now c.loop-i.i (string_bytes c.args.out.now) (string_bytes c.loop-i.out) c.loop-i-test.false c.loop-i.invariant
    ∙ ap (λ l. string_bytes c.args.out.now ++ row l) (sym (member_rows c.args.members.now c.args.left))

pub push_objects-loop-i-preserved : goal.push_objects-loop-i-preserved
push_objects-loop-i-preserved t c =
    row_step (λ o. object_text (object_view o) c.args.left) c.args.objects.now c.loop-i.i c.index-objects-i.result (string_bytes c.args.out.now) (string_bytes c.loop-i.out) (string_bytes c.push_comma.new.out) (string_bytes c.push_object.new.out)
    c.loop-i-test.true c.index-objects-i.is c.loop-i.invariant c.in_ok-push_comma.ensures c.in_ok-push_object.ensures

pub push_objects-returns : goal.push_objects-returns
push_objects-returns t c =
    row_done (λ o. object_text (object_view o) c.args.left) c.args.objects.now c.loop-i.i (string_bytes c.args.out.now) (string_bytes c.loop-i.out) c.loop-i-test.false c.loop-i.invariant
    ∙ ap (λ l. string_bytes c.args.out.now ++ row l) (sym (object_rows c.args.objects.now c.args.left))
