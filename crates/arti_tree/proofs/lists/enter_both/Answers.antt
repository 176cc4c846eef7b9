use Rattle.arti_tree.specs.Slots.{is_it}
use Rattle.arti_tree.specs.Children.{list_at}
use Rattle.arti_tree.proofs.ListsOf.{more_ascends, back}
use Rattle.arti_tree.proofs.lists.enter_both.Goals as goal

pub leave_folder-requires : goal.leave_folder-requires
leave_folder-requires c = λ i.
    more_ascends (is_it c.args.folder i) c.args.id (list_at c.args.children.now i) (list_at c.enter_folder.new.children i) (c.in_ok-enter_folder.ensures.more i) (c.requires.ascend i) (c.requires.absent i)

pub returns-in-Err-clause-folders_stay : goal.returns-in-Err-clause-folders_stay
returns-in-Err-clause-folders_stay c = λ i.
    back (is_it c.args.folder i) c.args.id (list_at c.args.children.now i) (list_at c.enter_folder.new.children i) (list_at c.leave_folder.new.children i) (c.requires.absent i) (c.in_ok-enter_folder.ensures.more i) (c.leave_folder.ensures.less i)
