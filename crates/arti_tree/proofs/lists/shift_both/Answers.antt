use Rattle.std.proofs.Common.{◌≢◌, ℕ, Option, rules}
use Rattle.arti_tree.specs.Slots.{is_it}
use Rattle.arti_tree.specs.Children.{list_at}
use Rattle.arti_tree.proofs.Shifting.{one_only, enters, backs}
use Rattle.arti_tree.proofs.lists.shift_both.Goals as goal

pub leave_folder-requires : goal.leave_folder-requires
leave_folder-requires c =
    let was : Option ℕ = c.args.folders.0 in
    let will : Option ℕ = c.args.folders.1 in
    let ne : was ≢ will = search rules in
    λ i. enters (is_it will i) c.args.id (list_at c.args.children.now i) (list_at c.enter_folder.new.children i) (λ e. c.requires.absent i (one_only was will i ne e)) (c.in_ok-enter_folder.ensures.more i) (c.requires.ascend i)

pub returns-in-Err-clause-folders_stay : goal.returns-in-Err-clause-folders_stay
returns-in-Err-clause-folders_stay c =
    let was : Option ℕ = c.args.folders.0 in
    let will : Option ℕ = c.args.folders.1 in
    let ne : was ≢ will = search rules in
    λ i. backs (is_it will i) c.args.id (list_at c.args.children.now i) (list_at c.enter_folder.new.children i) (list_at c.leave_folder.new.children i) (λ e. c.requires.absent i (one_only was will i ne e)) (c.in_ok-enter_folder.ensures.more i) (c.leave_folder.ensures.less i)

pub leave_folder-requires-2 : goal.leave_folder-requires-2
leave_folder-requires-2 c =
    let was : Option ℕ = c.args.folders.0 in
    let will : Option ℕ = c.args.folders.1 in
    let ne : was ≢ will = search rules in
    λ i. enters (is_it will i) c.args.id (list_at c.args.children.now i) (list_at c.enter_folder.new.children i) (λ e. c.requires.absent i (one_only was will i ne e)) (c.in_ok-enter_folder.ensures.more i) (c.requires.ascend i)

pub enter_folder-requires-clause-absent : goal.enter_folder-requires-clause-absent
enter_folder-requires-clause-absent c =
    let was : Option ℕ = c.args.folders.0 in
    let will : Option ℕ = c.args.folders.1 in
    let ne : was ≢ will = search rules in
    λ i e. c.requires.absent i (one_only was will i ne e)
