use Rattle.std.proofs.Common.{◌≡◌, ◌≢◌, ◌-◌, ◌<◌, ◌≤◌, inr, length, get_or, arith, rules}
use Rattle.arti_tree.proofs.IdLists.{above, rises_or_same, last_next, run_next, next_lacks}
use Rattle.arti_tree.proofs.ids.free_id.Goals as goal

pub returns-then-ids-last-clause-next : goal.returns-then-ids-last-clause-next
returns-then-ids-last-clause-next c =
    let xs = c.args.ids.now in
    let some : 0 < length xs = search rules in
    let is : get_or xs (length xs - 1) 0 ≡ length xs - 1 = search rules in
    last_next xs c.requires.ascend some is

pub returns-then-ids-last-clause-absent : goal.returns-then-ids-last-clause-absent
returns-then-ids-last-clause-absent c =
    let xs = c.args.ids.now in
    let some : 0 < length xs = search rules in
    let is : get_or xs (length xs - 1) 0 ≡ length xs - 1 = search rules in
    next_lacks xs (length xs) (last_next xs c.requires.ascend some is)

pub overflow_sub-result : goal.overflow_sub-result
overflow_sub-result c =
    let xs = c.args.ids.now in
    let some : 0 < length xs = search rules in
    let more : get_or xs (length xs - 1) 0 ≢ length xs - 1 = search rules in
    above xs c.run_of.result c.requires.ascend some more c.run_of.ensures.run

pub returns-clause-next : goal.returns-clause-next
returns-clause-next c =
    let xs = c.args.ids.now in
    let some : 0 < length xs = search rules in
    let more : get_or xs (length xs - 1) 0 ≢ length xs - 1 = search rules in
    let one = above xs c.run_of.result c.requires.ascend some more c.run_of.ensures.run in
    run_next xs c.run_of.result (get_or xs c.run_of.result 0 - 1) c.requires.ascend c.run_of.ensures.within c.run_of.ensures.run c.run_of.ensures.before (omega (arith, one))

pub returns-clause-absent : goal.returns-clause-absent
returns-clause-absent c =
    let xs = c.args.ids.now in
    let some : 0 < length xs = search rules in
    let more : get_or xs (length xs - 1) 0 ≢ length xs - 1 = search rules in
    let one = above xs c.run_of.result c.requires.ascend some more c.run_of.ensures.run in
    next_lacks xs (get_or xs c.run_of.result 0 - 1) (run_next xs c.run_of.result (get_or xs c.run_of.result 0 - 1) c.requires.ascend c.run_of.ensures.within c.run_of.ensures.run c.run_of.ensures.before (omega (arith, one)))

pub returns-clause-within : goal.returns-clause-within
returns-clause-within c =
    let xs = c.args.ids.now in
    let some : 0 < length xs = search rules in
    let le : get_or xs c.run_of.result 0 ≤ get_or xs (length xs - 1) 0 = rises_or_same 0 xs c.requires.ascend c.run_of.result (length xs - 1) (omega (arith, c.run_of.ensures.within)) (omega (arith, some)) in
    inr (some, omega (arith, le))
