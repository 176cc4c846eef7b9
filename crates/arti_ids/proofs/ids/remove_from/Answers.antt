use Rattle.std.proofs.Common.{rules, subst, List, ℕ, Err, Ok, inl, length, vec_capacity, vec_len, arith, ◌≡◌, ◌+◌, ◌≤◌}
use Rattle.std.specs.Ordering.{nat_cmp}
use Rattle.std.specs.List.Sorted.{IsBinarySearchResult}
use Rattle.arti_ids.specs.IdLaws.{removed, at_gap}
use Rattle.arti_ids.proofs.ids.remove_from.Goals as goal

pub returns-in-Ok-clause-ids : goal.returns-in-Ok-clause-ids
returns-in-Ok-clause-ids c =
    (removed c.args.ids.now.items c.remove.new.self.items c.args.id c.in-Ok.place c.requires.ascend
    (subst (λ (l : List ℕ). IsBinarySearchResult (λ y. nat_cmp y c.args.id) l (Ok c.in-Ok.place)) c.deref.ensures.value c.in-Ok.ensures.position) (search rules)).0

pub returns-in-Ok-clause-ascend : goal.returns-in-Ok-clause-ascend
returns-in-Ok-clause-ascend c =
    (removed c.args.ids.now.items c.remove.new.self.items c.args.id c.in-Ok.place c.requires.ascend
    (subst (λ (l : List ℕ). IsBinarySearchResult (λ y. nat_cmp y c.args.id) l (Ok c.in-Ok.place)) c.deref.ensures.value c.in-Ok.ensures.position) (search rules)).1

pub returns-in-Ok-clause-ready : goal.returns-in-Ok-clause-ready
returns-in-Ok-clause-ready c = λ was.
    let old = c.args.ids.now in
    let new = c.remove.new.self in
    let less : vec_len new + 1 ≡ vec_len old = c.remove.ensures.len in
    let within : vec_len old ≤ vec_capacity old = old.ok.1 in
    let same : vec_capacity new ≡ vec_capacity old = c.remove.ensures.capacity in
    let length_is : vec_len new ≡ length new.items = new.ok.0 in
    inl (omega (arith, less, within, same, length_is))

pub returns-in-Err-clause-ids : goal.returns-in-Err-clause-ids
returns-in-Err-clause-ids c =
    (at_gap c.args.ids.now.items c.args.id c.requires.ascend c.in-Err.field-0 (subst (λ (l : List ℕ). IsBinarySearchResult (λ y. nat_cmp y c.args.id) l (Err c.in-Err.field-0)) c.deref.ensures.value c.in-Err.ensures.position)).1
