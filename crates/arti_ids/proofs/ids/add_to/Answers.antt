use Rattle.std.proofs.Common.{rules, subst, List, ℕ, Err, Ok, vec_capacity}
use Rattle.std.specs.Prelude.{is_ok}
use Rattle.std.specs.Ordering.{nat_cmp}
use Rattle.std.specs.List.Sorted.{IsBinarySearchResult}
use Rattle.arti_ids.specs.IdLaws.{added, at_hit}
use Rattle.arti_ids.proofs.ids.add_to.Goals as goal

pub returns-in-Err : goal.returns-in-Err
returns-in-Err c =
    let xs = c.args.ids.now.items in
    let both = added xs c.insert.new.self.items c.args.id c.in-Err.place (vec_capacity c.args.ids.now) (is_ok c.insert.result) c.requires.ascend
    (subst (λ (l : List ℕ). IsBinarySearchResult (λ y. nat_cmp y c.args.id) l (Err c.in-Err.place)) c.deref.ensures.value c.in-Err.ensures.position) c.requires.ready (λ few. search rules) (search rules) in
    record { ids = both.0; ascend = both.1 }

pub returns-in-Ok-clause-ids : goal.returns-in-Ok-clause-ids
returns-in-Ok-clause-ids c =
    (at_hit c.args.ids.now.items c.args.id c.requires.ascend c.in-Ok.field-0 (subst (λ (l : List ℕ). IsBinarySearchResult (λ y. nat_cmp y c.args.id) l (Ok c.in-Ok.field-0)) c.deref.ensures.value c.in-Ok.ensures.position)).1
