use Rattle.std.proofs.Common.{◌≡◌, ℕ, List, length, get_or, ◌<◌, sym, ◌∙◌, subst}
use Rattle.arti_tree.specs.Ids.{IsGap}
use Rattle.arti_tree.proofs.IdLists.{gap_lacks, remove_at, lacking}
use Rattle.arti_tree.proofs.ids.drop_id.Goals as goal

pub returns-in-Ok : goal.returns-in-Ok
returns-in-Ok c =
    let found = subst (λ (l : List ℕ). (c.in-Ok.place < length l) × (get_or l c.in-Ok.place 0 ≡ c.args.id)) c.deref.ensures.value c.in-Ok.ensures.found in
    c.remove.ensures.items ∙ remove_at c.args.id 0 c.args.ids.now.items c.in-Ok.place c.requires found.0 found.1

pub returns-in_default : goal.returns-in_default
returns-in_default c =
    let gap = subst (λ (l : List ℕ). IsGap l c.args.id c.in_default.field-0) c.deref.ensures.value c.in_default.ensures.gap in
    sym (lacking c.args.id c.args.ids.now.items (gap_lacks c.args.id c.args.ids.now.items c.in_default.field-0 gap))
