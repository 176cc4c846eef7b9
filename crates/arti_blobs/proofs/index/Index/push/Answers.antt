use Rattle.std.proofs.Common.{rules, ◌≡◌, ℕ, List, [], ◌∷◌, ◌++◌, length, Option, Some, sym, ◌∙◌, ap, subst}
use Rattle.std.specs.Ordering.{nat_cmp}
use Rattle.std.specs.Cmp.Lexicographic.{slice_cmp}
use Rattle.std.specs.BTreeMap as tree
use Rattle.arti_rows.specs.declared.rows.FileRef.{FileRef}
use Rattle.arti_blobs.specs.Chains.{Chained}
use Rattle.arti_blobs.proofs.Chaining.{chained_more, chained_same}
use Rattle.arti_blobs.proofs.index.Index.push.Goals as goal

pub invariant_of-self-in_err-before : goal.invariant_of-self-in_err-before
invariant_of-self-in_err-before c =
    chained_same c.self.inside.kept.items c.reserve.new.self.items c.self.inside.older.items c.reserve-2.new.self.items c.self.inside.newest c.insert.new.self
    c.reserve.ensures.items c.reserve-2.ensures.items c.in_err-before.ensures.err c.self.invariant

pub invariant_of-self-2 : goal.invariant_of-self-2
invariant_of-self-2 c =
    let kept : List FileRef = c.self.inside.kept.items in
    let older : List (Option ℕ) = c.self.inside.older.items in
    let before : Option ℕ = c.in_ok-before.before in
    let more : c.push.new.self.items ≡ kept ++ c.args.file ∷ [] = c.in_ok-push.ensures.items ∙ ap (λ (l : List FileRef). l ++ c.args.file ∷ []) c.reserve.ensures.items in
    let more_older : c.push-2.new.self.items ≡ older ++ before ∷ [] = c.in_ok-push-2.ensures.items ∙ ap (λ (l : List (Option ℕ)). l ++ before ∷ []) c.reserve-2.ensures.items in
    let count : c.len.result ≡ length kept = search rules in
    let updates : tree.Updates (slice_cmp nat_cmp) c.self.inside.newest c.insert.new.self c.args.file.digests.sha256 (Some (length kept)) =
    subst (λ (n : ℕ). tree.Updates (slice_cmp nat_cmp) c.self.inside.newest c.insert.new.self c.args.file.digests.sha256 (Some n)) count c.in_ok-before.ensures.updates in
    subst (λ (l : List FileRef). Chained l c.push-2.new.self.items c.insert.new.self) (sym more)
    (subst (λ (l : List (Option ℕ)). Chained (kept ++ c.args.file ∷ []) l c.insert.new.self) (sym more_older)
    (chained_more kept c.args.file older c.self.inside.newest c.insert.new.self before c.self.invariant c.in_ok-before.ensures.old updates))
