use Rattle.std.proofs.Common.{◌≡◌, List, length, sym, ◌∙◌, subst}
use Rattle.std.specs.Ordering.{nat_cmp}
use Rattle.std.specs.Cmp.Lexicographic.{slice_cmp}
use Rattle.std.specs.BTreeMap as tree
use Rattle.arti_rows.specs.declared.rows.FileRef.{FileRef}
use Rattle.arti_blobs.specs.Chains.{IsLast}
use Rattle.arti_blobs.proofs.index.Index.last.Goals as goal

pub returns : goal.returns
returns c =
    let found : c.copied.result ≡ tree.get (slice_cmp nat_cmp) c.self.inside.newest c.args.sha256.now = c.copied.ensures ∙ c.get.ensures.value in
    subst (λ (kept : List FileRef). IsLast kept c.args.sha256.now (length kept) c.copied.result) c.self.view_is
    (subst (IsLast c.self.inside.kept.items c.args.sha256.now (length c.self.inside.kept.items)) (sym found) (c.self.invariant.last c.args.sha256.now))
