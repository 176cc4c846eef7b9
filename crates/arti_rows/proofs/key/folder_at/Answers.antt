use Rattle.std.proofs.Common.{◌≡◌, ℕ, List, take, subst, rules}
use Rattle.arti_rows.specs.Key.{Key, key_of, path_of, name_of, Rejoins}
use Rattle.arti_rows.specs.Names.{IsKey}
use Rattle.arti_rows.specs.CutLaws.{is_key}
use Rattle.arti_rows.specs.FolderLaws.{folder_good}
use Rattle.arti_rows.proofs.key.folder_at.Goals as goal

pub invariant_of-result : goal.invariant_of-result
invariant_of-result c =
    let front = take c.args.i c.args.whole.now in
    let good = folder_good c.args.repo.now c.args.whole.now c.args.i c.requires.within c.requires.slash c.requires.good in
    let part : c.range.result.now ≡ front = search rules in
    let joins : Rejoins front (path_of front) (name_of front) = subst (λ (l : List ℕ). Rejoins l (path_of l) (name_of l)) part (subst (λ (l : List ℕ). Rejoins c.range.result.now l (name_of c.range.result.now)) c.cut.ensures.path (subst (λ (l : List ℕ). Rejoins c.range.result.now c.cut.result.0.now l) c.cut.ensures.name c.cut.ensures.whole)) in
    let same : key_of c.args.repo.now front ≡ record { repo = c.in_ok-from_str.field-0; path = c.in_ok-from_str-2.field-0; name = c.in_ok-from_str-3.field-0 } = search rules in
    subst (λ (k : Key). IsKey k) same (is_key c.args.repo.now front good joins)
