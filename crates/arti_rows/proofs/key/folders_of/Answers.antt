use Rattle.std.proofs.Common.{◌≡◌, ◌≢◌, ◌<◌, List, [], ◌∷◌, ◌++◌, length, take, get_or, refl, sym, ap, ◌∙◌, rules}
use Rattle.std.proofs.lemmas.Bool.{ne_eqb}
use Rattle.arti_rows.specs.Key.{Key, key_of}
use Rattle.arti_rows.specs.FolderLaws.{slash, with_folder, without_folder}
use Rattle.arti_rows.proofs.key.folders_of.Goals as goal
use Rattle.arti_rows.proofs.key.folders_of.Goals.{then-b-eq47+in_ok-folder_at+in_ok-push, else-b-eq47}

pub loop-i-preserved : goal.loop-i-preserved
loop-i-preserved c =
    let repo = c.args.repo.now in
    let whole = c.args.whole.now in
    let i = c.loop-i.i in
    let below : i < length whole = search rules in
    elim c.if-b-eq47.branch [
      | then-b-eq47+in_ok-folder_at+in_ok-push w ↦
          let at : get_or whole i 0 ≡ 47 = search rules in
          let pushed : c.if-b-eq47.folders.items ≡ c.loop-i.folders.items ++ key_of repo (take i whole) ∷ [] = search rules in
          pushed ∙ ap (λ (l : List Key). l ++ key_of repo (take i whole) ∷ []) c.loop-i.invariant ∙ sym (with_folder repo whole i (get_or whole i 0) below refl (ap slash at))
      | else-b-eq47 w ↦
          let at : get_or whole i 0 ≢ 47 = search rules in
          let same : c.if-b-eq47.folders.items ≡ c.loop-i.folders.items = search rules in
          same ∙ c.loop-i.invariant ∙ sym (without_folder repo whole i (get_or whole i 0) below refl (ne_eqb (get_or whole i 0) 47 at))
    ]
