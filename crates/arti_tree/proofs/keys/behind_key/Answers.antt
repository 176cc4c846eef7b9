use Rattle.std.proofs.Common.{◌≡◌, ℕ, List, ◌∷◌, ◌++◌, true, refl, sym, ap, ◌∙◌, rules, append_assoc}
use Rattle.std.proofs.lemmas.List.{append_cancel_left}
use Rattle.arti_rows.specs.Key.{Key, whole_of}
use Rattle.arti_tree.specs.Rows.{has_folder}
use Rattle.arti_tree.proofs.Above.{whole_in}
use Rattle.arti_tree.proofs.keys.behind_key.Goals as goal

-- what stands behind the path
under : (k : Key) (text folder rest : List ℕ) → has_folder k ≡ true → text ≡ k.path ++ folder → text ≡ whole_of k ++ rest → folder ≡ 47 ∷ (k.name ++ rest)
under k text folder rest has front is = append_cancel_left k.path folder (47 ∷ (k.name ++ rest)) (sym front ∙ is ∙ ap (λ (w : List ℕ). w ++ rest) (whole_in k has) ∙ append_assoc k.path (47 ∷ k.name) rest)

tails : (x y : ℕ) (a b : List ℕ) → x ∷ a ≡ y ∷ b → a ≡ b
tails x y a b e = cc

pub returns-in_err-inside-clause-none : goal.returns-in_err-inside-clause-none
returns-in_err-inside-clause-none c = λ _ rest is.
    let k : Key = c.args.key.now in
    let has : has_folder k ≡ true = search rules in
    let front : c.args.text.now ≡ k.path ++ c.in_ok-folder.folder.now = search rules in
    c.in_err-inside.ensures.none refl (k.name ++ rest) (under k c.args.text.now c.in_ok-folder.folder.now rest has front is)

pub returns-clause-none : goal.returns-clause-none
returns-clause-none c = λ none rest is.
    let k : Key = c.args.key.now in
    let has : has_folder k ≡ true = search rules in
    let front : c.args.text.now ≡ k.path ++ c.in_ok-folder.folder.now = search rules in
    let slash : c.in_ok-folder.folder.now ≡ 47 ∷ c.in_ok-inside.inside.now = search rules in
    let name : c.as_str-3.result.now ≡ k.name = search rules in
    let rest_is = tails 47 47 c.in_ok-inside.inside.now (k.name ++ rest) (sym slash ∙ under k c.args.text.now c.in_ok-folder.folder.now rest has front is) in
    c.behind-4.ensures.none none rest (rest_is ∙ ap (λ (l : List ℕ). l ++ rest) (sym name))
