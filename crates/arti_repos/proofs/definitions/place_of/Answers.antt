use Rattle.std.proofs.Common.{◌≡◌, refl, rules}
use Rattle.std.specs.Ordering.{nat_cmp}
use Rattle.std.specs.Cmp.Lexicographic.{slice_cmp}
use Rattle.std.proofs.lemmas.Fn.{answers_by}
use Rattle.arti_rows.specs.declared.rows.RepoDef.{RepoDef}
use Rattle.arti_repos.proofs.Places.{if_found, if_missing}
use Rattle.arti_repos.proofs.definitions.place_of.Goals as goal

pub returns-clause-found : goal.returns-clause-found
returns-clause-found c =
    if_found c.args.definitions.now c.requires.order c.args.key.now c.binary_search_by.result c.binary_search_by.ensures.bound
    (c.binary_search_by.ensures.position (λ (d : RepoDef). slice_cmp nat_cmp d.key c.args.key.now) (answers_by _ (λ a r. r ≡ slice_cmp nat_cmp a.0.now.key c.args.key.now) (λ f. f.0.now ≡ c.args.key.now) (λ f a r next called is. (search rules, search rules)) _ refl))

pub returns-clause-missing : goal.returns-clause-missing
returns-clause-missing c =
    if_missing c.args.definitions.now c.requires.order c.args.key.now c.binary_search_by.result c.binary_search_by.ensures.bound
    (c.binary_search_by.ensures.position (λ (d : RepoDef). slice_cmp nat_cmp d.key c.args.key.now) (answers_by _ (λ a r. r ≡ slice_cmp nat_cmp a.0.now.key c.args.key.now) (λ f. f.0.now ≡ c.args.key.now) (λ f a r next called is. (search rules, search rules)) _ refl))
