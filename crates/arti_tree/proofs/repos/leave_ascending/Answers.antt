use Rattle.std.proofs.Common.{◌≡◌, ℕ, List, [], ◌∷◌, Bool, true, false, cond, refl, sym, ap, ◌∙◌, arith, rules, Option, None, Vec, Global}
use Rattle.std.proofs.lemmas.Map.Text.{text_keys}
use Rattle.std.specs.Str.{bytes_eq}
use Rattle.std.specs.Option.{option_map_or}
use Rattle.std.specs.BTreeMap.{get_by_text}
use Rattle.std.specs.Cmp.Lexicographic.{bytes_decides}
use Rattle.arti_tree.specs.Repos.{list_of}
use Rattle.arti_tree.specs.Shifts.{without_ids}
use Rattle.arti_tree.proofs.repos.leave_ascending.Goals as goal

none_left : (ids : List ℕ) → [] ≡ without_ids ids []
none_left [] = refl
none_left (id ∷ ids) = none_left ids

left_by : (b : Bool) (ids l m : List ℕ) → m ≡ l → (b ≡ true → l ≡ []) → m ≡ cond b (without_ids ids l) l
left_by true ids l m same none = same ∙ none refl ∙ none_left ids ∙ sym (ap (without_ids ids) (none refl))
left_by false ids l m same none = same

pub returns-in-Some : goal.returns-in-Some
returns-in-Some c = λ q. grind (arith, text_keys)

pub returns-in_default : goal.returns-in_default
returns-in_default c = λ q.
    let same : list_of c.get_mut.follows.lender-at-none q ≡ list_of c.args.repos.now q = grind (arith, text_keys) in
    let at : get_by_text c.args.repos.now c.args.repo.now ≡ None = search rules in
    let none : bytes_eq q c.args.repo.now ≡ true → list_of c.args.repos.now q ≡ [] = λ e.
    ap (list_of c.args.repos.now) ((bytes_decides q c.args.repo.now).0 e) ∙ ap (λ (o : Option (Vec ℕ Global)). option_map_or (λ (v : Vec ℕ Global). v.items) o []) at in
    left_by (bytes_eq q c.args.repo.now) c.args.ids.now (list_of c.args.repos.now q) (list_of c.get_mut.follows.lender-at-none q) same none
