use Rattle.std.proofs.Common.{◌≡◌, List, ℕ, [], ◌∷◌, ◌++◌, ◌∙◌, rules}
use Rattle.arti_json.specs.EscapeLaws.{quoted-plain}
use Rattle.arti_json.proofs.write.write_plain.Goals as goal

pub returns-clause-ok : goal.returns-clause-ok
returns-clause-ok c =
    let old = c.args.out.now.items in
    let text = c.args.text.now in
    let all : c.push-2.new.self.items ≡ ((old ++ 34 ∷ []) ++ text) ++ 34 ∷ [] = search rules in
    all ∙ quoted-plain old text c.requires
