use Rattle.std.proofs.Common.{◌≡◌, ℕ, List, [], ◌∷◌, ◌++◌, rules}
use Rattle.std.specs.Prelude.{codes}
use Rattle.json.specs.Print.{quoted}
use Rattle.arti_model.specs.Query.{member}
use Rattle.arti_aql_reply.specs.Parts.{next, place_text}
use Rattle.arti_aql_reply.proofs.Pieces.{after_five}
use Rattle.arti_aql_reply.proofs.row.write_place.Goals as goal

pub returns : goal.returns
unfolding place_text
returns c =
    let key = c.args.key.now in
    let a : List ℕ = 123 ∷ [] in
    let b = member (codes "repo") (quoted key.repo) in
    let d = next (codes "path") (quoted key.path) in
    let e = next (codes "name") (quoted key.name) in
    let f = next (codes "type") (quoted c.args.kind.now) in
    let ea : c.push.new.self.items ≡ c.args.out.now.items ++ a = search rules in
    let eb : c.write_words.new.out.items ≡ c.push.new.self.items ++ b = search rules in
    let ed : c.write_next_words.new.out.items ≡ c.write_words.new.out.items ++ d = search rules in
    let ee : c.write_next_words-2.new.out.items ≡ c.write_next_words.new.out.items ++ e = search rules in
    let ef : c.write_next_words-3.new.out.items ≡ c.write_next_words-2.new.out.items ++ f = c.in_ok-write_next_words-3.ensures in
    after_five c.args.out.now.items a b d e f _ _ _ _ _ ea eb ed ee ef
