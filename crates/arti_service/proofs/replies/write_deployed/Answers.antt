use Rattle.std.proofs.Common.{◌≡◌, ℕ, List, ◌∷◌, ◌++◌, ap, ◌∙◌, rules}
use Rattle.std.specs.Prelude.{codes, decimal}
use Rattle.arti_time.specs.Printed.{printed}
use Rattle.arti_rows.specs.Key.{whole_of}
use Rattle.arti_model.specs.Bodies.{text_member}
use Rattle.arti_service.proofs.Pieces.{after_five}
use Rattle.arti_service.proofs.replies.write_deployed.Goals as goal

pub returns : goal.returns
returns c =
    let key = c.args.key.now in
    let m1 = text_member (codes "repo", key.repo) in
    let m2 = 44 ∷ text_member (codes "path", 47 ∷ whole_of key) in
    let m3 = 44 ∷ text_member (codes "created", printed c.args.created) in
    let m4 = 44 ∷ text_member (codes "createdBy", c.args.created_by.now) in
    let m5 = 44 ∷ text_member (codes "size", decimal c.args.size) in
    let e1 : c.write_member.new.out.items ≡ c.args.out.now.items ++ m1 = search rules in
    let e2 : c.write_next.new.out.items ≡ c.write_member.new.out.items ++ m2 = search rules in
    let e3 : c.write_next-2.new.out.items ≡ c.write_next.new.out.items ++ m3 =
    let text : c.as_str-moment.result.now ≡ printed c.args.created = search rules in
    c.in_ok-write_next-2.ensures ∙ ap (λ (t : List ℕ). c.write_next.new.out.items ++ 44 ∷ text_member (codes "created", t)) text in
    let e4 : c.write_next-3.new.out.items ≡ c.write_next-2.new.out.items ++ m4 = c.in_ok-write_next-3.ensures in
    let e5 : c.write_next-4.new.out.items ≡ c.write_next-3.new.out.items ++ m5 = search rules in
    after_five c.args.out.now.items m1 m2 m3 m4 m5 _ _ _ _ _ e1 e2 e3 e4 e5
