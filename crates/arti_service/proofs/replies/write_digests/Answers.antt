use Rattle.std.proofs.Common.{◌≡◌, ◌∷◌, ◌++◌, rules}
use Rattle.std.specs.Prelude.{codes}
use Rattle.hex.specs.Hex.{encode_lower}
use Rattle.arti_model.specs.Bodies.{text_member}
use Rattle.arti_service.proofs.Pieces.{after_three}
use Rattle.arti_service.proofs.replies.write_digests.Goals as goal

pub returns : goal.returns
returns c =
    let d = c.args.digests.now in
    let a = text_member (codes "md5", encode_lower d.md5) in
    let b = 44 ∷ text_member (codes "sha1", encode_lower d.sha1) in
    let last = 44 ∷ text_member (codes "sha256", encode_lower d.sha256) in
    let ea : c.write_member.new.out.items ≡ c.args.out.now.items ++ a = search rules in
    let eb : c.write_next.new.out.items ≡ c.write_member.new.out.items ++ b = search rules in
    let ec : c.write_next-2.new.out.items ≡ c.write_next.new.out.items ++ last = search rules in
    after_three c.args.out.now.items a b last _ _ _ ea eb ec
