use Rattle.std.proofs.Common.{◌≡◌, ℕ, List, ◌++◌, sym, ap, ◌∙◌, append_assoc}
use Rattle.std.specs.Prelude.{string_bytes, codes, decimal}
use Rattle.std.specs.Option.{option_copied}
use Rattle.arti_model.specs.Replies.{field_line, digest_lines}
use Rattle.arti_wire.proofs.reply.push_body_lines.Goals as goal

-- three parts, put behind one after the other
three : (s t u v a b c : List ℕ) → t ≡ s ++ a → u ≡ t ++ b → v ≡ u ++ c → v ≡ s ++ (a ++ b ++ c)
three s t u v a b c first second third =
    third ∙ ap (λ w. w ++ c) (second ∙ ap (λ w. w ++ b) first) ∙ ap (λ w. w ++ c) (append_assoc s a b) ∙ append_assoc s (a ++ b) c

pub returns : goal.returns
returns c =
    let last : string_bytes c.push_field-2.new.out ≡ string_bytes c.push_digests.new.out ++ field_line (codes "Content-Length") (decimal c.args.len) =
    c.in_ok-push_field-2.ensures ∙ ap (λ text. string_bytes c.push_digests.new.out ++ field_line (codes "Content-Length") text) (c.as_str.ensures.value ∙ c.in_ok-length.ensures) in
    three (string_bytes c.args.out.now) (string_bytes c.push_field.new.out) (string_bytes c.push_digests.new.out) (string_bytes c.push_field-2.new.out) (field_line (codes "Content-Type") c.args.kind.now) (digest_lines (option_copied c.args.digests)) (field_line (codes "Content-Length") (decimal c.args.len)) c.in_ok-push_field.ensures c.in_ok-push_digests.ensures last
