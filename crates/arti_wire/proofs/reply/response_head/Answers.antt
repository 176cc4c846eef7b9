use Rattle.std.proofs.Common.{◌≡◌, ℕ, ◌++◌, [], false, sym, ap, ◌∙◌, arith}
use Rattle.std.specs.Prelude.{◌==◌, if◌then◌else◌, string_bytes, Vec}
use Rattle.std.specs.declared.alloc.Global.{Global}
use Rattle.std.specs.Option.{option_copied}
use Rattle.std.proofs.lemmas.Bool.{ne_eqb}
use Rattle.arti_model.specs.Replies.{status_line, body_lines, line_end}
use Rattle.arti_wire.proofs.reply.response_head.Goals as goal

pub returns : goal.returns
returns c =
    let status = c.args.status in
    let first = status_line status in
    let lines = body_lines c.args.kind.now (option_copied c.args.digests) c.args.len in
    let other : (status == 204) ≡ false = ne_eqb status 204 c.if-status-eq204.false in
    let middle : string_bytes c.push_body_lines.new.out ≡ first ++ lines =
    c.in_ok-push_body_lines.ensures ∙ ap (λ s. s ++ lines) c.in_ok-head.ensures in
    ap (λ (v : Vec ℕ Global). v.items) c.into_bytes-2.ensures.value
    ∙ c.in_ok-push_str-2.ensures.bytes
    ∙ ap (λ s. s ++ line_end) middle
    ∙ sym (ap (λ b. first ++ (if b then [] else lines) ++ line_end) other)
