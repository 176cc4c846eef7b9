-- The reply that is told without memory.
use Rattle.std.proofs.Common.{◌≡◌, ℕ, List, ◌++◌, length, refl, ap, sym, ◌∙◌}
use Rattle.std.specs.Prelude.{codes, None}
use Rattle.std.specs.Fmt.{digits}
use Rattle.json.specs.Print.{escape_byte}
use Rattle.arti_model.specs.Replies.{head_bytes}
use Rattle.arti_model.specs.Bodies.{error_body, json_kind}
use Rattle.arti_model.specs.Run.{memory_reply}
use Rattle.arti_service.specs.declared.telling.TheConstants.{MEMORY_REPLY}

abbrev text : List ℕ
text = codes "{\"errors\":[{\"status\":500,\"message\":\"Memory\"}]}"

body : error_body 500 (codes "Memory") ≡ text
unfolding digits escape_byte
body = refl

whole : head_bytes 500 json_kind None 46 ++ text ≡ MEMORY_REPLY
unfolding digits
whole = refl

pub memory_text : MEMORY_REPLY ≡ memory_reply
memory_text = sym (ap (λ (b : List ℕ). head_bytes 500 json_kind None (length b) ++ b) body ∙ whole)
