-- What is done with a decision: where a reply becomes bytes, and where room is judged.
use Rattle.std.specs.Prelude.{ℕ, Bool, true, false, nat_le, if◌then◌else◌, List, ◌++◌, length}
use Rattle.arti_rows.specs.Sizes.{most_reply}
use Rattle.arti_rows.specs.declared.limits.Limits.{Limits}
use Rattle.arti_rows.specs.declared.refusal.Refusal.{Refusal}
use Rattle.arti_rows.specs.declared.refusal.Refusal.TheVariants.{ReplyTooLarge}
use Rattle.arti_model.specs.Store.{File}
use Rattle.arti_model.specs.Replies.{head_bytes}
use Rattle.arti_model.specs.Bodies.{error_body}
use Rattle.arti_model.specs.Stock.{Stock, Answer, unchanged, accept}
use Rattle.arti_model.specs.Refusals.{status_of, message_of}
use Rattle.arti_model.specs.Decide.{Content, Words, Kept, Reply, Decision, Refused, Tells, Makes, json}

-- ---- the bytes of a reply

abbrev pub content_bytes : Content File → List ℕ
content_bytes (Words text) = text
content_bytes (Kept file) = file.content

abbrev pub head_of : Reply File → List ℕ
head_of reply = head_bytes reply.status reply.kind reply.digests (length (content_bytes reply.content))

-- the bytes that tell a reply: its head alone, which is all that answers a HEAD (RFC 9110, section 9.3.2), or all of it
abbrev pub told : Bool → Reply File → List ℕ
told true reply = head_of reply
told false reply = head_of reply ++ content_bytes reply.content

-- the reply of a refusal
abbrev pub refusal_reply : {F : Type 0} → Refusal → Reply F
refusal_reply why = json (status_of why) (error_body (status_of why) (message_of why))

-- ---- what is done

-- a text may be too long for a reply; a content that is kept never is
abbrev pub fits : Content File → Bool
fits (Words text) = nat_le (length text) most_reply
fits (Kept file) = true

abbrev pub fitting : Reply File → Reply File
fitting reply = if fits reply.content then reply else refusal_reply ReplyTooLarge

-- what is done with a decision, whose reply is told by its head alone or whole; the reply to a change is short, or a content
abbrev pub perform : Limits → Stock → Bool → Decision File → Answer
perform limits s alone (Refused why) = unchanged s (told alone (refusal_reply why))
perform limits s alone (Tells reply) = unchanged s (told alone (fitting reply))
perform limits s alone (Makes change file_of reply) = accept limits s file_of change (told alone reply)
