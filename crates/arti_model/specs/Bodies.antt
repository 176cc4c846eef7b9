-- The bodies of replies: JSON (RFC 8259) with its members in a stated order and no spaces.
use Rattle.std.specs.Prelude.{ℕ, ℤ, List, [], ◌∷◌, ◌++◌, length, codes, decimal, flat_map, Some, None}
use Rattle.json.specs.Print.{quoted}
use Rattle.hex.specs.Hex.{encode_lower}
use Rattle.arti_time.specs.Printed.{printed}
use Rattle.arti_rows.specs.Key.{Key, whole_of}
use Rattle.arti_rows.specs.declared.rows.Digests.{Digests}
use Rattle.arti_model.specs.Replies.{head_bytes}
use Rattle.arti_model.specs.Store.{Item, File}

-- a member with a text
abbrev pub text_member : List ℕ × List ℕ → List ℕ
text_member m = 34 ∷ (m.0 ++ 34 ∷ 58 ∷ quoted m.1)

-- members with texts, with commas between them
abbrev pub text_members : List (List ℕ × List ℕ) → List ℕ
text_members [] = []
text_members (m ∷ members) = text_member m ++ flat_map (λ (n : List ℕ × List ℕ). 44 ∷ text_member n) members

-- the three digests as members
abbrev pub digest_members : Digests → List (List ℕ × List ℕ)
digest_members d = (codes "md5", encode_lower d.md5) ∷ (codes "sha1", encode_lower d.sha1) ∷ (codes "sha256", encode_lower d.sha256) ∷ []

-- what a deploy tells of the item
abbrev pub deployed_members : Key → ℤ → List ℕ → ℕ → List (List ℕ × List ℕ)
deployed_members key created created_by size =
    (codes "repo", key.repo) ∷ (codes "path", 47 ∷ whole_of key) ∷ (codes "created", printed created)
    ∷ (codes "createdBy", created_by) ∷ (codes "size", decimal size) ∷ []

-- the body that tells of a deployed item
abbrev pub deployed_body : Key → ℤ → List ℕ → ℕ → Digests → List ℕ
deployed_body key created created_by size digests =
    123 ∷ (text_members (deployed_members key created created_by size)
    ++ codes ",\"checksums\":{" ++ text_members (digest_members digests) ++ codes "}}")

-- the body that answers a deploy
abbrev pub deploy_body : {F : Type 0} → Item F → File → List ℕ
deploy_body item file = deployed_body item.key item.created item.created_by (length file.content) file.digests

-- the body that answers a refused request
abbrev pub error_body : ℕ → List ℕ → List ℕ
error_body status message = codes "{\"errors\":[{\"status\":" ++ decimal status ++ codes ",\"message\":" ++ quoted message ++ codes "}]}"

abbrev pub json_kind : List ℕ
json_kind = codes "application/json"

abbrev pub content_kind : List ℕ
content_kind = codes "application/octet-stream"

-- a whole reply with a JSON body
abbrev pub json_reply : ℕ → List ℕ → List ℕ
json_reply status body = head_bytes status json_kind None (length body) ++ body

-- a refusal's whole reply
abbrev pub refused : ℕ → List ℕ → List ℕ
refused status message = json_reply status (error_body status message)

-- the head of that reply, which is all that answers a HEAD (RFC 9110, section 9.3.2)
abbrev pub refused_head : ℕ → List ℕ → List ℕ
refused_head status message = head_bytes status json_kind None (length (error_body status message))

-- an item as messages name it
abbrev pub item_text : Key → List ℕ
item_text key = key.repo ++ 47 ∷ whole_of key
