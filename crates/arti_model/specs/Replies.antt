-- The head of a reply (RFC 9112, sections 4 and 5).
use Rattle.std.specs.Prelude.{ℕ, List, [], ◌∷◌, ◌++◌, IsTrue, Option, Some, None, unwrap_or, codes, decimal, if◌then◌else◌, ◌==◌}
use Rattle.std.specs.List.{list_any}
use Rattle.http.specs.StatusCode.{reason_phrase}
use Rattle.hex.specs.Hex.{encode_lower}
use Rattle.arti_rows.specs.declared.rows.Digests.{Digests}

-- the statuses that replies have
abbrev pub reply_statuses : List ℕ
reply_statuses = 200 ∷ 201 ∷ 204 ∷ 400 ∷ 404 ∷ 405 ∷ 409 ∷ 413 ∷ 500 ∷ 501 ∷ 502 ∷ 507 ∷ []

-- a reply may have that status
abbrev pub IsReplyStatus : ℕ → Type 0
IsReplyStatus status = IsTrue (list_any (λ s. s == status) reply_statuses)

-- the phrase of a status (RFC 9110, section 15)
abbrev pub phrase_of : ℕ → List ℕ
phrase_of status = unwrap_or (reason_phrase status) []

-- CR and LF
abbrev pub line_end : List ℕ
line_end = 13 ∷ 10 ∷ []

-- the first line
abbrev pub status_line : ℕ → List ℕ
status_line status = codes "HTTP/1.1 " ++ decimal status ++ codes " " ++ phrase_of status ++ line_end

-- the line of one field
abbrev pub field_line : List ℕ → List ℕ → List ℕ
field_line name value = name ++ codes ": " ++ value ++ line_end

-- the three digests of a content, in hexadecimal small letters, where they are told
abbrev pub digest_lines : Option Digests → List ℕ
digest_lines None = []
digest_lines (Some digests) =
    field_line (codes "X-Checksum-Md5") (encode_lower digests.md5)
    ++ field_line (codes "X-Checksum-Sha1") (encode_lower digests.sha1)
    ++ field_line (codes "X-Checksum-Sha256") (encode_lower digests.sha256)

-- the lines of a reply that has a body of that kind, of len bytes
abbrev pub body_lines : List ℕ → Option Digests → ℕ → List ℕ
body_lines kind digests len =
    field_line (codes "Content-Type") kind ++ digest_lines digests ++ field_line (codes "Content-Length") (decimal len)

-- the head of a reply with the empty line behind it; 204 says nothing of a body
abbrev pub head_bytes : ℕ → List ℕ → Option Digests → ℕ → List ℕ
head_bytes status kind digests len =
    status_line status ++ (if status == 204 then [] else body_lines kind digests len) ++ line_end
