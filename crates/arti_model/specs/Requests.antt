-- The requests in a stream of bytes: heads of HTTP/1.1 (RFC 9112), with limits of this project.
use Rattle.std.specs.Prelude.{◌≡◌, ℕ, ◌+◌, ◌-◌, ◌<◌, ◌≤◌, ◌⊎◌, Bool, true, false, ◌&&◌, ◌||◌, not, List, [], ◌∷◌, ◌++◌, length, take, drop, map, filter, take_while, codes, if◌then◌else◌, ◌==◌, nat_lt, nat_le, Option, Some, None, option_map, MatchBool}
use Rattle.std.specs.List.{list_any, list_all, slice_split}
use Rattle.std.specs.Char.{is_ascii_digit}
use Rattle.std.specs.Str.{bytes_eq, str_eq_ignore_ascii_case}
use Rattle.std.specs.Str.Parse.{digits_value}
use Rattle.httparse.specs.Grammar.{ReadsRequest, RequestHead, print_request, trim_ows}
use Rattle.httparse.specs.Spans.{name_and_value}
use Rattle.arti_model.specs.declared.Why.{Why}
use Rattle.arti_model.specs.declared.Why.TheVariants.{BadHead, HeadTooLarge, BadLength, UnknownCoding, BodyTooLarge}

-- a field's name as it was sent, and its value without the spaces and tabs round it
abbrev pub FieldText : Type 0
FieldText = List ℕ × List ℕ

-- a request's head as it is handed on; after the last request the stream is not read on
pub record Request : Type 0 where
  pub method : List ℕ
  pub target : List ℕ
  pub fields : List FieldText
  pub last : Bool

-- a request with its whole body
pub record Whole : Type 0 where
  pub head : Request
  pub body : List ℕ

-- how a stream of requests ends
pub data Ending : Type 0 where
  End : Ending
  Cut : Ending
  Bad : Why → Ending
  TooMany : Ending

-- ---- the fields of a head

-- the values of all fields of that name, in order; names are compared without ASCII case
abbrev pub values_of : List ℕ → List FieldText → List (List ℕ)
values_of name fields =
    map (λ (f : FieldText). f.1) (filter (λ (f : FieldText). str_eq_ignore_ascii_case f.0 name) fields)

-- 1 to 18 decimal digits
abbrev pub is_length : List ℕ → Bool
is_length value = nat_lt 0 (length value) && nat_le (length value) 18 && list_all is_ascii_digit value

-- the values are one length, however often it is written, or there is none
abbrev pub is_one_length : List (List ℕ) → Bool
is_one_length [] = true
is_one_length (first ∷ others) = is_length first && list_all (λ other. bytes_eq other first) others

-- the length that they write, and 0 where there is none
abbrev pub length_of : List (List ℕ) → ℕ
length_of [] = 0
length_of (first ∷ others) = digits_value 10 first

-- whether the list has an element
abbrev pub has_some : List (List ℕ) → Bool
has_some values = nat_lt 0 (length values)

-- the length of the body, by `Content-Length` (RFC 9112, section 6)
abbrev pub body_length : List FieldText → ℕ
body_length fields = length_of (values_of (codes "Content-Length") fields)

-- what is wrong with the body that the fields announce, the first fault of several
abbrev pub body_fault : ℕ → List FieldText → Option Why
body_fault content fields =
    let lengths = values_of (codes "Content-Length") fields in
    let codings = values_of (codes "Transfer-Encoding") fields in
    if not (is_one_length lengths) || (has_some lengths && has_some codings) then Some BadLength else (
    if has_some codings then Some UnknownCoding else (
    if nat_lt content (length_of lengths) then Some BodyTooLarge else None))

-- the tokens of a list with commas, without the spaces and tabs round them (RFC 9110, section 5.6.1)
abbrev pub tokens : List ℕ → List (List ℕ)
tokens value = map trim_ows (slice_split (λ b. b == 44) value)

-- whether some field `Connection` has the token `close`, without ASCII case (RFC 9112, section 9.6)
abbrev pub has_close : List FieldText → Bool
has_close fields =
    list_any (λ value. list_any (λ token. str_eq_ignore_ascii_case token (codes "close")) (tokens value)) (values_of (codes "Connection") fields)

-- a head of the grammar, as it is handed on
abbrev pub request_of : RequestHead → Request
request_of h =
    let fields = map name_and_value h.fields in
    record { method = h.method; target = h.target; fields = fields; last = has_close fields }

-- ---- where a head ends

-- CR or LF
abbrev pub is_line_byte : ℕ → Bool
is_line_byte b = b == 13 || b == 10

-- the bytes behind the line ends that are passed over, of which there may be `most`
abbrev pub skip : ℕ → List ℕ → List ℕ
skip most bytes = drop (length (take_while is_line_byte (take most bytes))) bytes

-- whether the bytes begin with LF, or with CR LF
abbrev pub starts_line_end : List ℕ → Bool
starts_line_end [] = false
starts_line_end (a ∷ []) = a == 10
starts_line_end (a ∷ b ∷ bytes) = a == 10 || (a == 13 && b == 10)

-- how many LFs stand before the first empty line, which is a line end directly after an LF; that LF counts
abbrev pub lines_before_empty : List ℕ → Option ℕ
lines_before_empty [] = None
lines_before_empty (b ∷ bytes) =
    if b == 10 && starts_line_end bytes then Some 1 else option_map (λ n. if b == 10 then n + 1 else n) (lines_before_empty bytes)

-- the bytes begin with that whole head, of at most 32,768 bytes and 64 fields, and then rest
pub record StartsWithHead (bytes : List ℕ) (h : RequestHead) (rest : List ℕ) : Type 0 where
  pub reads : ReadsRequest bytes h rest
  pub size : length (print_request h) ≤ 32768
  pub count : length h.fields ≤ 64

-- the bytes begin with no such head
abbrev pub HasNoHead : List ℕ → Type 0
HasNoHead bytes = (h : RequestHead) (rest : List ℕ) → ¬ (StartsWithHead bytes h rest)

-- ---- what the bytes begin with

-- the end of the bytes; a cut; something bad; or a head, the length of its body, and all bytes behind the head
pub data Start : Type 0 where
  AtEnd : Start
  AtCut : Start
  AtBad : Why → Start
  Head : Request → ℕ → List ℕ → Start

-- the start, unless something is bad
abbrev pub unless_bad : Option Why → Start → Start
unless_bad None start = start
unless_bad (Some why) start = AtBad why

-- the start where that head stands: a fault of its body, or the request
abbrev pub start_with : ℕ → RequestHead → List ℕ → Start
start_with content h rest =
    let fields = map name_and_value h.fields in
    unless_bad (body_fault content fields) (Head (request_of h) (body_length fields) rest)

-- the start where no head stands, by the number of lines before the empty line, if there is one, and the number of bytes
abbrev pub by_lines : Option ℕ → ℕ → Start
by_lines (Some lines) size = AtBad (if nat_lt 65 lines then HeadTooLarge else BadHead)
by_lines None size = if nat_lt size 32768 then AtCut else AtBad HeadTooLarge

-- the start where no head stands: the first 32,768 bytes decide
abbrev pub start_without : List ℕ → Start
start_without bytes = by_lines (lines_before_empty (take 32768 bytes)) (length bytes)

-- bytes that begin with no line end begin with a head, or with none
abbrev pub HeadOrNone : ℕ → List ℕ → Start → Type 0
HeadOrNone content bytes start =
    ((h : RequestHead) × (rest : List ℕ) × StartsWithHead bytes h rest × (start ≡ start_with content h rest))
    ⊎ (HasNoHead bytes × (start ≡ start_without bytes))

-- the start of bytes whose first line ends were passed over
abbrev pub StartsAt : ℕ → List ℕ → Start → Type 0
StartsAt content [] start = start ≡ AtEnd
StartsAt content (b ∷ bytes) start =
    MatchBool (is_line_byte b) (start ≡ AtBad BadHead) (HeadOrNone content (b ∷ bytes) start)

-- what the bytes begin with: up to 1,024 CRs and LFs are passed over
abbrev pub Begins : ℕ → List ℕ → Start → Type 0
Begins content bytes start = StartsAt content (skip 1024 bytes) start

-- ---- the whole stream

-- the bytes end so, where `most` more requests may be answered
abbrev pub EndsSo : ℕ → ℕ → List ℕ → Ending → Type 0
EndsSo content most bytes End = Begins content bytes AtEnd
EndsSo content most bytes Cut =
    (0 < most)
    × (Begins content bytes AtCut
    ⊎ ((q : Request) × (n : ℕ) × (rest : List ℕ) × Begins content bytes (Head q n rest) × (length rest < n)))
EndsSo content most bytes (Bad why) = (0 < most) × Begins content bytes (AtBad why)
EndsSo content most bytes TooMany = (most ≡ 0) × ¬ (Begins content bytes AtEnd)

-- the bytes are these requests and end so: a content has at most `content` bytes, and `most` requests are answered
abbrev pub RequestBytes : ℕ → ℕ → List ℕ → List Whole → Ending → Type 0
RequestBytes content most bytes [] ending = EndsSo content most bytes ending
RequestBytes content most bytes (q ∷ qs) ending =
    (after : List ℕ)
    × (0 < most)
    × Begins content bytes (Head q.head (length q.body) (q.body ++ after))
    × MatchBool q.head.last ((qs ≡ []) × (ending ≡ End)) (RequestBytes content (most - 1) after qs ending)
