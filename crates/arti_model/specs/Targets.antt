-- The parts of a request's target. Escapes are those of the URL Standard, section 1.3 (RFC 3986, section 2.1); what the marks in a target mean
-- is of this project.
use Rattle.std.specs.Prelude.{Result, Ok, Err, ℕ, Bool, ◌==◌, nat_eq, nat_lt, if◌then◌else◌, List, [], ◌∷◌, length, drop, codes, Option, Some, None, option_map}
use Rattle.std.specs.List.{find, starts_with, before_first, after_first, position_or_len, slice_split}
use Rattle.std.specs.Str.{is_utf8}
use Rattle.std.specs.Cmp.Lexicographic.{pointwise}
use Rattle.percent_encoding.specs.Percent.{percent_decode}
use Rattle.arti_rows.specs.declared.refusal.Refusal.{Refusal}
use Rattle.arti_rows.specs.declared.refusal.Refusal.TheVariants as refusal

-- two texts are one
abbrev pub same_text : List ℕ → List ℕ → Bool
same_text a b = pointwise nat_eq a b

-- a parameter of the query: its name as it was sent, and the value behind its first `=`, if it has one
abbrev pub Param : Type 0
Param = List ℕ × Option (List ℕ)

-- the parts of a target, without escapes
pub record Target : Type 0 where
  -- of its path
  pub segments : List (List ℕ)
  -- what stands behind the first `;` of its path
  pub text : List ℕ
  pub params : List Param

-- ---- the marks, which are looked for before any escape is read

abbrev pub is_question : ℕ → Bool
is_question b = b == 63

abbrev pub is_semicolon : ℕ → Bool
is_semicolon b = b == 59

abbrev pub is_slash : ℕ → Bool
is_slash b = b == 47

abbrev pub is_ampersand : ℕ → Bool
is_ampersand b = b == 38

abbrev pub is_equals : ℕ → Bool
is_equals b = b == 61

-- a target is cut at its first `?`, and what stands before that at its first `;`
abbrev pub before_query : List ℕ → List ℕ
before_query target = before_first is_question target

abbrev pub query_of : List ℕ → List ℕ
query_of target = after_first is_question target

abbrev pub path_part : List ℕ → List ℕ
path_part target = before_first is_semicolon (before_query target)

abbrev pub text_part : List ℕ → List ℕ
text_part target = after_first is_semicolon (before_query target)

-- ---- steps that may refuse

-- a step, and those behind it
abbrev pub bind : {X Y : Type 0} → Result X Refusal → (X → Result Y Refusal) → Result Y Refusal
bind (Ok x) next = next x
bind (Err why) next = Err why

-- each of a list in turn, up to the first that is refused
abbrev pub each : {X Y : Type 0} → (X → Result Y Refusal) → List X → Result (List Y) Refusal
each read [] = Ok []
each read (x ∷ xs) = bind (read x) (λ first. bind (each read xs) (λ others. Ok (first ∷ others)))

-- ---- the parts

-- a part without its escapes, which is UTF-8
abbrev pub part_read : List ℕ → Result (List ℕ) Refusal
part_read part = if is_utf8 (percent_decode part) then Ok (percent_decode part) else Err refusal.BadTarget

-- the segments behind a path's first slash, each without its own escapes
abbrev pub segments_read : List ℕ → Result (List (List ℕ)) Refusal
segments_read path = each part_read (slice_split is_slash path)

-- a parameter, cut at its first `=` if it has one; only its value has escapes
abbrev pub param_read : List ℕ → Result Param Refusal
param_read text =
    if nat_lt (position_or_len is_equals text) (length text)
    then bind (part_read (after_first is_equals text)) (λ value. Ok (before_first is_equals text, Some value))
    else Ok (text, None)

-- the parameters of a query
abbrev pub params_read : List ℕ → Result (List Param) Refusal
params_read query = each param_read (slice_split is_ampersand query)

-- a first segment `artifactory` says nothing
abbrev pub without_context : List (List ℕ) → List (List ℕ)
without_context [] = []
without_context (first ∷ others) = if same_text first (codes "artifactory") then others else first ∷ others

-- a path's segments behind its leading slash
abbrev pub path_read : List ℕ → Result (List (List ℕ)) Refusal
path_read path = if starts_with nat_eq path (codes "/") then segments_read (drop 1 path) else Err refusal.BadTarget

abbrev pub target_read : List ℕ → Result Target Refusal
target_read target =
    bind (path_read (path_part target)) (λ segments.
    bind (part_read (text_part target)) (λ text.
    bind (params_read (query_of target)) (λ params.
    Ok (record { segments = without_context segments; text = text; params = params }))))

-- ---- what is looked up in them

-- the first parameter of that name, and its value
abbrev pub param : List Param → List ℕ → Option (Option (List ℕ))
param params name = option_map (λ (p : Param). p.1) (find (λ (p : Param). same_text p.0 name) params)
