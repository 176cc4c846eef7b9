-- The parts of a target, as they are read.
use Rattle.std.proofs.Common.{◌≡◌, ◌≢◌, ◌<◌, ℕ, Bool, true, false, List, length, refl, sym, ap, ◌∙◌, rules, tests}
use Rattle.std.specs.Prelude.{Result, Ok, Err, Some, None, nat_lt, if◌then◌else◌}
use Rattle.std.specs.List.{before_first, after_first, position_or_len}
use Rattle.std.specs.Str.{IsUtf8, is_utf8}
use Rattle.std.proofs.lemmas.Bool.{false_from_ne_true}
use Rattle.std.proofs.lemmas.Str.{IsUtf8-from_is_utf8, is_utf8-from_IsUtf8}
use Rattle.percent_encoding.specs.Percent.{percent_decode}
use Rattle.arti_rows.specs.declared.refusal.Refusal.{Refusal}
use Rattle.arti_rows.specs.declared.refusal.Refusal.TheVariants as refusal
use Rattle.arti_model.specs.Targets.{Target, Param, is_equals, part_read, path_read, path_part, text_part, query_of, param_read, params_read, without_context, target_read, bind}
use Rattle.arti_route.proofs.Steps.{bind-ok, bind-err}

-- ---- part_read

pub part_read-ok : (part text : List ℕ) → text ≡ percent_decode part → IsUtf8 (percent_decode part) → part_read part ≡ Ok text
part_read-ok part text is good =
    ap (λ (b : Bool). if b then Ok (percent_decode part) else Err refusal.BadTarget) (is_utf8-from_IsUtf8 (percent_decode part) good) ∙ ap Ok (sym is)

unread : (b : Bool) (text : List ℕ) → b ≢ true → (if b then Ok text else Err refusal.BadTarget) ≡ Err refusal.BadTarget
unread b text bad = ap (λ (t : Bool). if t then Ok text else Err refusal.BadTarget) (false_from_ne_true b bad)

pub part_read-err : (part : List ℕ) → (IsUtf8 (percent_decode part) → ⊥) → part_read part ≡ Err refusal.BadTarget
part_read-err part bad = unread (is_utf8 (percent_decode part)) (percent_decode part) (λ good. bad (IsUtf8-from_is_utf8 (percent_decode part) good))

-- ---- param_read

-- the name and the value that stand round the first `=`
pub record IsCutAt (text name value : List ℕ) : Type 0 where
  pub there : position_or_len is_equals text < length text
  pub name_is : name ≡ before_first is_equals text
  pub value_is : value ≡ after_first is_equals text

by_test : (text : List ℕ) (b : Bool) → nat_lt (position_or_len is_equals text) (length text) ≡ b
    → param_read text ≡ (if b then bind (part_read (after_first is_equals text)) (λ value. Ok (before_first is_equals text, Some value)) else Ok (text, None))
by_test text b is = ap (λ (t : Bool). if t then bind (part_read (after_first is_equals text)) (λ value. Ok (before_first is_equals text, Some value)) else Ok (text, None)) is

pub param_read-value : (text name value v : List ℕ) → IsCutAt text name value → part_read value ≡ Ok v → param_read text ≡ Ok (name, Some v)
param_read-value text name value v cut is =
    by_test text true (search (rules, tests, cut.there))
    ∙ bind-ok (part_read (after_first is_equals text)) (λ w. Ok (before_first is_equals text, Some w)) v (Ok (name, Some v)) (ap part_read (sym cut.value_is) ∙ is) (ap (λ n. Ok (n, Some v)) (sym cut.name_is))

pub param_read-err : (text name value : List ℕ) (why : Refusal) → IsCutAt text name value → part_read value ≡ Err why → param_read text ≡ Err why
param_read-err text name value why cut is =
    by_test text true (search (rules, tests, cut.there))
    ∙ bind-err (part_read (after_first is_equals text)) (λ w. Ok (before_first is_equals text, Some w)) why (ap part_read (sym cut.value_is) ∙ is)

pub param_read-name : (text : List ℕ) → position_or_len is_equals text ≡ length text → param_read text ≡ Ok (text, None)
param_read-name text none =
    let no : nat_lt (position_or_len is_equals text) (length text) ≡ false = ap (λ n. nat_lt n (length text)) none ∙ search (rules, tests) in
    by_test text false no

-- ---- target_read

-- the parts of a target before their escapes are read
pub record IsCut (target path text query : List ℕ) : Type 0 where
  pub path_is : path ≡ path_part target
  pub text_is : text ≡ text_part target
  pub query_is : query ≡ query_of target

-- the parts together
abbrev pub whole : List (List ℕ) → List ℕ → List Param → Result Target Refusal
whole segments text params = Ok (record { segments = without_context segments; text = text; params = params })

abbrev with_text : List ℕ → List (List ℕ) → List ℕ → Result Target Refusal
with_text target segments text = bind (params_read (query_of target)) (λ params. whole segments text params)

abbrev with_segments : List ℕ → List (List ℕ) → Result Target Refusal
with_segments target segments = bind (part_read (text_part target)) (λ text. with_text target segments text)

module _ (target path text query : List ℕ) (cut : IsCut target path text query) (segments : List (List ℕ)) (t : List ℕ) (params : List Param) where
  pub target_read-path : (why : Refusal) → path_read path ≡ Err why → target_read target ≡ Err why
  target_read-path why bad = bind-err (path_read (path_part target)) (with_segments target) why (ap path_read (sym cut.path_is) ∙ bad)

  read_path : (w : Result Target Refusal) → path_read path ≡ Ok segments → with_segments target segments ≡ w → target_read target ≡ w
  read_path w first rest = bind-ok (path_read (path_part target)) (with_segments target) segments w (ap path_read (sym cut.path_is) ∙ first) rest

  pub target_read-text : (why : Refusal) → path_read path ≡ Ok segments → part_read text ≡ Err why → target_read target ≡ Err why
  target_read-text why first bad = read_path (Err why) first (bind-err (part_read (text_part target)) (with_text target segments) why (ap part_read (sym cut.text_is) ∙ bad))

  read_text : (w : Result Target Refusal) → path_read path ≡ Ok segments → part_read text ≡ Ok t → with_text target segments t ≡ w → target_read target ≡ w
  read_text w first second rest = read_path w first (bind-ok (part_read (text_part target)) (with_text target segments) t w (ap part_read (sym cut.text_is) ∙ second) rest)

  pub target_read-params : (why : Refusal) → path_read path ≡ Ok segments → part_read text ≡ Ok t → params_read query ≡ Err why → target_read target ≡ Err why
  target_read-params why first second bad =
      read_text (Err why) first second (bind-err (params_read (query_of target)) (whole segments t) why (ap params_read (sym cut.query_is) ∙ bad))

  pub target_read-ok : path_read path ≡ Ok segments → part_read text ≡ Ok t → params_read query ≡ Ok params → target_read target ≡ whole segments t params
  target_read-ok first second third =
      read_text (whole segments t params) first second (bind-ok (params_read (query_of target)) (whole segments t) params (whole segments t params) (ap params_read (sym cut.query_is) ∙ third) refl)
