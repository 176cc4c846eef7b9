-- The words that the grammar gives a meaning, after unescaping.
use Rattle.std.specs.Prelude.{ℕ, ◌+◌, ◌-◌, ◌*◌, List, Bool, true, false, if◌then◌else◌, ◌==◌, ◌&&◌, not, Option, Some, None, is_some, ◌||◌, codes, fold, ℤ, pos, neg_ℤ, length, drop, slice_index}
use Rattle.std.specs.Str.{bytes_eq}
use Rattle.arti_aql_parse.specs.declared.query.Op.{Op}
use Rattle.arti_aql_parse.specs.declared.query.Op.TheVariants.{Eq, Ne, Gt, Gte, Lt, Lte, Match, Nmatch, Before, Last}
use Rattle.arti_aql_parse.specs.declared.words.Group.{Group}
use Rattle.arti_aql_parse.specs.declared.words.Group.TheVariants.{All, Any, Same}
use Rattle.arti_aql_parse.specs.declared.words.Suffix.{Suffix}
use Rattle.arti_aql_parse.specs.declared.words.Suffix.TheVariants.{Include, Sort, Offset, Limit, Distinct}

-- the keys of lists of objects
unfoldable pub group_of : List ℕ → Option Group
group_of key =
    if bytes_eq key (codes "$and") then Some All
    else if bytes_eq key (codes "$or") then Some Any
    else if bytes_eq key (codes "$msp") then Some Same
    else None

-- the operators
unfoldable pub op_of : List ℕ → Option Op
op_of name =
    if bytes_eq name (codes "$eq") then Some Eq
    else if bytes_eq name (codes "$ne") then Some Ne
    else if bytes_eq name (codes "$gt") then Some Gt
    else if bytes_eq name (codes "$gte") then Some Gte
    else if bytes_eq name (codes "$lt") then Some Lt
    else if bytes_eq name (codes "$lte") then Some Lte
    else if bytes_eq name (codes "$match") then Some Match
    else if bytes_eq name (codes "$nmatch") then Some Nmatch
    else if bytes_eq name (codes "$before") then Some Before
    else if bytes_eq name (codes "$last") then Some Last
    else None

-- the names of suffixes
unfoldable pub suffix_of : List ℕ → Option Suffix
suffix_of name =
    if bytes_eq name (codes "include") then Some Include
    else if bytes_eq name (codes "sort") then Some Sort
    else if bytes_eq name (codes "offset") then Some Offset
    else if bytes_eq name (codes "limit") then Some Limit
    else if bytes_eq name (codes "distinct") then Some Distinct
    else None

unfoldable pub truth_of : List ℕ → Option Bool
truth_of name = if bytes_eq name (codes "true") then Some true else if bytes_eq name (codes "false") then Some false else None

-- whether a sort descends
unfoldable pub order_of : List ℕ → Option Bool
order_of name = if bytes_eq name (codes "$asc") then Some false else if bytes_eq name (codes "$desc") then Some true else None

unfoldable pub is_null : List ℕ → Bool
is_null name = bytes_eq name (codes "null")

unfoldable pub is_find : List ℕ → Bool
is_find name = bytes_eq name (codes "find")

abbrev pub begins_with_dollar : List ℕ → Bool
begins_with_dollar key = not (length key == 0) && (slice_index key 0 == 36)

-- the number that digits write
abbrev pub digits_value : List ℕ → ℕ
digits_value digits = fold (λ n b. n * 10 + (b - 48)) 0 digits

abbrev pub is_negative : List ℕ → Bool
is_negative bytes = slice_index bytes 0 == 45

-- the number that a token writes
unfoldable pub number_of : List ℕ → ℤ
number_of bytes = if is_negative bytes then neg_ℤ (pos (digits_value (drop 1 bytes))) else pos (digits_value bytes)

-- the same, where it isn't negative
unfoldable pub natural_of : List ℕ → Option ℕ
natural_of bytes =
    if is_negative bytes then (if digits_value (drop 1 bytes) == 0 then Some 0 else None)
    else Some (digits_value bytes)

-- a text that may stand before a member's colon
abbrev pub is_key : List ℕ → Bool
is_key key = is_some (group_of key) || not (begins_with_dollar key)
