-- Texts of properties and lists of property keys (of this project, after the matrix parameters of JFrog's manuals). A
-- text is pairs `key=value` or `key=v1,v2`, separated by `;`; a backslash makes one of , ; = | \ an ordinary character.
use Rattle.std.specs.Prelude.{ℕ, Bool, true, false, not, ◌&&◌, ◌||◌, ◌==◌, nat_lt, nat_le, if◌then◌else◌, map, List, [], ◌∷◌, length, Option, Some, None, encode_utf8_all}
use Rattle.std.specs.Str.{chars}
use Rattle.std.specs.List.{list_all, list_any, slice_split, filter, flat_map, fold, before_first, after_first}
use Rattle.std.specs.BTreeSet.{insert_key}
use Rattle.std.specs.Ordering.{nat_cmp, ordering_then}
use Rattle.std.specs.Cmp.Lexicographic.{slice_cmp}
use Rattle.std.specs.declared.cmp.Ordering.{Ordering}
use Rattle.arti_rows.specs.declared.mark.Mark.{Mark}
use Rattle.arti_rows.specs.declared.rows.Property.{Property}

-- the characters before which a backslash isn't itself: , ; = | \
abbrev pub escapable : List ℕ
escapable = 44 ∷ 59 ∷ 61 ∷ 124 ∷ 92 ∷ []

-- a backslash, and one of these
abbrev pub is_escape : ℕ → ℕ → Bool
is_escape c d = c == 92 && list_any (λ e. e == d) escapable

-- the characters that a text's characters stand for, each with whether a backslash stood before it
abbrev pub marks_of : List ℕ → List Mark
marks_of [] = []
marks_of (c ∷ []) = record { char = c; escaped = false } ∷ []
marks_of (c ∷ d ∷ rest) = if is_escape c d then record { char = d; escaped = true } ∷ marks_of rest else record { char = c; escaped = false } ∷ marks_of (d ∷ rest)

-- such a character that no backslash stood before
abbrev pub ends : ℕ → Mark → Bool
ends c m = m.char == c && not m.escaped

-- the text of such characters
abbrev pub text_of : List Mark → List ℕ
text_of marks = encode_utf8_all (map (λ m. m.char) marks)

-- a control character
abbrev pub is_control_byte : ℕ → Bool
is_control_byte b = nat_lt b 32 || b == 127

-- space = ; , | * ? { } "
abbrev pub barred_in_keys : List ℕ
barred_in_keys = 32 ∷ 61 ∷ 59 ∷ 44 ∷ 124 ∷ 42 ∷ 63 ∷ 123 ∷ 125 ∷ 34 ∷ []

-- a byte that no property's key has
abbrev pub is_barred_in_key : ℕ → Bool
is_barred_in_key b = is_control_byte b || list_any (λ c. c == b) barred_in_keys

-- a property's key: 1 to 255 bytes, none of them barred
abbrev pub is_prop_key : List ℕ → Bool
is_prop_key key = nat_lt 0 (length key) && nat_le (length key) 255 && not (list_any is_barred_in_key key)

-- a property's value: at most 2,048 bytes, no control character
abbrev pub is_prop_value : List ℕ → Bool
is_prop_value value = nat_le (length value) 2048 && not (list_any is_control_byte value)

-- the order of properties: by key, then value, each in byte order
abbrev pub property_cmp : Property → Property → Ordering
property_cmp a b = ordering_then (slice_cmp nat_cmp a.key b.key) (slice_cmp nat_cmp a.value b.value)

-- what is in a list, ascending, each once
abbrev pub in_order : {K : Type 0} → (K → K → Ordering) → List K → List K
in_order cmp keys = fold (insert_key cmp) [] keys

-- some characters
abbrev pub has_marks : List Mark → Bool
has_marks marks = nat_lt 0 (length marks)

-- the parts between `;`, empty ones passed over
abbrev pub pieces_of : List Mark → List (List Mark)
pieces_of marks = filter has_marks (slice_split (ends 59) marks)

-- the key of a piece: what stands before its first `=`
abbrev pub key_in : List Mark → List ℕ
key_in piece = text_of (before_first (ends 61) piece)

-- the texts between the `,`
abbrev pub values_at : List Mark → List (List ℕ)
values_at marks = map text_of (slice_split (ends 44) marks)

-- the pairs of a key with each of them
abbrev pub pairs_at : List ℕ → List Mark → List Property
pairs_at key marks = map (λ value. record { key = key; value = value }) (values_at marks)

-- the values of a piece stand behind its first `=`
abbrev pub values_in : List Mark → List (List ℕ)
values_in piece = values_at (after_first (ends 61) piece)

-- the pairs of a piece
abbrev pub pairs_in : List Mark → List Property
pairs_in piece = pairs_at (key_in piece) (after_first (ends 61) piece)

-- a piece with a `=`, a good key and good values
abbrev pub is_good_piece : List Mark → Bool
is_good_piece piece = list_any (ends 61) piece && (is_prop_key (key_in piece) && list_all is_prop_value (values_in piece))

-- the pairs of all pieces, in order, each once
abbrev pub pairs_of : List Mark → List Property
pairs_of marks = in_order property_cmp (flat_map pairs_in (pieces_of marks))

-- the properties that a text gives: each piece is good, and there are 1 to 1,024 pairs, one that is given twice counted once
abbrev pub props_of : List ℕ → Option (List Property)
props_of text =
    let marks = marks_of (chars text) in
    if list_all is_good_piece (pieces_of marks) && (nat_lt 0 (length (pairs_of marks)) && nat_le (length (pairs_of marks)) 1024) then Some (pairs_of marks) else None

-- the keys of a list that is separated by commas, in byte order, each once; there are no escapes
abbrev pub keys_of_text : List ℕ → Option (List (List ℕ))
keys_of_text text =
    let parts = slice_split (λ b. b == 44) text in
    if list_all is_prop_key parts then Some (in_order (slice_cmp nat_cmp) parts) else None
