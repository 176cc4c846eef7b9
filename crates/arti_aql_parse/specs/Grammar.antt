-- The grammar of a query, over the tokens of its text. Each relation says that tokens begin with a part, what the part is,
-- and which tokens follow it. The number is how many braces and brackets may still be opened.
use Rattle.std.specs.Prelude.{◌≡◌, ◌≢◌, ◌<◌, ◌+◌, ℕ, List, [], ◌∷◌, Bool, true, false, Some, None, is_none}
use Rattle.arti_aql_lex.specs.Lexed.{Lexed}
use Rattle.arti_aql_lex.specs.declared.token.TokenKind.{TokenKind}
use Rattle.arti_aql_lex.specs.declared.token.TokenKind.TheVariants.{Name, Words, Number, Dot, Open, Close, ObjectOpen, ObjectClose, ListOpen, ListClose, Colon, Comma, End}
use Rattle.arti_aql_parse.specs.Words as word
use Rattle.arti_aql_parse.specs.Separated.{separated}
use Rattle.arti_aql_parse.specs.Front.{kind_at, first_value, tail, literal_at}
use Rattle.arti_aql_parse.specs.Tree.{PlainMember, tests, group, Members, no_members, member, Objects, no_objects, object, PlainQuery}
use Rattle.arti_aql_parse.specs.declared.query.Lit.{Lit}
use Rattle.arti_aql_parse.specs.declared.query.Op.TheVariants.{Eq}
use Rattle.arti_aql_parse.specs.declared.query.Test.{Test}
use Rattle.arti_aql_parse.specs.declared.query.Sort.{Sort}
use Rattle.arti_aql_parse.specs.declared.query.Suffixes.{Suffixes}
use Rattle.arti_aql_parse.specs.declared.words.Group.{Group}
use Rattle.arti_aql_parse.specs.declared.words.Suffix.{Suffix}
use Rattle.arti_aql_parse.specs.declared.words.Suffix.TheVariants as suffix

-- a mark of this kind stands at the front, and these tokens behind it
pub record Mark (kind : TokenKind) (a b : Lexed) : Type 0 where
  pub here : kind_at a ≡ Some kind
  pub rest : b ≡ tail a

-- `text`
pub record ReadsText (a : Lexed) (x : List ℕ) (b : Lexed) : Type 0 where
  pub here : kind_at a ≡ Some Words
  pub value : x ≡ first_value a
  pub rest : b ≡ tail a

-- `text , text .. close`
pub data ReadsTexts (close : TokenKind) : Lexed → List (List ℕ) → Lexed → Type 0 where
  last_text : {a b c : Lexed} {x : List ℕ} → ReadsText a x b → Mark close b c → ReadsTexts close a (x ∷ []) c
  more_texts : {a b c d : Lexed} {x : List ℕ} {xs : List (List ℕ)} → ReadsText a x b → Mark Comma b c → ReadsTexts close c xs d → ReadsTexts close a (x ∷ xs) d

-- `"operator" : literal`
pub record ReadsTest (a : Lexed) (x : Test) (b : Lexed) : Type 0 where
  pub here : kind_at a ≡ Some Words
  pub operator : word.op_of (first_value a) ≡ Some x.op
  pub colon : kind_at (tail a) ≡ Some Colon
  pub literal : literal_at (tail (tail a)) ≡ Some x.value
  pub rest : b ≡ tail (tail (tail a))

-- `test , test .. }`
pub data ReadsTests : Lexed → List Test → Lexed → Type 0 where
  last_test : {a b c : Lexed} {x : Test} → ReadsTest a x b → Mark ObjectClose b c → ReadsTests a (x ∷ []) c
  more_tests : {a b c d : Lexed} {x : Test} {xs : List Test} → ReadsTest a x b → Mark Comma b c → ReadsTests c xs d → ReadsTests a (x ∷ xs) d

-- `"key" :`
pub record ReadsKey (a : Lexed) (key : List ℕ) (b : Lexed) : Type 0 where
  pub here : kind_at a ≡ Some Words
  pub value : key ≡ first_value a
  pub colon : kind_at (tail a) ≡ Some Colon
  pub rest : b ≡ tail (tail a)

-- a text that may stand for a field
pub record IsField (key : List ℕ) : Type 0 where
  pub plain : word.group_of key ≡ None
  pub other : word.begins_with_dollar key ≡ false

-- `literal` or `{ test , test .. }`
pub data ReadsOperand : ℕ → Lexed → List Test → Lexed → Type 0 where
  equals : {n : ℕ} {a b : Lexed} {x : Lit} → kind_at a ≢ Some ObjectOpen → literal_at a ≡ Some x → b ≡ tail a → ReadsOperand n a (record { op = Eq; value = x } ∷ []) b
  compares : {n : ℕ} {a b c : Lexed} {xs : List Test} → 0 < n → Mark ObjectOpen a b → ReadsTests b xs c → ReadsOperand n a xs c

mutual
  -- `{ member , member .. }`
  pub data ReadsObject : ℕ → Lexed → Members → Lexed → Type 0 where
    no_member : {n : ℕ} {a b c : Lexed} → 0 < n → Mark ObjectOpen a b → Mark ObjectClose b c → ReadsObject n a no_members c
    some_members : {n m : ℕ} {a b c : Lexed} {ms : Members} → n ≡ m + 1 → Mark ObjectOpen a b → ReadsMembers m b ms c → ReadsObject n a ms c

  -- `member , member .. }`
  pub data ReadsMembers : ℕ → Lexed → Members → Lexed → Type 0 where
    last_member : {n : ℕ} {a b c : Lexed} {m : PlainMember} → ReadsMember n a m b → Mark ObjectClose b c → ReadsMembers n a (member m no_members) c
    more_members : {n : ℕ} {a b c d : Lexed} {m : PlainMember} {ms : Members} → ReadsMember n a m b → Mark Comma b c → ReadsMembers n c ms d → ReadsMembers n a (member m ms) d

  -- `"$and" : [ object , object .. ]` or `"field" : operand`
  pub data ReadsMember : ℕ → Lexed → PlainMember → Lexed → Type 0 where
    list : {n m : ℕ} {a b c d : Lexed} {key : List ℕ} {join : Group} {os : Objects} → ReadsKey a key b → word.group_of key ≡ Some join → n ≡ m + 1 → Mark ListOpen b c → ReadsObjects m ListClose c os d → ReadsMember n a (group join os) d
    field : {n : ℕ} {a b c : Lexed} {key : List ℕ} {xs : List Test} → ReadsKey a key b → IsField key → ReadsOperand n b xs c → ReadsMember n a (tests key xs) c

  -- `object , object .. close`
  pub data ReadsObjects : ℕ → TokenKind → Lexed → Objects → Lexed → Type 0 where
    last_object : {n : ℕ} {close : TokenKind} {a b c : Lexed} {o : Members} → ReadsObject n a o b → Mark close b c → ReadsObjects n close a (object o no_objects) c
    more_objects : {n : ℕ} {close : TokenKind} {a b c d : Lexed} {o : Members} {os : Objects} → ReadsObject n a o b → Mark Comma b c → ReadsObjects n close c os d → ReadsObjects n close a (object o os) d

-- `{ "$asc" : [`
pub record ReadsOrder (a : Lexed) (descending : Bool) (b : Lexed) : Type 0 where
  pub brace : kind_at a ≡ Some ObjectOpen
  pub words : kind_at (tail a) ≡ Some Words
  pub order : word.order_of (first_value (tail a)) ≡ Some descending
  pub colon : kind_at (tail (tail a)) ≡ Some Colon
  pub bracket : kind_at (tail (tail (tail a))) ≡ Some ListOpen
  pub rest : b ≡ tail (tail (tail (tail a)))

-- `{ "$asc" : [ text , text .. ] } )`
pub record ReadsSort (a : Lexed) (x : Sort) (e : Lexed) : Type 0 where
  pub fields : Lexed
  pub brace : Lexed
  pub close : Lexed
  pub order : ReadsOrder a x.descending fields
  pub texts : ReadsTexts ListClose fields x.fields brace
  pub end_brace : Mark ObjectClose brace close
  pub end : Mark Close close e

-- `number )`
pub record ReadsNatural (a : Lexed) (n : ℕ) (b : Lexed) : Type 0 where
  pub here : kind_at a ≡ Some Number
  pub value : word.natural_of (first_value a) ≡ Some n
  pub end : kind_at (tail a) ≡ Some Close
  pub rest : b ≡ tail (tail a)

-- `true )` or `false )`
pub record ReadsTruth (a : Lexed) (x : Bool) (b : Lexed) : Type 0 where
  pub here : kind_at a ≡ Some Name
  pub value : word.truth_of (first_value a) ≡ Some x
  pub end : kind_at (tail a) ≡ Some Close
  pub rest : b ≡ tail (tail a)

-- whether a suffix was not given before
abbrev pub is_fresh : Suffixes → Suffix → Bool
is_fresh given suffix.Include = is_none given.include
is_fresh given suffix.Sort = is_none given.sort
is_fresh given suffix.Offset = is_none given.offset
is_fresh given suffix.Limit = is_none given.limit
is_fresh given suffix.Distinct = is_none given.distinct

-- `name (`, the name of a suffix that was not given before
pub record ReadsName (given : Suffixes) (a : Lexed) (x : Suffix) (b : Lexed) : Type 0 where
  pub here : kind_at a ≡ Some Name
  pub name : word.suffix_of (first_value a) ≡ Some x
  pub fresh : is_fresh given x ≡ true
  pub open_mark : kind_at (tail a) ≡ Some Open
  pub rest : b ≡ tail (tail a)

-- one suffix, behind its dot
pub data ReadsSuffix : Suffixes → Lexed → Suffixes → Lexed → Type 0 where
  include : {given : Suffixes} {a b c : Lexed} {xs : List (List ℕ)} → ReadsName given a suffix.Include b → ReadsTexts Close b xs c → ReadsSuffix given a (record given { include = Some xs }) c
  sort : {given : Suffixes} {a b c : Lexed} {x : Sort} → ReadsName given a suffix.Sort b → ReadsSort b x c → ReadsSuffix given a (record given { sort = Some x }) c
  offset : {given : Suffixes} {a b c : Lexed} {n : ℕ} → ReadsName given a suffix.Offset b → ReadsNatural b n c → ReadsSuffix given a (record given { offset = Some n }) c
  limit : {given : Suffixes} {a b c : Lexed} {n : ℕ} → ReadsName given a suffix.Limit b → ReadsNatural b n c → ReadsSuffix given a (record given { limit = Some n }) c
  distinct : {given : Suffixes} {a b c : Lexed} {x : Bool} → ReadsName given a suffix.Distinct b → ReadsTruth b x c → ReadsSuffix given a (record given { distinct = Some x }) c

-- suffixes in any order, each once, up to the end of the text
pub data ReadsSuffixes : Suffixes → Lexed → Suffixes → Type 0 where
  no_more : {given : Suffixes} {a : Lexed} → kind_at a ≡ Some End → ReadsSuffixes given a given
  one_more : {given next all : Suffixes} {a b c : Lexed} → Mark Dot a b → ReadsSuffix given b next c → ReadsSuffixes next c all → ReadsSuffixes given a all

-- `name . name .. find (`, with the names before `find`
pub data ReadsHead : Lexed → List (List ℕ) → Lexed → Type 0 where
  find : {a b : Lexed} → kind_at a ≡ Some Name → word.is_find (first_value a) ≡ true → Mark Open (tail a) b → ReadsHead a [] b
  part : {a b c : Lexed} {x : List ℕ} {xs : List (List ℕ)} → kind_at a ≡ Some Name → x ≡ first_value a → Mark Dot (tail a) b → ReadsHead b xs c → ReadsHead a (x ∷ xs) c

-- the names of a domain, with dots between them
abbrev pub joined : List (List ℕ) → List ℕ
joined = separated 46

abbrev pub no_suffixes : Suffixes
no_suffixes = record { include = None; sort = None; offset = None; limit = None; distinct = None }

-- at most so many braces and brackets are open at once
abbrev pub most_levels : ℕ
most_levels = 32

-- `)` or `object , object .. )`
pub data ReadsCriteria : Lexed → Objects → Lexed → Type 0 where
  no_criteria : {a b : Lexed} → Mark Close a b → ReadsCriteria a no_objects b
  criteria : {a b : Lexed} {os : Objects} → ReadsObjects most_levels Close a os b → ReadsCriteria a os b

-- a whole query
pub record ReadsQuery (a : Lexed) (q : PlainQuery) : Type 0 where
  pub names : List (List ℕ)
  pub open_mark : Lexed
  pub close_mark : Lexed
  pub head : ReadsHead a names open_mark
  pub domain : q.domain ≡ joined names
  pub find : ReadsCriteria open_mark q.find close_mark
  pub suffixes : ReadsSuffixes no_suffixes close_mark q.suffixes
