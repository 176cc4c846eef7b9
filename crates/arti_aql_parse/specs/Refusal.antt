-- Where tokens are no query, and the part that should begin there, by the cases of the grammar.
use Rattle.std.specs.Prelude.{◌≡◌, ◌≢◌, ◌<◌, ◌+◌, ℕ, List, Bool, true, false, Some, None}
use Rattle.arti_aql_lex.specs.Lexed.{Lexed}
use Rattle.arti_aql_lex.specs.declared.token.TokenKind.{TokenKind}
use Rattle.arti_aql_lex.specs.declared.token.TokenKind.TheVariants.{Name, Words, Number, Dot, Open, Close, ObjectOpen, ObjectClose, ListOpen, ListClose, Colon, Comma, End}
use Rattle.arti_rows.specs.declared.refusal.What.TheVariants as what
use Rattle.arti_aql_parse.specs.Words as word
use Rattle.arti_aql_parse.specs.Front.{kind_at, first_value, tail, literal_at, wrong}
use Rattle.arti_aql_parse.specs.Tree.{PlainMember, Members, Objects}
use Rattle.arti_aql_parse.specs.Grammar.{Mark, IsField, ReadsKey, ReadsText, ReadsTest, ReadsTexts, ReadsObject, ReadsMember, ReadsOrder, ReadsName, ReadsSuffix, ReadsHead, ReadsCriteria, is_fresh, no_suffixes, most_levels}
use Rattle.arti_aql_parse.specs.declared.fault.ReadFault.{ReadFault}
use Rattle.arti_aql_parse.specs.declared.fault.ReadFault.TheVariants.{TooDeep}
use Rattle.arti_aql_parse.specs.declared.query.Op.{Op}
use Rattle.arti_aql_parse.specs.declared.query.Test.{Test}
use Rattle.arti_aql_parse.specs.declared.query.Suffixes.{Suffixes}
use Rattle.arti_aql_parse.specs.declared.words.Group.{Group}
use Rattle.arti_aql_parse.specs.declared.words.Suffix.{Suffix}
use Rattle.arti_aql_parse.specs.declared.words.Suffix.TheVariants as suffix

-- behind an element neither a comma nor the closing mark stands
pub record NoneFollows (close : TokenKind) (b : Lexed) (f : ReadFault) : Type 0 where
  pub comma : kind_at b ≢ Some Comma
  pub end : kind_at b ≢ Some close
  pub refusal : f ≡ wrong what.CommaOrClose b

pub data RefusesTexts (close : TokenKind) : Lexed → ReadFault → Type 0 where
  no_text : {a : Lexed} {f : ReadFault} → kind_at a ≢ Some Words → f ≡ wrong what.Text a → RefusesTexts close a f
  after_text : {a b : Lexed} {x : List ℕ} {f : ReadFault} → ReadsText a x b → NoneFollows close b f → RefusesTexts close a f
  later_text : {a b c : Lexed} {x : List ℕ} {f : ReadFault} → ReadsText a x b → Mark Comma b c → RefusesTexts close c f → RefusesTexts close a f

pub data RefusesTest : Lexed → ReadFault → Type 0 where
  no_words : {a : Lexed} {f : ReadFault} → kind_at a ≢ Some Words → f ≡ wrong what.Operator a → RefusesTest a f
  no_operator : {a : Lexed} {f : ReadFault} → kind_at a ≡ Some Words → word.op_of (first_value a) ≡ None → f ≡ wrong what.Operator a → RefusesTest a f
  no_colon : {a : Lexed} {op : Op} {f : ReadFault} → kind_at a ≡ Some Words → word.op_of (first_value a) ≡ Some op → kind_at (tail a) ≢ Some Colon → f ≡ wrong what.Colon (tail a) → RefusesTest a f
  no_literal : {a : Lexed} {op : Op} {f : ReadFault} → kind_at a ≡ Some Words → word.op_of (first_value a) ≡ Some op → kind_at (tail a) ≡ Some Colon → literal_at (tail (tail a)) ≡ None → f ≡ wrong what.Literal (tail (tail a)) → RefusesTest a f

pub data RefusesTests : Lexed → ReadFault → Type 0 where
  no_test : {a : Lexed} {f : ReadFault} → RefusesTest a f → RefusesTests a f
  after_test : {a b : Lexed} {x : Test} {f : ReadFault} → ReadsTest a x b → NoneFollows ObjectClose b f → RefusesTests a f
  later_test : {a b c : Lexed} {x : Test} {f : ReadFault} → ReadsTest a x b → Mark Comma b c → RefusesTests c f → RefusesTests a f

pub data RefusesKey : Lexed → ReadFault → Type 0 where
  no_key : {a : Lexed} {f : ReadFault} → kind_at a ≢ Some Words → f ≡ wrong what.Key a → RefusesKey a f
  bad_key : {a : Lexed} {f : ReadFault} → kind_at a ≡ Some Words → word.group_of (first_value a) ≡ None → word.begins_with_dollar (first_value a) ≡ true → f ≡ wrong what.Key a → RefusesKey a f
  no_key_colon : {a : Lexed} {f : ReadFault} → kind_at a ≡ Some Words → word.is_key (first_value a) ≡ true → kind_at (tail a) ≢ Some Colon → f ≡ wrong what.Colon (tail a) → RefusesKey a f

pub data RefusesOperand : ℕ → Lexed → ReadFault → Type 0 where
  no_operand : {n : ℕ} {a : Lexed} {f : ReadFault} → kind_at a ≢ Some ObjectOpen → literal_at a ≡ None → f ≡ wrong what.Operand a → RefusesOperand n a f
  deep_tests : {n : ℕ} {a : Lexed} {f : ReadFault} → n ≡ 0 → kind_at a ≡ Some ObjectOpen → f ≡ TooDeep → RefusesOperand n a f
  in_tests : {n : ℕ} {a b : Lexed} {f : ReadFault} → 0 < n → Mark ObjectOpen a b → RefusesTests b f → RefusesOperand n a f

mutual
  pub data RefusesObject : ℕ → Lexed → ReadFault → Type 0 where
    no_object : {n : ℕ} {a : Lexed} {f : ReadFault} → kind_at a ≢ Some ObjectOpen → f ≡ wrong what.Object a → RefusesObject n a f
    deep_object : {n : ℕ} {a : Lexed} {f : ReadFault} → n ≡ 0 → kind_at a ≡ Some ObjectOpen → f ≡ TooDeep → RefusesObject n a f
    in_object : {n m : ℕ} {a b : Lexed} {f : ReadFault} → n ≡ m + 1 → Mark ObjectOpen a b → kind_at b ≢ Some ObjectClose → RefusesMembers m b f → RefusesObject n a f

  pub data RefusesMembers : ℕ → Lexed → ReadFault → Type 0 where
    no_member : {n : ℕ} {a : Lexed} {f : ReadFault} → RefusesMember n a f → RefusesMembers n a f
    after_member : {n : ℕ} {a b : Lexed} {x : PlainMember} {f : ReadFault} → ReadsMember n a x b → NoneFollows ObjectClose b f → RefusesMembers n a f
    later_member : {n : ℕ} {a b c : Lexed} {x : PlainMember} {f : ReadFault} → ReadsMember n a x b → Mark Comma b c → RefusesMembers n c f → RefusesMembers n a f

  pub data RefusesMember : ℕ → Lexed → ReadFault → Type 0 where
    not_a_key : {n : ℕ} {a : Lexed} {f : ReadFault} → RefusesKey a f → RefusesMember n a f
    no_list : {n : ℕ} {a b : Lexed} {key : List ℕ} {join : Group} {f : ReadFault} → ReadsKey a key b → word.group_of key ≡ Some join → kind_at b ≢ Some ListOpen → f ≡ wrong what.List b → RefusesMember n a f
    deep_list : {n : ℕ} {a b : Lexed} {key : List ℕ} {join : Group} {f : ReadFault} → ReadsKey a key b → word.group_of key ≡ Some join → n ≡ 0 → kind_at b ≡ Some ListOpen → f ≡ TooDeep → RefusesMember n a f
    in_list : {n m : ℕ} {a b c : Lexed} {key : List ℕ} {join : Group} {f : ReadFault} → ReadsKey a key b → word.group_of key ≡ Some join → n ≡ m + 1 → Mark ListOpen b c → RefusesObjects m ListClose c f → RefusesMember n a f
    in_operand : {n : ℕ} {a b : Lexed} {key : List ℕ} {f : ReadFault} → ReadsKey a key b → IsField key → RefusesOperand n b f → RefusesMember n a f

  pub data RefusesObjects : ℕ → TokenKind → Lexed → ReadFault → Type 0 where
    not_an_object : {n : ℕ} {close : TokenKind} {a : Lexed} {f : ReadFault} → RefusesObject n a f → RefusesObjects n close a f
    after_object : {n : ℕ} {close : TokenKind} {a b : Lexed} {x : Members} {f : ReadFault} → ReadsObject n a x b → NoneFollows close b f → RefusesObjects n close a f
    later_object : {n : ℕ} {close : TokenKind} {a b c : Lexed} {x : Members} {f : ReadFault} → ReadsObject n a x b → Mark Comma b c → RefusesObjects n close c f → RefusesObjects n close a f

pub data RefusesOrder : Lexed → ReadFault → Type 0 where
  no_brace : {a : Lexed} {f : ReadFault} → kind_at a ≢ Some ObjectOpen → f ≡ wrong what.Object a → RefusesOrder a f
  no_order : {a : Lexed} {f : ReadFault} → kind_at a ≡ Some ObjectOpen → kind_at (tail a) ≢ Some Words → f ≡ wrong what.SortOrder (tail a) → RefusesOrder a f
  bad_order : {a : Lexed} {f : ReadFault} → kind_at a ≡ Some ObjectOpen → kind_at (tail a) ≡ Some Words → word.order_of (first_value (tail a)) ≡ None → f ≡ wrong what.SortOrder (tail a) → RefusesOrder a f
  no_order_colon : {a : Lexed} {x : Bool} {f : ReadFault} → kind_at a ≡ Some ObjectOpen → kind_at (tail a) ≡ Some Words → word.order_of (first_value (tail a)) ≡ Some x → kind_at (tail (tail a)) ≢ Some Colon → f ≡ wrong what.Colon (tail (tail a)) → RefusesOrder a f
  no_bracket : {a : Lexed} {x : Bool} {f : ReadFault} → kind_at a ≡ Some ObjectOpen → kind_at (tail a) ≡ Some Words → word.order_of (first_value (tail a)) ≡ Some x → kind_at (tail (tail a)) ≡ Some Colon
      → kind_at (tail (tail (tail a))) ≢ Some ListOpen → f ≡ wrong what.List (tail (tail (tail a))) → RefusesOrder a f

pub data RefusesSort : Lexed → ReadFault → Type 0 where
  not_an_order : {a : Lexed} {f : ReadFault} → RefusesOrder a f → RefusesSort a f
  in_fields : {a b : Lexed} {x : Bool} {f : ReadFault} → ReadsOrder a x b → RefusesTexts ListClose b f → RefusesSort a f
  no_end_brace : {a b c : Lexed} {x : Bool} {xs : List (List ℕ)} {f : ReadFault} → ReadsOrder a x b → ReadsTexts ListClose b xs c → kind_at c ≢ Some ObjectClose → f ≡ wrong what.CommaOrClose c → RefusesSort a f
  no_sort_end : {a b c d : Lexed} {x : Bool} {xs : List (List ℕ)} {f : ReadFault} → ReadsOrder a x b → ReadsTexts ListClose b xs c → Mark ObjectClose c d → kind_at d ≢ Some Close → f ≡ wrong what.CommaOrClose d → RefusesSort a f

pub data RefusesNatural : Lexed → ReadFault → Type 0 where
  no_number : {a : Lexed} {f : ReadFault} → kind_at a ≢ Some Number → f ≡ wrong what.Number a → RefusesNatural a f
  negative : {a : Lexed} {f : ReadFault} → kind_at a ≡ Some Number → word.natural_of (first_value a) ≡ None → f ≡ wrong what.Number a → RefusesNatural a f
  no_number_end : {a : Lexed} {n : ℕ} {f : ReadFault} → kind_at a ≡ Some Number → word.natural_of (first_value a) ≡ Some n → kind_at (tail a) ≢ Some Close → f ≡ wrong what.CommaOrClose (tail a) → RefusesNatural a f

pub data RefusesTruth : Lexed → ReadFault → Type 0 where
  no_truth : {a : Lexed} {f : ReadFault} → kind_at a ≢ Some Name → f ≡ wrong what.Truth a → RefusesTruth a f
  other_name : {a : Lexed} {f : ReadFault} → kind_at a ≡ Some Name → word.truth_of (first_value a) ≡ None → f ≡ wrong what.Truth a → RefusesTruth a f
  no_truth_end : {a : Lexed} {x : Bool} {f : ReadFault} → kind_at a ≡ Some Name → word.truth_of (first_value a) ≡ Some x → kind_at (tail a) ≢ Some Close → f ≡ wrong what.CommaOrClose (tail a) → RefusesTruth a f

pub data RefusesName (given : Suffixes) : Lexed → ReadFault → Type 0 where
  no_suffix : {a : Lexed} {f : ReadFault} → kind_at a ≢ Some Name → f ≡ wrong what.Suffix a → RefusesName given a f
  no_such_suffix : {a : Lexed} {f : ReadFault} → kind_at a ≡ Some Name → word.suffix_of (first_value a) ≡ None → f ≡ wrong what.Suffix a → RefusesName given a f
  given_before : {a : Lexed} {x : Suffix} {f : ReadFault} → kind_at a ≡ Some Name → word.suffix_of (first_value a) ≡ Some x → is_fresh given x ≡ false → f ≡ wrong what.Suffix a → RefusesName given a f
  no_open : {a : Lexed} {x : Suffix} {f : ReadFault} → kind_at a ≡ Some Name → word.suffix_of (first_value a) ≡ Some x → is_fresh given x ≡ true → kind_at (tail a) ≢ Some Open → f ≡ wrong what.Open (tail a) → RefusesName given a f

pub data RefusesSuffix : Suffixes → Lexed → ReadFault → Type 0 where
  not_a_name : {given : Suffixes} {a : Lexed} {f : ReadFault} → RefusesName given a f → RefusesSuffix given a f
  in_include : {given : Suffixes} {a b : Lexed} {f : ReadFault} → ReadsName given a suffix.Include b → RefusesTexts Close b f → RefusesSuffix given a f
  in_sort : {given : Suffixes} {a b : Lexed} {f : ReadFault} → ReadsName given a suffix.Sort b → RefusesSort b f → RefusesSuffix given a f
  in_offset : {given : Suffixes} {a b : Lexed} {f : ReadFault} → ReadsName given a suffix.Offset b → RefusesNatural b f → RefusesSuffix given a f
  in_limit : {given : Suffixes} {a b : Lexed} {f : ReadFault} → ReadsName given a suffix.Limit b → RefusesNatural b f → RefusesSuffix given a f
  in_distinct : {given : Suffixes} {a b : Lexed} {f : ReadFault} → ReadsName given a suffix.Distinct b → RefusesTruth b f → RefusesSuffix given a f

pub data RefusesSuffixes : Suffixes → Lexed → ReadFault → Type 0 where
  no_dot : {given : Suffixes} {a : Lexed} {f : ReadFault} → kind_at a ≢ Some End → kind_at a ≢ Some Dot → f ≡ wrong what.Suffix a → RefusesSuffixes given a f
  in_suffix : {given : Suffixes} {a b : Lexed} {f : ReadFault} → Mark Dot a b → RefusesSuffix given b f → RefusesSuffixes given a f
  later_suffix : {given next : Suffixes} {a b c : Lexed} {f : ReadFault} → Mark Dot a b → ReadsSuffix given b next c → RefusesSuffixes next c f → RefusesSuffixes given a f

pub data RefusesHead : Lexed → ReadFault → Type 0 where
  no_name : {a : Lexed} {f : ReadFault} → kind_at a ≢ Some Name → f ≡ wrong what.Name a → RefusesHead a f
  no_name_dot : {a : Lexed} {f : ReadFault} → kind_at a ≡ Some Name → word.is_find (first_value a) ≡ false → kind_at (tail a) ≢ Some Dot → f ≡ wrong what.Dot (tail a) → RefusesHead a f
  no_find_open : {a : Lexed} {f : ReadFault} → kind_at a ≡ Some Name → word.is_find (first_value a) ≡ true → kind_at (tail a) ≢ Some Dot → kind_at (tail a) ≢ Some Open → f ≡ wrong what.Open (tail a) → RefusesHead a f
  later_name : {a b : Lexed} {f : ReadFault} → kind_at a ≡ Some Name → Mark Dot (tail a) b → RefusesHead b f → RefusesHead a f

pub data RefusesCriteria : Lexed → ReadFault → Type 0 where
  not_objects : {a : Lexed} {f : ReadFault} → kind_at a ≢ Some Close → RefusesObjects most_levels Close a f → RefusesCriteria a f

pub data RefusesQuery : Lexed → ReadFault → Type 0 where
  in_head : {a : Lexed} {f : ReadFault} → RefusesHead a f → RefusesQuery a f
  in_criteria : {a b : Lexed} {names : List (List ℕ)} {f : ReadFault} → ReadsHead a names b → RefusesCriteria b f → RefusesQuery a f
  behind_criteria : {a b c : Lexed} {names : List (List ℕ)} {os : Objects} {f : ReadFault} → ReadsHead a names b → ReadsCriteria b os c → RefusesSuffixes no_suffixes c f → RefusesQuery a f
