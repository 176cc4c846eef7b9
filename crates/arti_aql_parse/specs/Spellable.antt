-- Which queries have a spelling: the lists that the grammar asks to be non-empty are, no field begins with `$`, each number has
-- at most 18 digits, the domain is names, and no more braces and brackets are open at once than may be.
use Rattle.std.specs.Prelude.{◌≡◌, ◌≢◌, ℕ, zero, suc, ◌<◌, ◌^◌, List, [], ◌∷◌, true, false, slice_index, IfSome, unsigned_abs}
use Rattle.std.specs.List.{list_all}
use Rattle.arti_aql_lex.specs.Tokens.{is_name_start, is_name_byte}
use Rattle.arti_aql_parse.specs.Grammar.{joined, most_levels}
use Rattle.arti_aql_parse.specs.Print.{is_equality}
use Rattle.arti_aql_parse.specs.Tree.{PlainMember, tests, group, Members, no_members, member, Objects, no_objects, object, PlainQuery}
use Rattle.arti_aql_parse.specs.Words.{begins_with_dollar}
use Rattle.arti_aql_parse.specs.declared.query.Lit.{Lit}
use Rattle.arti_aql_parse.specs.declared.query.Lit.TheVariants as lit
use Rattle.arti_aql_parse.specs.declared.query.Test.{Test}

-- a letter or `_`, and then also digits
pub record IsName (name : List ℕ) : Type 0 where
  pub first : is_name_start (slice_index name 0) ≡ true
  pub each : list_all is_name_byte name ≡ true

abbrev pub AreNames : List (List ℕ) → Type 0
AreNames [] = Unit {0}
AreNames (x ∷ xs) = IsName x × AreNames xs

-- names with dots between them, or none
pub record IsDomain (domain : List ℕ) : Type 0 where
  pub names : List (List ℕ)
  pub each : AreNames names
  pub whole : domain ≡ joined names

-- at most 18 digits
abbrev pub IsShort : ℕ → Type 0
IsShort n = n < 10 ^ 18

abbrev pub FitsLiteral : Lit → Type 0
FitsLiteral (lit.Words text) = Unit {0}
FitsLiteral (lit.Number n) = IsShort (unsigned_abs n)
FitsLiteral lit.Null = Unit {0}

abbrev pub FitTests : List Test → Type 0
FitTests [] = Unit {0}
FitTests (t ∷ ts) = FitsLiteral t.value × FitTests ts

-- what a field is tested against; a single test of equality needs no brace
abbrev pub FitsOperand : List Test → ℕ → Type 0
FitsOperand [] n = ⊥
FitsOperand (t ∷ []) n = FitsLiteral t.value × (is_equality t.op ≡ false → 0 < n)
FitsOperand (t ∷ u ∷ ts) n = FitTests (t ∷ u ∷ ts) × (0 < n)

-- one more may be opened, and what stands inside fits
abbrev pub Opens : ℕ → (ℕ → Type 0) → Type 0
Opens zero inside = ⊥
Opens (suc n) inside = inside n

-- so many braces and brackets may still be opened
abbrev mutual
  pub FitsMember : PlainMember → ℕ → Type 0
  FitsMember (tests key ts) n = (begins_with_dollar key ≡ false) × FitsOperand ts n
  FitsMember (group join os) n = (os ≢ no_objects) × Opens n (FitObjects os)

  pub FitMembers : Members → ℕ → Type 0
  FitMembers no_members n = Unit {0}
  FitMembers (member m ms) n = FitsMember m n × FitMembers ms n

  pub FitObjects : Objects → ℕ → Type 0
  FitObjects no_objects n = Unit {0}
  FitObjects (object o os) n = Opens n (FitMembers o) × FitObjects os n

pub record HasSpelling (q : PlainQuery) : Type 0 where
  pub names : IsDomain q.domain
  pub objects : FitObjects q.find most_levels
  pub included : IfSome q.suffixes.include (λ xs. xs ≢ [])
  pub sorted : IfSome q.suffixes.sort (λ s. s.fields ≢ [])
  pub first : IfSome q.suffixes.offset IsShort
  pub most : IfSome q.suffixes.limit IsShort
