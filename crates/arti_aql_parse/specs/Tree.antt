-- A query without where it lies in memory.
use Rattle.std.specs.Prelude.{ℕ, List}
use Rattle.arti_aql_parse.specs.declared.query.Test.{Test}
use Rattle.arti_aql_parse.specs.declared.query.Suffixes.{Suffixes}
use Rattle.arti_aql_parse.specs.declared.words.Group.{Group}

mutual
  -- a member of an object: the tests of a field, or a list of objects
  pub data PlainMember : Type 0 where
    tests : (field : List ℕ) → List Test → PlainMember
    group : Group → Objects → PlainMember

  -- an object is its members
  pub data Members : Type 0 where
    no_members : Members
    member : PlainMember → Members → Members

  pub data Objects : Type 0 where
    no_objects : Objects
    object : Members → Objects → Objects

pub record PlainQuery : Type 0 where
  pub domain : List ℕ
  pub find : Objects
  pub suffixes : Suffixes
