-- The query that a value stands for.
use Rattle.std.specs.Prelude.{List, [], ◌∷◌, map}
use Rattle.arti_aql_parse.specs.Tree.{PlainMember, tests, group, Members, no_members, member, Objects, no_objects, object, PlainQuery}
use Rattle.arti_aql_parse.specs.declared.query.Object.{Object, fold-Object}
use Rattle.arti_aql_parse.specs.declared.query.Member.{Member, fold-Member}
use Rattle.arti_aql_parse.specs.declared.query.Member.TheOpen.{Member-F, Object-F}
use Rattle.arti_aql_parse.specs.declared.query.Query.{Query}
use Rattle.arti_aql_parse.specs.declared.words.Group.TheVariants.{All, Any, Same}

abbrev pub members_of : List PlainMember → Members
members_of [] = no_members
members_of (m ∷ ms) = member m (members_of ms)

abbrev pub objects_of : List Members → Objects
objects_of [] = no_objects
objects_of (o ∷ os) = object o (objects_of os)

-- one level, with each object inside already seen as its members
abbrev pub member_step : Member-F PlainMember Members → PlainMember
member_step (Member-F.All v) = group All (objects_of v.items)
member_step (Member-F.Any v) = group Any (objects_of v.items)
member_step (Member-F.Same v) = group Same (objects_of v.items)
member_step (Member-F.Tests field v) = tests field v.items

abbrev pub object_step : Object-F PlainMember Members → Members
object_step o = members_of o.members.items

abbrev pub member_view : Member → PlainMember
member_view = fold-Member PlainMember Members member_step object_step

abbrev pub object_view : Object → Members
object_view = fold-Object PlainMember Members member_step object_step

abbrev pub members_view : List Member → Members
members_view ms = members_of (map member_view ms)

abbrev pub objects_view : List Object → Objects
objects_view os = objects_of (map object_view os)

abbrev pub view : Query → PlainQuery
view q = record {
  domain = q.domain;
  find = objects_view q.find;
  suffixes = record { include = q.include; sort = q.sort; offset = q.offset; limit = q.limit; distinct = q.distinct };
}
