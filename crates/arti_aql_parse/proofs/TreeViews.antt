-- What a member or an object made of its parts stands for.
use Rattle.std.proofs.Common.{◌≡◌, List, ℕ, Vec, Global, rules}
use Rattle.arti_aql_parse.specs.Tree.{tests}
use Rattle.arti_aql_parse.specs.View.{member_view, object_view, members_view}
use Rattle.arti_aql_parse.specs.declared.query.Test.{Test}
use Rattle.arti_aql_parse.specs.declared.query.Member.{Member, Tests, the_lemmas}
use Rattle.arti_aql_parse.specs.declared.query.Object.{roll-Object}

pub view-Tests : (field : List ℕ) (v : Vec Test Global) → member_view (Tests field v) ≡ tests field v.items
view-Tests field v = search (rules, the_lemmas)

pub view-Object : (v : Vec Member Global) → object_view (roll-Object (record { members = v })) ≡ members_view v.items
view-Object v = search (rules, the_lemmas)
