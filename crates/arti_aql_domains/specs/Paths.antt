-- What the parts of a path stand for.
use Rattle.std.specs.Prelude.{◌≡◌, ℕ, List, ◌∷◌}
use Rattle.arti_query_model.specs.declared.fields.Rel.{Rel}
use Rattle.arti_query_model.specs.Paths as model
use Rattle.arti_query_model.specs.Paths.{PathText, path_text, end_of}
use Rattle.arti_aql_domains.specs.declared.paths.What.{What}
use Rattle.arti_aql_domains.specs.declared.paths.What.TheVariants.{Field, Properties}
use Rattle.arti_aql_domains.specs.declared.paths.Target.{Target}

-- a path behind one more name
abbrev pub behind : List ℕ → PathText → PathText
behind name p = record { names = name ∷ p.names; last = p.last }

abbrev pub what_view : What → model.What
what_view (Field f type) = model.in_field f type
what_view (Properties key) = model.in_properties key

abbrev pub target_view : Target → model.Target
target_view t = record { path = t.path.items; what = what_view t.what }

-- where the relations of a path lead
pub record Leads (root : Rel) (path : List ℕ) (rels : List Rel) (domain : Rel) (last : List ℕ) : Type 0 where
  pub ends : domain ≡ end_of root rels
  pub last_part : last ≡ (path_text path).last
