-- How many ands a criterion has as an or of ands.
use Rattle.std.specs.Prelude.{ℕ, ◌+◌, ◌*◌, Bool, true, false, ◌||◌, List}
use Rattle.std.specs.List.{list_any}
use Rattle.arti_query_model.specs.declared.fields.Rel.{Rel}
use Rattle.arti_query_model.specs.declared.fields.Rel.TheVariants.{Property, Stat}
use Rattle.arti_query_model.specs.Criteria.{Cond, every, some, leaf, Conds, nothing, part}

abbrev mutual
  -- a test is one, an and has the product of its parts, an or the sum
  pub cases : {Rel Test : Type 0} → Cond Rel Test → ℕ
  cases (every parts) = product_of_cases parts
  cases (some parts) = sum_of_cases parts
  cases (leaf path test) = 1

  pub product_of_cases : {Rel Test : Type 0} → Conds Rel Test → ℕ
  product_of_cases nothing = 1
  product_of_cases (part c parts) = cases c * product_of_cases parts

  pub sum_of_cases : {Rel Test : Type 0} → Conds Rel Test → ℕ
  sum_of_cases nothing = 0
  sum_of_cases (part c parts) = cases c + sum_of_cases parts

-- A row has its properties and at most one stat. By any other relation it may have several rows, and a choice is made.
abbrev pub leaves_choice : Rel → Bool
leaves_choice Property = false
leaves_choice Stat = false
leaves_choice rel = true

abbrev mutual
  -- whether some path has a relation that leaves a choice
  pub is_joined : {Test : Type 0} → Cond Rel Test → Bool
  is_joined (every parts) = some_joined parts
  is_joined (some parts) = some_joined parts
  is_joined (leaf path test) = list_any leaves_choice path

  pub some_joined : {Test : Type 0} → Conds Rel Test → Bool
  some_joined nothing = false
  some_joined (part c parts) = is_joined c || some_joined parts
