-- What holds of the items of each catalog.
use Rattle.std.specs.Prelude.{◌≡◌, ◌≤◌, true, List, length, All}
use Rattle.arti_rows.specs.Key.{folders_above}
use Rattle.arti_rows.specs.Names.{IsKey}
use Rattle.arti_rows.specs.declared.limits.Limits.{Limits}
use Rattle.arti_model.specs.Store.{Item, InDefaultOrder}
use Rattle.arti_model.specs.Apply.{is_local, has_folder}

-- They stand in the default order, so no two have one key; each key is one of the one repository, and each item above another is a folder; there are no more than the limit.
pub record WellFormed {F : Type 0} (limits : Limits) (items : List (Item F)) : Type 0 where
  pub order : InDefaultOrder items
  pub keys : All (λ item. IsKey item.key) items
  pub local : All (λ item. is_local item.key ≡ true) items
  pub folders : All (λ item. All (λ folder. has_folder items folder ≡ true) (folders_above item.key)) items
  pub most : length items ≤ limits.items
