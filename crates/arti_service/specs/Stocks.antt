-- Stores that answer requests.
use Rattle.std.specs.Prelude.{◌≡◌, None}
use Rattle.arti_rows.specs.declared.limits.Limits.{Limits}
use Rattle.arti_store.specs.Store.{View}

-- an open store with these limits, in which nothing is staged
pub record IsReady (limits : Limits) (v : View) : Type 0 where
  pub still_open : v.closed ≡ None
  pub limits_are : v.limits ≡ limits
  pub unstaged : v.contents.staging ≡ None
