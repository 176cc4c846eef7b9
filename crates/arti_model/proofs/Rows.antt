-- The form of query that is read, computed on small cases.
use Rattle.std.specs.Prelude.{◌≡◌, refl, codes, Some}
use Rattle.arti_model.specs.Query.{thin_end, thin_key}

front : thin_end (codes "items.find()") ≡ 11
front = refl

behind : thin_end (codes "items.find({\"repo\":\"a\"}) ") ≡ 24
behind = refl

key : thin_key (codes "items.find({\"repo\":\"libs.b\"})") ≡ Some (codes "libs.b")
key = refl
