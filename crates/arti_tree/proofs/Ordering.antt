-- The ids in the default order are those of the rows in it.
use Rattle.std.proofs.Common.{◌≡◌, ℕ, List, sym, ap, ◌∙◌, arith}
use Rattle.arti_rows.specs.Key.{same_key}
use Rattle.arti_tree.specs.Rows.{Row, ids}
use Rattle.arti_tree.specs.Kept.{Ordered}
use Rattle.arti_tree.specs.ByKey.{by_key, KeysOnce}
use Rattle.arti_tree.specs.ByKeyLaws.{same_rising, by_key_rising, by_key_counts, rising_once}

pub keys_once : (rows : List Row) (order : List ℕ) → Ordered rows order → KeysOnce rows
keys_once rows order o k = omega (arith, o.same (λ r. same_key r.key k), rising_once o.sorted o.rising k)

pub order_is : (rows : List Row) (order : List ℕ) → Ordered rows order → order ≡ ids (by_key rows)
order_is rows order o = o.is ∙ ap ids (same_rising o.sorted (by_key rows) o.rising (by_key_rising rows) (λ t. o.same t ∙ sym (by_key_counts rows (keys_once rows order o) t)))
