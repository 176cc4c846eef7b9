-- Where a row stands among others.
use Rattle.std.specs.Prelude.{◌≡◌, ℕ, ◌+◌, ◌≤◌, ◌<◌, List, length, take, drop, All, Vec}
use Rattle.std.specs.List.{HoldsAt}
use Rattle.std.specs.Vec.{vec_len, vec_capacity}
use Rattle.std.specs.declared.alloc.Global.{Global}
use Rattle.std.specs.declared.cmp.Ordering.TheVariants.{Less, Equal}
use Rattle.arti_rows.specs.Key.{Key, key_cmp}
use Rattle.arti_rows.specs.declared.rows.ItemRow.{ItemRow}
use Rattle.arti_store.specs.Items.{InOrder, put_rows}

-- the row of that key stands there: those before it have lesser keys, those behind it greater ones
pub record IsPlace (rows : List ItemRow) (key : Key) (at : ℕ) : Type 0 where
  pub within : at < length rows
  pub before : All (λ (row : ItemRow). key_cmp row.key key ≡ Less) (take at rows)
  pub here : HoldsAt (λ (row : ItemRow). key_cmp row.key key ≡ Equal) rows at
  pub behind : All (λ (row : ItemRow). key_cmp key row.key ≡ Less) (drop (at + 1) rows)

-- no row has that key: those before the place have lesser keys, the others greater ones
pub record IsGap (rows : List ItemRow) (key : Key) (at : ℕ) : Type 0 where
  pub within : at ≤ length rows
  pub before : All (λ (row : ItemRow). key_cmp row.key key ≡ Less) (take at rows)
  pub behind : All (λ (row : ItemRow). key_cmp key row.key ≡ Less) (drop at rows)

-- some of the rows were put among others, and these are left
pub record Putting (news olds left : List ItemRow) (rows : Vec ItemRow Global) : Type 0 where
  pub put : put_rows left rows.items ≡ put_rows news olds
  pub order : InOrder rows.items
  pub room : vec_len rows + length left ≤ vec_capacity rows
