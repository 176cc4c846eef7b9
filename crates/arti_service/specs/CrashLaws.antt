-- Laws of crashes: what an image stands for while a ready store is open, and before anything was told.
use Rattle.std.proofs.Common.{ℕ, ℤ, List, [], subst, arith}
use Rattle.arti_rows.specs.declared.limits.Limits.{Limits}
use Rattle.arti_ground.specs.State.{Bytes, State}
use Rattle.arti_model.specs.Stock.{Stock}
use Rattle.arti_model.specs.Run.{at_first, nothing, Recovers}
use Rattle.arti_store.specs.Store.{View, holding_of, Stands, HoldsStore}
use Rattle.arti_store.specs.ImageLaws as store
use Rattle.arti_service.specs.Stocks.{IsReady}

-- each image stands for the store, under the limits of the conversation
pub image_stands : (limits : Limits) (s : State) (v : View) → IsReady limits v → HoldsStore s v → (c : Bytes) → s.may_leave c → Stands limits c (holding_of (s.files 3) v) v.used
image_stands limits s v ready holds c left =
    subst (λ (l : Limits). Stands l c (holding_of (s.files 3) v) v.used) ready.limits_are (store.image_stands s v (holds ready.still_open) c left)

-- nothing was told, and nothing has changed
pub at_start : (limits : Limits) (most : ℕ) (moments : List ℤ) (s : Stock) (input : List ℕ) → Recovers limits most moments s input [] s.holding
at_start limits most moments s input = record {
  requests = [];
  begins = tt;
  acknowledged = 0;
  tells = nothing;
  accepted = 0;
  holds = at_first;
  all = omega arith;
  one_more = omega arith;
}
