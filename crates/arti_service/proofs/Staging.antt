-- What a crash may leave while a content is staged.
use Rattle.std.proofs.Common.{◌≡◌, ap, ◌∙◌, subst}
use Rattle.std.specs.Prelude.{Option, None}
use Rattle.arti_rows.specs.declared.limits.Limits.{Limits}
use Rattle.arti_ground.specs.State.{Bytes, State, Passes, OnlyReads}
use Rattle.arti_ground.specs.Moments.{passes_map, passes_then}
use Rattle.arti_blobs.specs.declared.staging.Staging.{Staging}
use Rattle.arti_model.specs.Apply.{Holding}
use Rattle.arti_model.specs.Stock.{Stock}
use Rattle.arti_store.specs.Store.{View, shows, holding_of, Stands, HoldsStore, Standing}
use Rattle.arti_store.specs.ImageLaws.{image_stands}

-- a store with that staging
abbrev pub staging : View → Option Staging → View
staging v a = record { rows = v.rows; contents = record { kept = v.contents.kept; staging = a }; used = v.used; limits = v.limits; commits = v.commits; closed = v.closed }

module _ (s s2 s3 : State) (v v1 v2 : View) (a b : Option Staging) (first : v1 ≡ staging v a) (second : v2 ≡ staging v1 b) where
  both : v2 ≡ staging v b
  both = second ∙ ap (λ (x : View). staging x b) first

  -- at a moment of a call that changes nothing of what the store has
  begun_moment : (c w : Bytes) → Standing s v1 c w → Standing s v c w
  begun_moment c w here = record { told = here.told; image = subst (λ (x : View). Stands x.limits c (holding_of (s.files 3) x) x.used) first here.image }

  pub begun_time : Passes s s2 (Standing s v1) → Passes s s2 (Standing s v)
  begun_time time = passes_map s s2 _ _ begun_moment time

  pub staged_time : v.closed ≡ None → HoldsStore s2 v2 → shows s2 v2 ≡ shows s v1 → s2.told ≡ s.told → Passes s s2 (Standing s v1) → OnlyReads s2 s3 → Passes s s3 (Standing s v)
  staged_time still holds same_shown told time reads =
      let whole = holds (ap (λ (x : View). x.closed) both ∙ still) in
      let same : holding_of (s2.files 3) v2 ≡ holding_of (s.files 3) v = ap (λ (x : Stock). x.holding) same_shown ∙ ap (holding_of (s.files 3)) first in
      passes_then s s2 s3 _ (begun_time time)
      (passes_map s2 s3 _ _ (λ c w here. record {
        told = here.1 ∙ told;
        image = subst (λ (h : Holding). Stands v.limits c h v.used) same
            (subst (λ (l : Limits). Stands l c (holding_of (s2.files 3) v2) v.used) (ap (λ (x : View). x.limits) both)
            (subst (λ n. Stands v2.limits c (holding_of (s2.files 3) v2) n) (ap (λ (x : View). x.used) both) (image_stands s2 v2 whole c here.0)));
      }) reads.time)
