-- Maps from whose entries others were copied.
use Rattle.std.proofs.Common.{◌≡◌, ℕ, Bool, true, false, cond, List, [], ◌∷◌, Option, Some, refl, ap, ◌∙◌}
use Rattle.std.specs.Prelude.{Vec, vec_len}
use Rattle.std.specs.Option.{option_map_or}
use Rattle.std.specs.Result.{MatchResult, IfOk}
use Rattle.std.specs.declared.result.Result.{Result}
use Rattle.std.specs.declared.result.Result.TheVariants.{Ok, Err}
use Rattle.std.specs.Map.{lookup}
use Rattle.std.specs.List.{AllZip}
use Rattle.std.specs.declared.alloc.Global.{Global}
use Rattle.std.proofs.lemmas.List.Elements.{same_from_all_zip}

module _ {K : Type 0} (C : K → K → Type 0) (D : ℕ → ℕ → Type 0) (same_id : (x y : ℕ) → D x y → y ≡ x) where
  abbrev IsCopy : Vec ℕ Global → Vec ℕ Global → Type 0
  IsCopy v w = AllZip D v.items w.items × (vec_len w ≡ vec_len v)

  list_by : (b : Bool) (v w : Vec ℕ Global) (o p : Option (Vec ℕ Global)) → w.items ≡ v.items → option_map_or (λ (l : Vec ℕ Global). l.items) p [] ≡ option_map_or (λ (l : Vec ℕ Global). l.items) o []
      → option_map_or (λ (l : Vec ℕ Global). l.items) (cond b (Some w) p) [] ≡ option_map_or (λ (l : Vec ℕ Global). l.items) (cond b (Some v) o) []
  list_by true v w o p e f = e
  list_by false v w o p e f = f

  -- the list that is found is the same
  pub list_copied : (test : K → Bool) (es fs : List (K × Vec ℕ Global)) → ((k l : K) → C k l → test l ≡ test k) → AllZip (λ p q. C p.0 q.0 × IsCopy p.1 q.1) es fs
      → option_map_or (λ (l : Vec ℕ Global). l.items) (lookup test fs) [] ≡ option_map_or (λ (l : Vec ℕ Global). l.items) (lookup test es) []
  list_copied test [] [] same all = refl
  list_copied test [] (f ∷ fs) same all = absurd all
  list_copied test (e ∷ es) [] same all = absurd all
  list_copied test (e ∷ es) (f ∷ fs) same all =
      ap (λ b. option_map_or (λ (l : Vec ℕ Global). l.items) (cond b (Some f.1) (lookup test fs)) []) (same e.0 f.0 all.0.0)
      ∙ list_by (test e.0) e.1 f.1 (lookup test es) (lookup test fs) (same_from_all_zip D e.1.items f.1.items all.0.1.0 same_id) (list_copied test es fs same all.1)

-- where each copy that comes is one, so is what comes
pub if_copied : {T E : Type 0} (r : Result T E) (P Q : T → Type 0) (R : E → Type 0) → MatchResult r P R → ((x : T) → P x → Q x) → IfOk r Q
if_copied (Ok x) P Q R h f = f x h
if_copied (Err e) P Q R h f = tt
