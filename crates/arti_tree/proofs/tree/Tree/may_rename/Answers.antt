use Rattle.std.proofs.Common.{◌≡◌, List, ℕ, [], Option, Some, None, true, option_map, refl, sym, ap, ◌∙◌, subst, ⊎_elim, append-nil}
use Rattle.std.specs.Prelude.{IfSome}
use Rattle.std.proofs.lemmas.Bool.{or_cases}
use Rattle.arti_rows.specs.Key.{Key, whole_of, same_key}
use Rattle.arti_rows.specs.KeyLaws.{same_key-true}
use Rattle.arti_rows.specs.Names.{IsKey, key_fault}
use Rattle.arti_tree.specs.Rows.{Row, lies_beneath, IsLive}
use Rattle.arti_tree.specs.Renames.{moved_whole, StayKeys}
use Rattle.arti_tree.proofs.Under.{Within, whole_moved}
use Rattle.arti_tree.proofs.tree.Tree.may_rename.Goals as goal

itself : (from to : Key) → IsKey to → key_fault to.repo (moved_whole from to from) ≡ None
itself from to is =
    let w : Within from from = record { repo = refl; rest = []; whole = sym (append-nil (whole_of from)) } in
    ap (λ (l : List ℕ). key_fault to.repo l) (whole_moved from to from w ∙ append-nil (whole_of to)) ∙ is.good

stay_all : (rows : List Row) (from to : Key) → IsKey to → ((r : Row) → IsLive rows r → lies_beneath from r ≡ true → key_fault to.repo (moved_whole from to r.key) ≡ None) → StayKeys rows from to
stay_all rows from to is all = λ r live e. ⊎_elim (λ (same : same_key r.key from ≡ true). ap (λ (k : Key). key_fault to.repo (moved_whole from to k)) (same_key-true r.key from same) ∙ itself from to is) (all r live) (or_cases (same_key r.key from) (lies_beneath from r) e)

of_row : (rows : List Row) (from to : Key) (o : Option Row) → Some from ≡ option_map (λ r. r.key) o → StayKeys rows from to → IfSome o (λ r. StayKeys rows r.key to)
of_row rows from to None e stay = tt
of_row rows from to (Some r) e stay = let same : from ≡ r.key = cc in subst (λ (k : Key). StayKeys rows k to) same stay

pub returns-clause-keys : goal.returns-clause-keys
returns-clause-keys c = λ yes. of_row c.args.self.now c.in-Some.from.now c.args.to.now _ c.in-Some.ensures (stay_all c.args.self.now c.in-Some.from.now c.args.to.now c.rules.ensures (c.keys_stay.ensures.stay yes))
