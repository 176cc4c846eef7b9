use Rattle.std.proofs.Common.{◌≡◌, false, true, ℕ, List, [], ◌∷◌, ◌++◌, suc, take, drop, sym, subst, rules}
use Rattle.arti_rows.specs.declared.rows.FileRef.{FileRef}
use Rattle.arti_rows.specs.declared.edits.Change.{Change}
use Rattle.arti_journal.specs.Journal.{bodies_of}
use Rattle.arti_codec.specs.ChangeBytes.{ChangeBytes}
use Rattle.arti_store.specs.Changes.{references_of}
use Rattle.arti_model.specs.Store.{Item}
use Rattle.arti_model.specs.Apply.{edited_by}
use Rattle.arti_store.specs.Items.{items_of}
use Rattle.arti_store.specs.Replays.{itself, is_accepted, Replays, ReplaysNot}
use Rattle.arti_store.proofs.Redoing.{redone_more, redone_no_change, redone_refused, zip_once, before_it, with_it}
use Rattle.arti_store.proofs.recovery.replay.Goals as goal

pub returns-in-Err-NotAChange-clause-none : goal.returns-in-Err-NotAChange-clause-none
returns-in-Err-NotAChange-clause-none c = λ is.
    let bodies = c.args.bodies.now in
    let i = c.bodies.body-index in
    let body = c.body-item.result in
    let none : (d : Change) → ChangeBytes body.items d → ⊥ = search rules in
    subst (λ (l : List (List ℕ)). ReplaysNot c.args.limits.now l) (sym (before_it bodies i body c.bodies-test.true c.body-item.is))
    (redone_no_change c.args.limits.now (bodies_of (take i bodies)) (bodies_of (drop (suc i) bodies)) body.items none)

pub returns-then-not-branch-clause-none : goal.returns-then-not-branch-clause-none
returns-then-not-branch-clause-none c = λ is.
    let bodies = c.args.bodies.now in
    let i = c.bodies.body-index in
    let body = c.body-item.result in
    let only : (d : Change) → ChangeBytes body.items d → c.in-Ok.change ≡ d = search rules in
    let refused : is_accepted c.args.limits.now itself c.in-Ok.change (items_of c.bodies.rows) ≡ false = search rules in
    subst (λ (l : List (List ℕ)). ReplaysNot c.args.limits.now l) (sym (before_it bodies i body c.bodies-test.true c.body-item.is))
    (redone_refused c.args.limits.now (bodies_of (take i bodies)) (bodies_of (drop (suc i) bodies)) (items_of c.bodies.rows) c.bodies.files.items body.items c.in-Ok.change c.bodies.invariant
    (zip_once c.bytes_are_of_one_change.ensures) only refused)

pub bodies-preserved : goal.bodies-preserved
bodies-preserved c =
    let bodies = c.args.bodies.now in
    let i = c.bodies.body-index in
    let body = c.body-item.result in
    let change : Change = c.in-Ok.change in
    let one : ChangeBytes body.items change = search rules in
    let accepted : is_accepted c.args.limits.now itself change (items_of c.bodies.rows) ≡ true = search rules in
    let items : items_of c.redo.new.rows ≡ edited_by itself change.moment change.user change.edits (items_of c.bodies.rows) = search rules in
    let files : c.redo.new.files.items ≡ c.bodies.files.items ++ references_of change.edits = search rules in
    subst (λ (l : List (List ℕ)). Replays c.args.limits.now l (items_of c.redo.new.rows) c.redo.new.files.items) (sym (with_it bodies i body c.bodies-test.true c.body-item.is))
    (subst (λ (l : List (Item FileRef)). Replays c.args.limits.now (bodies_of (take i bodies) ++ body.items ∷ []) l c.redo.new.files.items) (sym items)
    (subst (λ (l : List FileRef). Replays c.args.limits.now (bodies_of (take i bodies) ++ body.items ∷ []) (edited_by itself change.moment change.user change.edits (items_of c.bodies.rows)) l) (sym files)
    (redone_more c.args.limits.now (bodies_of (take i bodies)) (items_of c.bodies.rows) c.bodies.files.items body.items change c.bodies.invariant one accepted)))
