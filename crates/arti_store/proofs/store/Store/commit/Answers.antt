use Rattle.std.proofs.Common.{◌≡◌, inl, inr, ℕ, ◌+◌, List, Option, None, Err, true, false, sym, ◌∙◌, ap, subst, arith, rules}
use Rattle.std.specs.Prelude.{All, Contains}
use Rattle.std.proofs.lemmas.Bool.{false≢true}
use Rattle.arti_rows.specs.declared.rows.FileRef.{FileRef}
use Rattle.arti_ground.specs.State.{State}
use Rattle.arti_journal.specs.Journal.{Place}
use Rattle.arti_blobs.specs.declared.staging.Staged.{Staged}
use Rattle.arti_blobs.specs.Contents.{end_of}
use Rattle.arti_model.specs.Apply.{edited_by}
use Rattle.arti_model.specs.Stock.{body_length, fills_journal}
use Rattle.arti_store.specs.Items.{items_of}
use Rattle.arti_store.specs.Changes.{references_of}
use Rattle.arti_store.specs.Replays.{itself}
use Rattle.arti_store.specs.Store.{View}
use Rattle.arti_store.specs.Commit.{kept_and}
use Rattle.arti_store.specs.ImageLaws.{supplies_told}
use Rattle.arti_store.proofs.Commits.{names_added, and_contains, none_by, WouldPass, HasRoom, room_added, full_blobs, full_journal, moments_of, appended_of, ends_done, holds_then}
use Rattle.arti_store.proofs.Shortness.{change_short, taken_short}
use Rattle.arti_store.proofs.store.Store.commit.Goals as goal

pub returns-then-passes-clause-accepts : goal.returns-then-passes-clause-accepts
returns-then-passes-clause-accepts g c = λ tells closed reply.
    let v : View = c.args.self.now in
    let added : Option Staged = c.added-added.result in
    let start : State = g.G.Ground.state c.args.ground.now in
    let supplies = supplies_told start v.contents c.args.content (references_of c.args.change.edits) tells (c.requires.supplies closed) in
    let passes : WouldPass v.limits.blobs (end_of v.contents.kept) added =
    subst (λ (w : View). WouldPass w.limits.blobs (end_of w.contents.kept) added) c.self.view_is
    (subst (λ (n : ℕ). WouldPass c.self.inside.limits.blobs n added) c.kept_length.ensures.sum (c.passes.ensures.0 c.if-passes.true)) in
    full_blobs start v c.args.change c.args.content added (c.requires.holds tells closed) supplies c.added-added.ensures reply passes

pub returns-in-Err-Full-clause-accepts : goal.returns-in-Err-Full-clause-accepts
returns-in-Err-Full-clause-accepts g c = λ tells closed reply.
    let v : View = c.args.self.now in
    let added : Option Staged = c.added-added.result in
    let start : State = g.G.Ground.state c.args.ground.now in
    let supplies = supplies_told start v.contents c.args.content (references_of c.args.change.edits) tells (c.requires.supplies closed) in
    let room : HasRoom v.limits.blobs (end_of v.contents.kept) added =
    subst (λ (w : View). HasRoom w.limits.blobs (end_of w.contents.kept) added) c.self.view_is
    (subst (λ (n : ℕ). HasRoom c.self.inside.limits.blobs n added) c.kept_length.ensures.sum
    (room_added c.self.inside.limits.blobs c.kept_length.result added (λ p. false≢true (sym c.if-passes.false ∙ c.passes.ensures.1 p)))) in
    let journal : fills_journal v.limits v.used c.args.change ≡ true =
    subst (λ (w : View). fills_journal w.limits w.used c.args.change ≡ true) c.self.view_is (c.write_record.ensures.full (c.in-Err-Full.is ∙ ap Err c.in-Err-Full.field-0-is)) in
    full_journal start v c.args.change c.args.content added (c.requires.holds tells closed) supplies c.added-added.ensures reply room journal

pub returns-in-Err-Device-clause-moments : goal.returns-in-Err-Device-clause-moments
returns-in-Err-Device-clause-moments g c = λ tells closed.
    let v : View = c.args.self.now in
    let added : Option Staged = c.added-added.result in
    let start : State = g.G.Ground.state c.args.ground.now in
    let supplies = supplies_told start v.contents c.args.content (references_of c.args.change.edits) tells (c.requires.supplies closed) in
    let room : HasRoom v.limits.blobs (end_of v.contents.kept) added =
    subst (λ (w : View). HasRoom w.limits.blobs (end_of w.contents.kept) added) c.self.view_is
    (subst (λ (n : ℕ). HasRoom c.self.inside.limits.blobs n added) c.kept_length.ensures.sum
    (room_added c.self.inside.limits.blobs c.kept_length.result added (λ p. false≢true (sym c.if-passes.false ∙ c.passes.ensures.1 p)))) in
    let journal : fills_journal v.limits v.used c.args.change ≡ false =
    subst (λ (w : View). fills_journal w.limits w.used c.args.change ≡ false) c.self.view_is (c.write_record.ensures.room (inr (c.in-Err-Device.is ∙ ap Err c.in-Err-Device.field-0-is))) in
    moments_of start v c.args.change c.args.content added (c.requires.holds tells closed) supplies c.added-added.ensures (g.G.Ground.state c.write_record.new.ground) (c.requires.bytes closed) (c.requires.accepted closed) room journal
    c.self.inside.journal.file c.self.inside.journal.used c.self.invariant.file_is (ap (λ (w : View). w.used) c.self.view_is) (c.write_record.ensures.moments tells)

pub take_up-requires-clause-references : goal.take_up-requires-clause-references
take_up-requires-clause-references g c =
    let open_now : c.args.self.now.closed ≡ None = sym (ap (λ (w : View). w.closed) c.self.view_is) ∙ none_by c.self.inside.closed c.in_default.not-Some in
    subst (λ (w : View). All (Contains (kept_and w.contents.kept c.added-added.result)) (references_of c.args.change.edits)) (sym c.self.view_is)
    (names_added g.G.Ground.tells (g.G.Ground.state c.args.ground.now) c.args.self.now.contents (references_of c.args.change.edits) c.args.content c.added-added.result (c.requires.supplies open_now) c.added-added.ensures)

pub invariant_of-self-in-Err : goal.invariant_of-self-in-Err
invariant_of-self-in-Err g c =
    let open_now : c.args.self.now.closed ≡ None = sym (ap (λ (w : View). w.closed) c.self.view_is) ∙ none_by c.self.inside.closed c.in_default.not-Some in
    record {
      file_is = search rules;
      files = c.take_up.ensures.files;
      short = omega (arith, c.take_up.ensures.short, c.self.invariant.short, c.self.inside.limits.within.blobs_fit);
      lens = taken_short c.self.inside.blobs.kept c.take_up.new.blobs.kept (references_of c.args.change.edits) c.args.content c.added-added.result c.take_up.ensures.either c.added-added.ensures
          (change_short c.args.change (c.requires.bytes open_now)) c.self.invariant.lens;
    }

pub returns-in-Err-clause-moments : goal.returns-in-Err-clause-moments
returns-in-Err-clause-moments g c = λ tells closed.
    let v : View = c.args.self.now in
    let added : Option Staged = c.added-added.result in
    let start : State = g.G.Ground.state c.args.ground.now in
    let supplies = supplies_told start v.contents c.args.content (references_of c.args.change.edits) tells (c.requires.supplies closed) in
    let room : HasRoom v.limits.blobs (end_of v.contents.kept) added =
    subst (λ (w : View). HasRoom w.limits.blobs (end_of w.contents.kept) added) c.self.view_is
    (subst (λ (n : ℕ). HasRoom c.self.inside.limits.blobs n added) c.kept_length.ensures.sum
    (room_added c.self.inside.limits.blobs c.kept_length.result added (λ p. false≢true (sym c.if-passes.false ∙ c.passes.ensures.1 p)))) in
    let journal : fills_journal v.limits v.used c.args.change ≡ false =
    subst (λ (w : View). fills_journal w.limits w.used c.args.change ≡ false) c.self.view_is (c.write_record.ensures.room (inl c.in-Ok.is)) in
    moments_of start v c.args.change c.args.content added (c.requires.holds tells closed) supplies c.added-added.ensures (g.G.Ground.state c.write_record.new.ground) (c.requires.bytes closed) (c.requires.accepted closed) room journal
    c.self.inside.journal.file c.self.inside.journal.used c.self.invariant.file_is (ap (λ (w : View). w.used) c.self.view_is) (c.write_record.ensures.moments tells)

pub invariant_of-self-2 : goal.invariant_of-self-2
invariant_of-self-2 g c =
    let open_now : c.args.self.now.closed ≡ None = sym (ap (λ (w : View). w.closed) c.self.view_is) ∙ none_by c.self.inside.closed c.in_default.not-Some in
    record {
      file_is = search rules;
      files = c.take_up.ensures.files;
      short = omega (arith, c.take_up.ensures.short, c.self.invariant.short, c.self.inside.limits.within.blobs_fit);
      lens = taken_short c.self.inside.blobs.kept c.take_up.new.blobs.kept (references_of c.args.change.edits) c.args.content c.added-added.result c.take_up.ensures.either c.added-added.ensures
          (change_short c.args.change (c.requires.bytes open_now)) c.self.invariant.lens;
    }

pub returns-clause-accepts : goal.returns-clause-accepts
returns-clause-accepts g c = λ tells closed.
    let v : View = c.args.self.now in
    let added : Option Staged = c.added-added.result in
    let start : State = g.G.Ground.state c.args.ground.now in
    let supplies = supplies_told start v.contents c.args.content (references_of c.args.change.edits) tells (c.requires.supplies closed) in
    let room : HasRoom v.limits.blobs (end_of v.contents.kept) added =
    subst (λ (w : View). HasRoom w.limits.blobs (end_of w.contents.kept) added) c.self.view_is
    (subst (λ (n : ℕ). HasRoom c.self.inside.limits.blobs n added) c.kept_length.ensures.sum
    (room_added c.self.inside.limits.blobs c.kept_length.result added (λ p. false≢true (sym c.if-passes.false ∙ c.passes.ensures.1 p)))) in
    let journal : fills_journal v.limits v.used c.args.change ≡ false =
    subst (λ (w : View). fills_journal w.limits w.used c.args.change ≡ false) c.self.view_is (c.write_record.ensures.room (inl c.in-Ok.is)) in
    let items : items_of c.take_up.new.rows ≡ edited_by itself c.args.change.moment c.args.change.user c.args.change.edits (items_of v.rows) =
    c.in-Ok-take_up.ensures.rows ∙ ap (λ (w : View). edited_by itself c.args.change.moment c.args.change.user c.args.change.edits (items_of w.rows)) c.self.view_is in
    let kept : c.take_up.new.blobs.kept ≡ kept_and v.contents.kept added = c.in-Ok-take_up.ensures.kept ∙ ap (λ (w : View). kept_and w.contents.kept added) c.self.view_is in
    let used : c.write_record.new.journal.used ≡ v.used + 5 + body_length c.args.change =
    ap (λ (j : Place). j.used) c.in-Ok.ensures.longer ∙ ap (λ (w : View). w.used + 5 + body_length c.args.change) c.self.view_is in
    let end : State = g.G.Ground.state c.write_record.new.ground in
    let next : View = record { rows = c.take_up.new.rows; contents = c.take_up.new.blobs; used = c.write_record.new.journal.used; limits = c.self.inside.limits; commits = c.saturating_add-number.result; closed = c.self.inside.closed } in
    let appended = appended_of start v c.args.change c.args.content added (c.requires.holds tells closed) supplies c.added-added.ensures end (c.requires.bytes closed) (c.requires.accepted closed) room journal
    c.self.inside.journal.file c.self.inside.journal.used c.self.invariant.file_is (ap (λ (w : View). w.used) c.self.view_is) (c.in-Ok.ensures.ok tells) in
    let staging : c.take_up.new.blobs.staging ≡ None = c.take_up.ensures.staging ∙ ap (λ (w : View). w.contents.staging) c.self.view_is ∙ supplies.unstaged in
    ends_done start v c.args.change c.args.content added (c.requires.holds tells closed) supplies c.added-added.ensures end (c.requires.bytes closed) (c.requires.accepted closed) room journal
    next items kept staging (ap (λ (w : View). w.limits) c.self.view_is) used appended

pub returns-clause-moments : goal.returns-clause-moments
returns-clause-moments g c = λ tells closed.
    let v : View = c.args.self.now in
    let added : Option Staged = c.added-added.result in
    let start : State = g.G.Ground.state c.args.ground.now in
    let supplies = supplies_told start v.contents c.args.content (references_of c.args.change.edits) tells (c.requires.supplies closed) in
    let room : HasRoom v.limits.blobs (end_of v.contents.kept) added =
    subst (λ (w : View). HasRoom w.limits.blobs (end_of w.contents.kept) added) c.self.view_is
    (subst (λ (n : ℕ). HasRoom c.self.inside.limits.blobs n added) c.kept_length.ensures.sum
    (room_added c.self.inside.limits.blobs c.kept_length.result added (λ p. false≢true (sym c.if-passes.false ∙ c.passes.ensures.1 p)))) in
    let journal : fills_journal v.limits v.used c.args.change ≡ false =
    subst (λ (w : View). fills_journal w.limits w.used c.args.change ≡ false) c.self.view_is (c.write_record.ensures.room (inl c.in-Ok.is)) in
    moments_of start v c.args.change c.args.content added (c.requires.holds tells closed) supplies c.added-added.ensures (g.G.Ground.state c.write_record.new.ground) (c.requires.bytes closed) (c.requires.accepted closed) room journal
    c.self.inside.journal.file c.self.inside.journal.used c.self.invariant.file_is (ap (λ (w : View). w.used) c.self.view_is) (c.write_record.ensures.moments tells)

pub returns-clause-left : goal.returns-clause-left
returns-clause-left g c =
    let v : View = c.args.self.now in
    let added : Option Staged = c.added-added.result in
    let items : items_of c.take_up.new.rows ≡ edited_by itself c.args.change.moment c.args.change.user c.args.change.edits (items_of v.rows) =
    c.in-Ok-take_up.ensures.rows ∙ ap (λ (w : View). edited_by itself c.args.change.moment c.args.change.user c.args.change.edits (items_of w.rows)) c.self.view_is in
    let kept : c.take_up.new.blobs.kept ≡ kept_and v.contents.kept added = c.in-Ok-take_up.ensures.kept ∙ ap (λ (w : View). kept_and w.contents.kept added) c.self.view_is in
    let used : c.write_record.new.journal.used ≡ v.used + 5 + body_length c.args.change =
    ap (λ (j : Place). j.used) c.in-Ok.ensures.longer ∙ ap (λ (w : View). w.used + 5 + body_length c.args.change) c.self.view_is in
    record {
      still_open = none_by c.self.inside.closed c.in_default.not-Some;
      count = search rules;
      used = used;
      items = items;
      kept = λ file is. subst (λ (l : List FileRef). Contains l file) (sym kept) (and_contains v.contents.kept added file is);
    }

pub returns-clause-holds : goal.returns-clause-holds
returns-clause-holds g c = λ tells is.
    let closed : c.args.self.now.closed ≡ None = sym (ap (λ (w : View). w.closed) c.self.view_is) ∙ is in
    let v : View = c.args.self.now in
    let added : Option Staged = c.added-added.result in
    let start : State = g.G.Ground.state c.args.ground.now in
    let supplies = supplies_told start v.contents c.args.content (references_of c.args.change.edits) tells (c.requires.supplies closed) in
    let room : HasRoom v.limits.blobs (end_of v.contents.kept) added =
    subst (λ (w : View). HasRoom w.limits.blobs (end_of w.contents.kept) added) c.self.view_is
    (subst (λ (n : ℕ). HasRoom c.self.inside.limits.blobs n added) c.kept_length.ensures.sum
    (room_added c.self.inside.limits.blobs c.kept_length.result added (λ p. false≢true (sym c.if-passes.false ∙ c.passes.ensures.1 p)))) in
    let journal : fills_journal v.limits v.used c.args.change ≡ false =
    subst (λ (w : View). fills_journal w.limits w.used c.args.change ≡ false) c.self.view_is (c.write_record.ensures.room (inl c.in-Ok.is)) in
    let items : items_of c.take_up.new.rows ≡ edited_by itself c.args.change.moment c.args.change.user c.args.change.edits (items_of v.rows) =
    c.in-Ok-take_up.ensures.rows ∙ ap (λ (w : View). edited_by itself c.args.change.moment c.args.change.user c.args.change.edits (items_of w.rows)) c.self.view_is in
    let kept : c.take_up.new.blobs.kept ≡ kept_and v.contents.kept added = c.in-Ok-take_up.ensures.kept ∙ ap (λ (w : View). kept_and w.contents.kept added) c.self.view_is in
    let used : c.write_record.new.journal.used ≡ v.used + 5 + body_length c.args.change =
    ap (λ (j : Place). j.used) c.in-Ok.ensures.longer ∙ ap (λ (w : View). w.used + 5 + body_length c.args.change) c.self.view_is in
    let end : State = g.G.Ground.state c.write_record.new.ground in
    let next : View = record { rows = c.take_up.new.rows; contents = c.take_up.new.blobs; used = c.write_record.new.journal.used; limits = c.self.inside.limits; commits = c.saturating_add-number.result; closed = c.self.inside.closed } in
    let appended = appended_of start v c.args.change c.args.content added (c.requires.holds tells closed) supplies c.added-added.ensures end (c.requires.bytes closed) (c.requires.accepted closed) room journal
    c.self.inside.journal.file c.self.inside.journal.used c.self.invariant.file_is (ap (λ (w : View). w.used) c.self.view_is) (c.in-Ok.ensures.ok tells) in
    let staging : c.take_up.new.blobs.staging ≡ None = c.take_up.ensures.staging ∙ ap (λ (w : View). w.contents.staging) c.self.view_is ∙ supplies.unstaged in
    holds_then start v c.args.change c.args.content added (c.requires.holds tells closed) supplies c.added-added.ensures end (c.requires.bytes closed) (c.requires.accepted closed) room journal
    next items kept staging (ap (λ (w : View). w.limits) c.self.view_is) used appended
