use Rattle.std.proofs.Common.{◌≡◌, ℕ, ◌^◌, ◌≤◌, List, [], length, Err, None, refl, sym, ◌∙◌, ap, subst, arith, rules}
use Rattle.arti_rows.specs.declared.limits.Limits.{Limits}
use Rattle.arti_rows.specs.declared.rows.FileRef.{FileRef}
use Rattle.arti_rows.specs.declared.rows.ItemRow.{ItemRow}
use Rattle.arti_ground.specs.State.{State, IsDurable}
use Rattle.arti_journal.specs.Journal.{IsJournal, HoldsJournal, bodies_of}
use Rattle.arti_blobs.specs.Contents.{end_of, Keeps}
use Rattle.arti_store.specs.declared.fault.OpenFault.TheVariants.{NotAStore}
use Rattle.arti_store.specs.Items.{items_of}
use Rattle.arti_store.specs.Replays.{Replays, ReplaysNot}
use Rattle.arti_store.specs.Store.{View, AreDistinct}
use Rattle.arti_store.proofs.Openings.{not_replayed, not_contents, journal_opened, then_read, opened_stands, opened_holds, opened_has}
use Rattle.arti_store.proofs.Shortness.{opened_short}
use Rattle.arti_store.proofs.store.Store.open.Goals as goal

pub returns-in-Err-NotAJournal-clause-none : goal.returns-in-Err-NotAJournal-clause-none
returns-in-Err-NotAJournal-clause-none g c = λ tells is h used stands.
    c.open.ensures.none tells (c.in-Err-NotAJournal.is ∙ ap Err c.in-Err-NotAJournal.field-0-is) stands.bodies stands.journal

pub returns-in-Err-NotAJournal-clause-moments : goal.returns-in-Err-NotAJournal-clause-moments
returns-in-Err-NotAJournal-clause-moments g c = λ tells. journal_opened (g.G.Ground.state c.args.ground.now) (g.G.Ground.state c.open.new.outside) c.args.limits.now (c.open.ensures.moments tells)

pub returns-in-Err-Device-clause-moments : goal.returns-in-Err-Device-clause-moments
returns-in-Err-Device-clause-moments g c = λ tells. journal_opened (g.G.Ground.state c.args.ground.now) (g.G.Ground.state c.open.new.outside) c.args.limits.now (c.open.ensures.moments tells)

pub returns-in-Err-Memory-clause-moments : goal.returns-in-Err-Memory-clause-moments
returns-in-Err-Memory-clause-moments g c = λ tells. journal_opened (g.G.Ground.state c.args.ground.now) (g.G.Ground.state c.open.new.outside) c.args.limits.now (c.open.ensures.moments tells)

pub returns-in-Err-clause-moments : goal.returns-in-Err-clause-moments
returns-in-Err-clause-moments g c = λ tells. journal_opened (g.G.Ground.state c.args.ground.now) (g.G.Ground.state c.open.new.outside) c.args.limits.now (c.open.ensures.moments tells)

pub returns-in-Ok-None-clause-moments : goal.returns-in-Ok-None-clause-moments
returns-in-Ok-None-clause-moments g c = λ tells. journal_opened (g.G.Ground.state c.args.ground.now) (g.G.Ground.state c.open.new.outside) c.args.limits.now (c.open.ensures.moments tells)

pub returns-in-Ok-None-clause-none : goal.returns-in-Ok-None-clause-none
returns-in-Ok-None-clause-none g c = λ tells is h used stands.
    let limits : Limits = c.args.limits.now in
    let old : State = g.G.Ground.state c.args.ground.now in
    let bodies : List (List ℕ) = bodies_of c.in-Ok.opened.1.items in
    let journal : IsJournal bodies (old.files 1) = search rules in
    let not : ReplaysNot limits bodies = search rules in
    not_replayed c.one_list_of_bodies.ensures limits old.files bodies journal not h used stands

pub returns-in-Err-open_contents-clause-none : goal.returns-in-Err-open_contents-clause-none
returns-in-Err-open_contents-clause-none g c = λ tells is h used stands.
    let limits : Limits = c.args.limits.now in
    let old : State = g.G.Ground.state c.args.ground.now in
    let bodies : List (List ℕ) = bodies_of c.in-Ok.opened.1.items in
    let journal : IsJournal bodies (old.files 1) = search rules in
    let rows : List ItemRow = c.in-Ok-Some.done.0 in
    let names : List FileRef = c.in-Ok-Some.done.1.items in
    let replays : Replays limits bodies (items_of rows) names = search rules in
    let mid : State = g.G.Ground.state c.open.new.outside in
    let third : mid.files 3 ≡ old.files 3 = (c.open.ensures.now tells).others 3 (omega arith) in
    let fault : c.in-Err-open_contents.fault ≡ NotAStore = cc in
    not_contents c.one_list_of_bodies.ensures limits old.files bodies journal (items_of rows) names c.bytes_are_of_one_change.ensures replays
    (λ all keeps short within distinct. c.open_contents.ensures.none tells (c.in-Err-open_contents.is ∙ ap Err fault) all (subst (λ (l : List FileRef). Keeps [] l all) (sym c.deref-2.ensures.value) keeps) short
    (omega (arith, within, ap length third)) (subst (λ (b : List ℕ). AreDistinct b all) (sym third) distinct)) h used stands

pub returns-in-Err-open_contents-clause-moments : goal.returns-in-Err-open_contents-clause-moments
returns-in-Err-open_contents-clause-moments g c = λ tells.
    let mid : State = g.G.Ground.state c.open.new.outside in
    let durable : IsDurable mid = search rules in
    then_read (g.G.Ground.state c.args.ground.now) mid (g.G.Ground.state c.open_contents.new.ground) c.args.limits.now (c.open.ensures.moments tells) durable (c.open.ensures.now tells) (c.open_contents.ensures.reads tells)

pub returns-clause-moments : goal.returns-clause-moments
returns-clause-moments g c = λ tells.
    let mid : State = g.G.Ground.state c.open.new.outside in
    let durable : IsDurable mid = search rules in
    then_read (g.G.Ground.state c.args.ground.now) mid (g.G.Ground.state c.open_contents.new.ground) c.args.limits.now (c.open.ensures.moments tells) durable (c.open.ensures.now tells) (c.open_contents.ensures.reads tells)

pub invariant_of-result : goal.invariant_of-result
invariant_of-result g c =
    let limits : Limits = c.args.limits.now in
    let bodies : List (List ℕ) = bodies_of c.in-Ok.opened.1.items in
    let rows : List ItemRow = c.in-Ok-Some.done.0 in
    let names : List FileRef = c.in-Ok-Some.done.1.items in
    let replays : Replays limits bodies (items_of rows) names = search rules in
    let keeps : Keeps [] names c.in-Ok-open_contents.blobs.kept = search rules in
    record {
      file_is = search rules;
      files = opened_has limits bodies rows names c.in-Ok-open_contents.blobs.kept replays keeps;
      short = search rules;
      lens = opened_short limits bodies (items_of rows) names c.in-Ok-open_contents.blobs.kept replays keeps;
    }

pub returns-clause-stands : goal.returns-clause-stands
returns-clause-stands g c = λ tells.
    let limits : Limits = c.args.limits.now in
    let old : State = g.G.Ground.state c.args.ground.now in
    let bodies : List (List ℕ) = bodies_of c.in-Ok.opened.1.items in
    let journal : IsJournal bodies (old.files 1) = search rules in
    let rows : List ItemRow = c.in-Ok-Some.done.0 in
    let names : List FileRef = c.in-Ok-Some.done.1.items in
    let replays : Replays limits bodies (items_of rows) names = search rules in
    let mid : State = g.G.Ground.state c.open.new.outside in
    let third : mid.files 3 ≡ old.files 3 = (c.open.ensures.now tells).others 3 (omega arith) in
    let blobs = c.in-Ok-open_contents.blobs in
    let keeps : Keeps [] names blobs.kept = search rules in
    let distinct_mid : AreDistinct (mid.files 3) blobs.kept = search rules in
    let within_mid : end_of blobs.kept ≤ length (mid.files 3) = search rules in
    let distinct : AreDistinct (old.files 3) blobs.kept = subst (λ (b : List ℕ). AreDistinct b blobs.kept) third distinct_mid in
    let within : end_of blobs.kept ≤ length (old.files 3) = omega (arith, within_mid, ap length third) in
    let short : end_of blobs.kept ≤ 2 ^ 62 = search rules in
    let held : HoldsJournal mid 1 c.in-Ok.opened.0.used bodies = search rules in
    let v : View = record { rows = rows; contents = blobs; used = c.in-Ok.opened.0.used; limits = limits; commits = 0; closed = None } in
    opened_stands limits bodies (items_of rows) names blobs.kept (old.files 3) replays keeps distinct within short v refl refl refl old.files refl journal held.length_is

pub returns-clause-holds : goal.returns-clause-holds
returns-clause-holds g c = λ tells is.
    let limits : Limits = c.args.limits.now in
    let old : State = g.G.Ground.state c.args.ground.now in
    let bodies : List (List ℕ) = bodies_of c.in-Ok.opened.1.items in
    let journal : IsJournal bodies (old.files 1) = search rules in
    let rows : List ItemRow = c.in-Ok-Some.done.0 in
    let names : List FileRef = c.in-Ok-Some.done.1.items in
    let replays : Replays limits bodies (items_of rows) names = search rules in
    let mid : State = g.G.Ground.state c.open.new.outside in
    let third : mid.files 3 ≡ old.files 3 = (c.open.ensures.now tells).others 3 (omega arith) in
    let blobs = c.in-Ok-open_contents.blobs in
    let keeps : Keeps [] names blobs.kept = search rules in
    let distinct_mid : AreDistinct (mid.files 3) blobs.kept = search rules in
    let within_mid : end_of blobs.kept ≤ length (mid.files 3) = search rules in
    let distinct : AreDistinct (old.files 3) blobs.kept = subst (λ (b : List ℕ). AreDistinct b blobs.kept) third distinct_mid in
    let within : end_of blobs.kept ≤ length (old.files 3) = omega (arith, within_mid, ap length third) in
    let short : end_of blobs.kept ≤ 2 ^ 62 = search rules in
    let held : HoldsJournal mid 1 c.in-Ok.opened.0.used bodies = search rules in
    let v : View = record { rows = rows; contents = blobs; used = c.in-Ok.opened.0.used; limits = limits; commits = 0; closed = None } in
    let durable : IsDurable mid = search rules in
    let staging : blobs.staging ≡ None = search rules in
    opened_holds limits bodies (items_of rows) names blobs.kept (old.files 3) replays keeps distinct within short v refl refl refl mid (g.G.Ground.state c.open_contents.new.ground) c.in-Ok.opened.0.used third held refl durable (c.open_contents.ensures.reads tells) staging
