use Rattle.std.proofs.Common.{◌≡◌, ◌++◌, ℕ, List, refl, sym, ap, subst}
use Rattle.std.specs.Prelude.{OnOk, OnErr, IfErr, Option}
use Rattle.std.specs.Option.{option_copied}
use Rattle.arti_rows.specs.declared.rows.FileRef.{FileRef}
use Rattle.arti_ground.specs.State.{Passes}
use Rattle.arti_blobs.specs.Contents.{content}
use Rattle.arti_model.specs.Stock.{accept}
use Rattle.arti_store.specs.Items.{file_in}
use Rattle.arti_store.specs.Store.{View, shows}
use Rattle.arti_service.specs.declared.act.Act.{Act}
use Rattle.arti_service.specs.Acts.{ActsFor, done_by}
use Rattle.arti_service.specs.Cuts.{StopsTelling, TellsFront}
use Rattle.arti_service.specs.Moments.{Telling}
use Rattle.arti_service.specs.Parts.{rest_of}
use Rattle.arti_service.proofs.Acting.{telling_acts}
use Rattle.arti_service.proofs.Commits.{front_acts}
use Rattle.arti_service.proofs.carrying.carry_out.Goals as goal

pub returns-in-Tell-clause-acts : goal.returns-in-Tell-clause-acts
returns-in-Tell-clause-acts g c = λ gt.
    let x = g.G.Ground.state c.args.ground.now in
    let end = g.G.Ground.state c.tell_parts.new.ground in
    let v = c.args.store.now in
    let reply : List ℕ = c.in-Tell.head.items ++ c.in-Tell.body.items in
    let text : c.deref.result.now ++ c.deref-in-Tell.result.now ≡ reply = λ i. c.deref.ensures.value i ++ c.deref-in-Tell.ensures.value i in
    subst (λ (a : Act). ActsFor v.limits c.args.line (done_by (x.files 3) v.limits (shows x v) a) c.tell_parts.result x end v v) (sym c.in-Tell.is)
    (telling_acts v.limits c.args.line (λ r. r ≡ reply) reply c.tell_parts.result x end v c.requires.ready (c.requires.holds gt) refl (c.tell_parts.ensures.leaves gt)
    (subst (λ (l : List ℕ). OnOk c.tell_parts.result (end.told c.args.line ≡ x.told c.args.line ++ l)) text (c.tell_parts.ensures.told gt))
    (subst (λ (l : List ℕ). IfErr c.tell_parts.result (λ stop. StopsTelling stop l (x.told c.args.line) (end.told c.args.line))) text (c.tell_parts.ensures.stops gt))
    (subst (λ (l : List ℕ). Passes x end (Telling x c.args.line l)) text (c.tell_parts.ensures.time gt)))

pub returns-in-Send-clause-acts : goal.returns-in-Send-clause-acts
returns-in-Send-clause-acts g c = λ gt.
    let x = g.G.Ground.state c.args.ground.now in
    let end = g.G.Ground.state c.tell_reply.new.ground in
    let v = c.args.store.now in
    let reply : List ℕ = c.in-Send.head.items ++ content (x.files 3) c.in-Send.file in
    let text : c.deref-in-Send.result.now ++ content (x.files 3) c.in-Send.file ≡ reply = ap (λ (l : List ℕ). l ++ content (x.files 3) c.in-Send.file) c.deref-in-Send.ensures.value in
    subst (λ (w : View). ActsFor v.limits c.args.line (done_by (x.files 3) v.limits (shows x v) c.args.act) c.tell_reply.result x end v w) (sym c.tell_reply.ensures.unchanged)
    (subst (λ (a : Act). ActsFor v.limits c.args.line (done_by (x.files 3) v.limits (shows x v) a) c.tell_reply.result x end v v) (sym c.in-Send.is)
    (front_acts v.limits c.args.line reply c.tell_reply.result x end v c.requires.ready (c.requires.holds gt) (c.tell_reply.ensures.leaves gt) c.tell_reply.ensures.no_memory
    (subst (λ (l : List ℕ). OnOk c.tell_reply.result (end.told c.args.line ≡ x.told c.args.line ++ l)) text (c.tell_reply.ensures.told gt))
    (subst (λ (l : List ℕ). OnErr c.tell_reply.result (TellsFront l (x.told c.args.line) (end.told c.args.line))) text (c.tell_reply.ensures.stops gt))
    (subst (λ (l : List ℕ). Passes x end (Telling x c.args.line l)) text (c.tell_reply.ensures.time gt))))

pub returns-in-Commit-clause-acts : goal.returns-in-Commit-clause-acts
returns-in-Commit-clause-acts g c = λ gt.
    let x = g.G.Ground.state c.args.ground.now in
    let end = g.G.Ground.state c.commit_and_tell.new.ground in
    let v = c.args.store.now in
    let file : option_copied c.as_ref.result ≡ c.in-Commit.file = c.as_ref.ensures.value in
    subst (λ (a : Act). ActsFor v.limits c.args.line (done_by (x.files 3) v.limits (shows x v) a) c.commit_and_tell.result x end v c.commit_and_tell.new.store) (sym c.in-Commit.is)
    (subst (λ (o : Option FileRef). ActsFor v.limits c.args.line (accept v.limits (shows x v) (file_in (x.files 3)) c.in-Commit.change (c.in-Commit.head.items ++ rest_of (x.files 3) o)) c.commit_and_tell.result x end v c.commit_and_tell.new.store) file
    (subst (λ (l : List ℕ). ActsFor v.limits c.args.line (accept v.limits (shows x v) (file_in (x.files 3)) c.in-Commit.change (l ++ rest_of (x.files 3) (option_copied c.as_ref.result))) c.commit_and_tell.result x end v c.commit_and_tell.new.store) c.deref-in-Commit.ensures.value
    (c.commit_and_tell.ensures.acts gt)))
