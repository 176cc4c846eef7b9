use Rattle.std.proofs.Common.{◌≡◌, ◌++◌, ℕ, List, [], refl, sym, ap, ◌∙◌, subst}
use Rattle.std.specs.Prelude.{Result, Err, Some, OnOk, OnErr, IfErr, IsErrOf}
use Rattle.std.specs.Option.{option_copied}
use Rattle.arti_ground.specs.State.{Passes, LeavesDisk}
use Rattle.arti_model.specs.Stock.{accept, unchanged}
use Rattle.arti_store.specs.declared.fault.CommitFault.{CommitFault}
use Rattle.arti_store.specs.Store.{View, file_at, shows}
use Rattle.arti_store.specs.Commit.{EndsAs, LeftBy}
use Rattle.arti_store.specs.ImageLaws.{supplies_more}
use Rattle.arti_service.specs.declared.answering.Stop.TheVariants as stop
use Rattle.arti_service.specs.Acts.{ActsFor}
use Rattle.arti_service.specs.Cuts.{TellsFront, StopsTelling}
use Rattle.arti_service.specs.Moments.{Telling}
use Rattle.arti_service.specs.Parts.{rest_of, rest_at, full_reply}
use Rattle.arti_service.specs.Stocks.{IsReady}
use Rattle.arti_service.proofs.Commits.{committed_acts, stopped_acts, full_acts}
use Rattle.arti_service.proofs.carrying.commit_and_tell.Goals as goal

pub commit-requires-clause-supplies : goal.commit-requires-clause-supplies
commit-requires-clause-supplies g c = λ still_open.
    supplies_more (g.G.Ground.state c.args.ground.now) c.args.store.now.contents c.args.staged [] _ c.requires.supplies c.requires.may.references

pub returns-in-Ok-clause-acts : goal.returns-in-Ok-clause-acts
returns-in-Ok-clause-acts g c = λ gt.
    let x = g.G.Ground.state c.args.ground.now in
    let mid = g.G.Ground.state c.commit.new.ground in
    let end = g.G.Ground.state c.tell_reply.new.ground in
    let v = c.args.store.now in
    let line = c.args.line in
    let told : List ℕ = mid.told line in
    let reply : List ℕ = c.args.head.now ++ rest_at x (option_copied c.args.file) in
    let answer = accept v.limits (shows x v) (file_at x) c.args.change reply in
    let rest : rest_at mid (option_copied c.args.file) ≡ rest_at x (option_copied c.args.file) = ap (λ (b : List ℕ). rest_of b (option_copied c.args.file)) (c.in-Ok.ensures.contents gt) in
    let ready : IsReady v.limits c.commit.new.self =
    record { still_open = c.in-Ok.ensures.left.still_open; limits_are = c.commit.ensures.limits; unstaged = c.commit.ensures.staging ∙ c.requires.ready.unstaged } in
    subst (λ (w : View). ActsFor v.limits line answer c.tell_reply.result x end v w) (sym c.tell_reply.ensures.unchanged)
    (committed_acts line x v answer reply c.args.change c.tell_reply.result mid end c.commit.new.self (c.in-Ok.ensures.accepts gt c.requires.ready.still_open reply)
    (c.commit.ensures.told gt) ready (c.commit.ensures.holds gt) (c.commit.ensures.moments gt c.requires.ready.still_open reply)
    (c.tell_reply.ensures.leaves gt) c.tell_reply.ensures.no_memory
    (subst (λ (l : List ℕ). OnOk c.tell_reply.result (end.told line ≡ told ++ (c.args.head.now ++ l))) rest (c.tell_reply.ensures.told gt))
    (subst (λ (l : List ℕ). OnErr c.tell_reply.result (TellsFront (c.args.head.now ++ l) told (end.told line))) rest (c.tell_reply.ensures.stops gt))
    (subst (λ (l : List ℕ). Passes mid end (Telling mid line (c.args.head.now ++ l))) rest (c.tell_reply.ensures.time gt)))

pub returns-in-Err-Full-clause-acts : goal.returns-in-Err-Full-clause-acts
returns-in-Err-Full-clause-acts g c = λ gt.
    let state = g.G.Ground.state in
    let x = state c.args.ground.now in
    let end = state c.tell_full.new.ground in
    let v = c.args.store.now in
    let line = c.args.line in
    let full : List ℕ = full_reply c.in-Err-Full.which in
    let reply : List ℕ = c.args.head.now ++ rest_at x (option_copied c.args.file) in
    let answer = accept v.limits (shows x v) (file_at x) c.args.change reply in
    let is : answer ≡ unchanged (shows x v) full =
    subst (λ (e : CommitFault). EndsAs (Err e) c.args.change reply (shows x v) (shows (state c.commit.new.ground) c.commit.new.self) answer) c.in-Err-Full.field-0-is
    (c.in-Err-Full.ensures.accepts gt c.requires.ready.still_open reply) in
    let same = c.in-Err-Full.ensures.not_written (λ q. cc (q, c.in-Err-Full.field-0-is)) (λ q. cc (q, c.in-Err-Full.field-0-is)) in
    let left : c.commit.new.self ≡ v = subst (λ (e : CommitFault). LeftBy (Err e) c.args.change v c.commit.new.self) c.in-Err-Full.field-0-is c.in-Err-Full.ensures.left in
    subst (λ (w : View). ActsFor v.limits line answer c.tell_full.result x end v w) (sym left)
    (full_acts line x v answer c.in-Err-Full.which c.tell_full.result end is c.requires.ready (c.requires.holds gt)
    (subst (λ o. LeavesDisk (state o) end) same (c.tell_full.ensures.leaves gt))
    (subst (λ o. OnOk c.tell_full.result (end.told line ≡ (state o).told line ++ full)) same (c.tell_full.ensures.told gt))
    (subst (λ o. IfErr c.tell_full.result (λ stop. StopsTelling stop full ((state o).told line) (end.told line))) same (c.tell_full.ensures.stops gt))
    (subst (λ o. Passes (state o) end (Telling (state o) line full)) same (c.tell_full.ensures.time gt)))

pub returns-in-Err-Device-clause-acts : goal.returns-in-Err-Device-clause-acts
returns-in-Err-Device-clause-acts g c = λ gt.
    let x = g.G.Ground.state c.args.ground.now in
    let v = c.args.store.now in
    let reply : List ℕ = c.args.head.now ++ rest_at x (option_copied c.args.file) in
    stopped_acts c.args.line x v (accept v.limits (shows x v) (file_at x) c.args.change reply) stop.Disk (g.G.Ground.state c.commit.new.ground) c.commit.new.self (λ disk memory. disk refl) (c.commit.ensures.told gt)
    (c.commit.ensures.moments gt c.requires.ready.still_open reply)

pub returns-in-Err-Memory-clause-acts : goal.returns-in-Err-Memory-clause-acts
returns-in-Err-Memory-clause-acts g c = λ gt.
    let x = g.G.Ground.state c.args.ground.now in
    let v = c.args.store.now in
    let reply : List ℕ = c.args.head.now ++ rest_at x (option_copied c.args.file) in
    stopped_acts c.args.line x v (accept v.limits (shows x v) (file_at x) c.args.change reply) stop.Memory (g.G.Ground.state c.commit.new.ground) c.commit.new.self (λ disk memory. memory refl) (c.commit.ensures.told gt)
    (c.commit.ensures.moments gt c.requires.ready.still_open reply)

pub unreachable-requires : goal.unreachable-requires
unreachable-requires g c =
    let n = c.in-Err-Closed.field-0-0 in
    let is : c.args.store.now.closed ≡ Some n =
    (c.commit.ensures.closed n).0 (subst (λ (e : CommitFault). IsErrOf c.commit.result e) c.in-Err-Closed.field-0-is (subst (λ (r : Result (Unit {0}) CommitFault). IsErrOf r c.in-Err-Closed.field-0) (sym c.in-Err-Closed.is) refl)) in
    absurd (cc (sym c.requires.ready.still_open ∙ is))
