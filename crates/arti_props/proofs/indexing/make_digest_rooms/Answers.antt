use Rattle.std.proofs.Common.{refl, true}
use Rattle.arti_ids.specs.Lists.{IsReady}
use Rattle.arti_props.specs.Rows.{Feature, has_digest}
use Rattle.arti_props.specs.Asked.{list_of}
use Rattle.arti_props.specs.declared.index.Index.{Index}
use Rattle.std.proofs.Common.{◌≡◌}
use Rattle.arti_ids.specs.TextMapLaws.{on_ok}
use Rattle.arti_props.proofs.Features.{stay_all, ready_all, found}
use Rattle.arti_props.proofs.indexing.make_digest_rooms.Goals as goal

pub returns-in_err-make_room-clause-ids : goal.returns-in_err-make_room-clause-ids
returns-in_err-make_room-clause-ids c = stay_all c.args.index.now (record { values = c.args.index.now.values; md5s = c.make_room.new.self; sha1s = c.args.index.now.sha1s; sha256s = c.args.index.now.sha256s }) refl c.make_room.ensures.ids (λ d. refl) (λ d. refl)

pub returns-in_err-make_room-2-clause-ids : goal.returns-in_err-make_room-2-clause-ids
returns-in_err-make_room-2-clause-ids c = stay_all c.args.index.now (record { values = c.args.index.now.values; md5s = c.make_room.new.self; sha1s = c.make_room-2.new.self; sha256s = c.args.index.now.sha256s }) refl c.make_room.ensures.ids c.make_room-2.ensures.ids (λ d. refl)

pub returns-clause-ids : goal.returns-clause-ids
returns-clause-ids c = stay_all c.args.index.now (record { values = c.args.index.now.values; md5s = c.make_room.new.self; sha1s = c.make_room-2.new.self; sha256s = c.make_room-3.new.self }) refl c.make_room.ensures.ids c.make_room-2.ensures.ids c.make_room-3.ensures.ids

pub returns-clause-ready : goal.returns-clause-ready
returns-clause-ready c =
    let digests = c.args.digests.now in
    let new : Index = record { values = c.args.index.now.values; md5s = c.make_room.new.self; sha1s = c.make_room-2.new.self; sha256s = c.make_room-3.new.self } in
    on_ok c.make_room-3.result (IsReady c.args.id (found c.make_room-3.new.self digests.sha256)) ((f : Feature) → has_digest f digests ≡ true → IsReady c.args.id (list_of new f))
    (λ room. ready_all c.args.id digests new c.in_ok-make_room.ensures.ready c.in_ok-make_room-2.ensures.ready room) c.make_room-3.ensures.ready
