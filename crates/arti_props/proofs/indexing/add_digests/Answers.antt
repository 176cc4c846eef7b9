use Rattle.std.proofs.Common.{refl}
use Rattle.arti_ids.specs.Ids.{with_id}
use Rattle.arti_props.specs.Rows.{Md5, Sha1, Sha256}
use Rattle.arti_props.proofs.Features.{same_digest, turn_all}
use Rattle.arti_props.proofs.indexing.add_digests.Goals as goal

pub add-requires : goal.add-requires
add-requires c = let digest = c.args.digests.now.md5 in record { ready = c.requires.ready (Md5 digest) (same_digest digest) }

pub add-requires-2 : goal.add-requires-2
add-requires-2 c = let digest = c.args.digests.now.sha1 in record { ready = c.requires.ready (Sha1 digest) (same_digest digest) }

pub add-requires-3 : goal.add-requires-3
add-requires-3 c = let digest = c.args.digests.now.sha256 in record { ready = c.requires.ready (Sha256 digest) (same_digest digest) }

pub returns-clause-ids : goal.returns-clause-ids
returns-clause-ids c = turn_all (with_id c.args.id) c.args.digests.now c.args.index.now (record { values = c.args.index.now.values; md5s = c.add.new.self; sha1s = c.add-2.new.self; sha256s = c.add-3.new.self }) refl c.add.ensures.ids c.add-2.ensures.ids c.add-3.ensures.ids
