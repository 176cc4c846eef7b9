use Rattle.std.proofs.Common.{refl}
use Rattle.arti_ids.specs.Ids.{without_id}
use Rattle.arti_props.proofs.Features.{turn_all, keep_all}
use Rattle.arti_props.proofs.indexing.remove_digests.Goals as goal

pub returns-clause-ids : goal.returns-clause-ids
returns-clause-ids c = turn_all (without_id c.args.id) c.args.digests.now c.args.index.now (record { values = c.args.index.now.values; md5s = c.remove.new.self; sha1s = c.remove-2.new.self; sha256s = c.remove-3.new.self }) refl c.remove.ensures.ids c.remove-2.ensures.ids c.remove-3.ensures.ids

pub returns-clause-ready : goal.returns-clause-ready
returns-clause-ready c = keep_all c.args.id c.args.index.now (record { values = c.args.index.now.values; md5s = c.remove.new.self; sha1s = c.remove-2.new.self; sha256s = c.remove-3.new.self }) refl c.remove.ensures.ready c.remove-2.ensures.ready c.remove-3.ensures.ready
