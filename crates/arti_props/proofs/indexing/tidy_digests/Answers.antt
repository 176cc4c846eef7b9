use Rattle.std.proofs.Common.{refl}
use Rattle.arti_props.proofs.Features.{stay_all}
use Rattle.arti_props.proofs.indexing.tidy_digests.Goals as goal

pub returns : goal.returns
returns c = record { ids = stay_all c.args.index.now (record { values = c.args.index.now.values; md5s = c.tidy.new.self; sha1s = c.tidy-2.new.self; sha256s = c.tidy-3.new.self }) refl c.tidy.ensures.ids c.tidy-2.ensures.ids c.tidy-3.ensures.ids }
