use Rattle.std.proofs.Common.{rules, refl}
use Rattle.arti_props.specs.Rows.{Pair}
use Rattle.arti_props.proofs.Features.{digest_ready}
use Rattle.arti_props.proofs.indexing.add.Goals as goal

pub add_all-requires : goal.add_all-requires
add_all-requires c = record { ready = λ k v has. c.requires.ready (Pair k v) (search rules) }

pub add_digests-requires : goal.add_digests-requires
add_digests-requires c = record {
  ready = digest_ready c.args.id c.args.index.now (record { values = c.add_all.new.values; md5s = c.args.index.now.md5s; sha1s = c.args.index.now.sha1s; sha256s = c.args.index.now.sha256s }) c.in-Some-digests.digests c.in-Some.row.now refl refl refl c.in-Some-digests.is (λ f has. c.requires.ready f (search rules));
}
