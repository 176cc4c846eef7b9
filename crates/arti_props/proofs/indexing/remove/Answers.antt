use Rattle.arti_ids.specs.Lists.{ids_of}
use Rattle.arti_props.specs.Rows.{has_digest}
use Rattle.arti_props.specs.Asked.{list_of}
use Rattle.arti_props.specs.declared.index.Index.{Index}
use Rattle.arti_props.proofs.Features.{pair_others}
use Rattle.arti_props.proofs.Pairs.{back}
use Rattle.arti_props.proofs.indexing.remove.Goals as goal

pub returns-in-Some-digests-clause-others : goal.returns-in-Some-digests-clause-others
returns-in-Some-digests-clause-others c = λ f.
    let old = c.args.index.now in
    let mid : Index = record { values = c.remove_all.new.values; md5s = old.md5s; sha1s = old.sha1s; sha256s = old.sha256s } in
    back c.args.id (has_digest f c.in-Some-digests.digests) (ids_of (list_of old f)) (ids_of (list_of mid f)) (ids_of (list_of c.remove_digests.new.index f))
    (pair_others c.args.id old c.remove_all.new.values c.remove_all.ensures.others f) (c.remove_digests.ensures.ids f)
