use Rattle.arti_props.proofs.Features.{none_all}
use Rattle.arti_props.proofs.indexing.empty.Goals as goal

pub returns : goal.returns
returns c = none_all (record { values = c.new.result; md5s = c.new-2.result; sha1s = c.new-3.result; sha256s = c.new-4.result }) c.new.ensures.empty c.new-2.ensures c.new-3.ensures c.new-4.ensures
