use Rattle.std.proofs.Common.{◌≡◌, sym, arith}
use Rattle.std.proofs.lemmas.List.{length-take-le, take_all}
use Rattle.arti_wire.proofs.head.window.Goals as goal

pub slice_bounds-result-end : goal.slice_bounds-result-end
slice_bounds-result-end c = sym (length-take-le 32768 c.args.bytes.now (omega arith))

pub returns-else-bytes-gt-HEAD_ROOM : goal.returns-else-bytes-gt-HEAD_ROOM
returns-else-bytes-gt-HEAD_ROOM c = sym (take_all 32768 c.args.bytes.now (omega arith))
