-- Changes have bytes.
use Rattle.std.proofs.Common.{ℕ, ◌<◌, List, ◌++◌, length, ap, arith, length-append}
use Rattle.arti_rows.specs.declared.edits.Change.{Change}
use Rattle.arti_codec.specs.Format.{number}
use Rattle.arti_codec.specs.ChangeBytes.{moment, text, edit_list, change, ChangeBytes}

spelled : (c : Change) → 0 < length (change.spell c)
unfolding change moment number
spelled c = omega (arith, length-append (moment.spell c.moment) (text.spell c.user ++ edit_list.spell c.edits))

pub some_bytes : (bytes : List ℕ) (c : Change) → ChangeBytes bytes c → 0 < length bytes
some_bytes bytes c one = omega (arith, ap length one.1, spelled c)
