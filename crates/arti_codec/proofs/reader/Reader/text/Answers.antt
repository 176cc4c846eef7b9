use Rattle.std.proofs.Common.{◌≡◌, true, false, rules}
use Rattle.std.specs.Str.{is_utf8}
use Rattle.std.proofs.lemmas.Bool.{false_from_ne_true}
use Rattle.std.proofs.lemmas.Str.{IsUtf8-from_is_utf8, is_utf8-from_IsUtf8}
use Rattle.arti_codec.specs.ReadingRows.{text_at}
use Rattle.arti_codec.proofs.reader.Reader.text.Goals as goal

pub returns-in-Ok : goal.returns-in-Ok
unfolding text_at
returns-in-Ok c =
    let good : is_utf8 c.in_ok-bytes.bytes.now ≡ true = is_utf8-from_IsUtf8 c.in_ok-bytes.bytes.now c.in-Ok.ensures.cases.1 in
    search rules

pub returns-in-Err : goal.returns-in-Err
unfolding text_at
returns-in-Err c =
    let bad : is_utf8 c.in_ok-bytes.bytes.now ≡ false = false_from_ne_true (is_utf8 c.in_ok-bytes.bytes.now) (λ e. c.in-Err.ensures.cases.0 (IsUtf8-from_is_utf8 c.in_ok-bytes.bytes.now e)) in
    search rules
