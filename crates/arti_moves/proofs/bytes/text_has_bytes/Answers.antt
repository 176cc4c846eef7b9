use Rattle.std.proofs.Common.{◌≡◌, refl, subst, ◌∙◌, arith}
use Rattle.std.specs.Prelude.{IsUtf8}
use Rattle.arti_codec.specs.Format.{number, IsBytes}
use Rattle.arti_codec.specs.ChangeBytes.{text}
use Rattle.arti_moves.proofs.bytes.text_has_bytes.Goals as goal

pub returns : goal.returns
unfolding text number
returns c = λ short.
    let same : c.as_bytes.result.now ≡ c.args.value.now = c.as_bytes.ensures.value ∙ c.as_str.ensures in
    (((omega arith, short), (refl, subst IsBytes same c.are_bytes.ensures)), subst IsUtf8 c.as_str.ensures c.as_str.utf8)
