use Rattle.std.proofs.Common.{[], refl, arith}
use Rattle.std.proofs.lemmas.List.Elements.{All-cons, All-nil}
use Rattle.arti_codec.specs.ChangeBytes.{change, edit_list, edit, KeepsEdit}
use Rattle.arti_codec.specs.Format.{number}
use Rattle.arti_service.proofs.bytes.fetch_has_bytes.Goals as goal

pub returns : goal.returns
unfolding change edit_list edit number
returns c =
    (c.moment_has_bytes.ensures, (c.text_has_bytes.ensures, ((omega arith, (refl, All-cons KeepsEdit _ [] c.key_has_bytes.ensures (All-nil KeepsEdit))), omega arith)))
