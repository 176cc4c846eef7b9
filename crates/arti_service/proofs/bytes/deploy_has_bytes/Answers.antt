use Rattle.std.proofs.Common.{[], ◌∷◌, All, refl, arith}
use Rattle.std.proofs.lemmas.List.Elements.{All-cons, All-nil}
use Rattle.arti_rows.specs.declared.edits.Edit.{Edit}
use Rattle.arti_rows.specs.declared.edits.Edit.TheVariants as edits
use Rattle.arti_codec.specs.ChangeBytes.{change, edit_list, edit, KeepsEdit, file_fields, given, properties, property}
use Rattle.arti_codec.specs.Format.{number}
use Rattle.arti_service.proofs.bytes.deploy_has_bytes.Goals as goal

one : (P : Edit → Type 0) (e : Edit) → P e → All P (e ∷ [])
one P e p = All-cons P e [] p (All-nil P)

no_properties : (properties 1024).keeps []
unfolding properties number
no_properties = (((omega arith, omega arith), (refl, All-nil property.keeps)), refl)

pub returns : goal.returns
unfolding change edit_list edit file_fields given number
returns c =
    let fields : KeepsEdit (edits.File c.args.key.now c.args.given c.args.file.now []) = (c.key_has_bytes.ensures, (tt, (c.file_has_bytes.ensures, no_properties))) in
    (c.moment_has_bytes.ensures, (c.text_has_bytes.ensures, ((omega arith, (refl, one KeepsEdit _ fields)), omega arith)))
