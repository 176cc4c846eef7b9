-- What a change of one edit is made of has bytes, and so has the change.
use Rattle.std.proofs.Common.{ℕ, ℤ, Bool, List, [], refl, arith}
use Rattle.std.proofs.lemmas.List.Elements.{All-cons, All-nil}
use Rattle.arti_rows.specs.Key.{Key}
use Rattle.arti_rows.specs.declared.rows.FileRef.{FileRef}
use Rattle.arti_rows.specs.declared.rows.Given.{Given}
use Rattle.arti_rows.specs.declared.rows.Property.{Property}
use Rattle.arti_rows.specs.declared.edits.Edit.{Edit}
use Rattle.arti_rows.specs.declared.edits.Edit.TheVariants as edits
use Rattle.arti_codec.specs.Format.{number}
use Rattle.arti_codec.specs.ChangeBytes as bytes
use Rattle.arti_codec.specs.ChangeBytes.{change, edit_list, edit, file_fields, set_fields, drop_fields, given, item_key, file_ref, properties, prop_keys, KeepsEdit, HasBytes}
use Rattle.arti_model.specs.DecideItems.{one_edit}

pub one_has : (m : ℤ) (user : List ℕ) (e : Edit) → bytes.moment.keeps m → bytes.text.keeps user → KeepsEdit e → HasBytes (one_edit m user e)
unfolding change edit_list edit number
one_has m user e moment_keeps text_keeps keeps = (moment_keeps, (text_keeps, ((omega arith, (refl, All-cons KeepsEdit e [] keeps (All-nil KeepsEdit))), omega arith)))

pub file_has : (key : Key) (g : Given) (file : FileRef) (props : List Property) → item_key.keeps key → file_ref.keeps file → (properties 1024).keeps props → KeepsEdit (edits.File key g file props)
unfolding file_fields given
file_has key g file props key_keeps file_keeps props_keep = (key_keeps, (tt, (file_keeps, props_keep)))

pub set_has : (key : Key) (deep : Bool) (props : List Property) → item_key.keeps key → (properties 1024).keeps props → KeepsEdit (edits.SetProps key deep props)
unfolding set_fields
set_has key deep props key_keeps props_keep = (key_keeps, (tt, props_keep))

pub drop_has : (key : Key) (deep : Bool) (keys : List (List ℕ)) → item_key.keeps key → prop_keys.keeps keys → KeepsEdit (edits.DropProps key deep keys)
unfolding drop_fields
drop_has key deep keys key_keeps keys_keep = (key_keeps, (tt, keys_keep))
