use Rattle.std.proofs.Common.{◌≡◌, sym, ◌∙◌, ap, subst, rules}
use Rattle.std.specs.Prelude.{All, Option, IfSome, option_map}
use Rattle.std.specs.Option.{option_copied}
use Rattle.arti_rows.specs.declared.rows.ItemRow.{ItemRow}
use Rattle.arti_store.specs.Items.{HasFileIn, item_in, find_row}
use Rattle.arti_store.specs.Store.{View}
use Rattle.arti_store.proofs.Meanings.{find_in}
use Rattle.arti_store.proofs.Holdings.{found_has, copied_has}
use Rattle.arti_store.proofs.store.Store.find.Goals as goal

pub returns-clause-item : goal.returns-clause-item
returns-clause-item c = λ bytes.
    let row : option_copied c.find.result ≡ find_row c.args.self.now.rows c.args.key.now = search rules in
    ap (option_map (item_in bytes)) row ∙ sym (find_in bytes c.args.self.now.rows c.args.key.now)

pub returns-clause-file : goal.returns-clause-file
returns-clause-file c =
    let v : View = c.args.self.now in
    let row : option_copied c.find.result ≡ find_row v.rows c.args.key.now = search rules in
    let has : All (HasFileIn v.contents.kept) v.rows = subst (λ (w : View). All (HasFileIn w.contents.kept) w.rows) c.self.view_is c.self.invariant.files in
    copied_has (HasFileIn v.contents.kept) c.find.result (subst (λ (o : Option ItemRow). IfSome o (HasFileIn v.contents.kept)) (sym row) (found_has v.contents.kept v.rows c.args.key.now has))
