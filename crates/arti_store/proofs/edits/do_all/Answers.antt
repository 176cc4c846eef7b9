use Rattle.std.proofs.Common.{List, sym, subst}
use Rattle.std.specs.Prelude.{All, Contains}
use Rattle.arti_rows.specs.declared.edits.Edit.{Edit}
use Rattle.arti_store.specs.Changes.{references_of}
use Rattle.arti_store.proofs.edits.do_all.Goals as goal

pub returns-clause-files : goal.returns-clause-files
returns-clause-files c = λ kept has named.
    c.do_each.ensures.files kept has (subst (λ (es : List Edit). All (Contains kept) (references_of es)) (sym c.as_slice.ensures) named)
