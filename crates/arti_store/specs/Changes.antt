-- The contents that changes name.
use Rattle.std.specs.Prelude.{List, [], ◌∷◌, ◌++◌}
use Rattle.arti_rows.specs.declared.rows.FileRef.{FileRef}
use Rattle.arti_rows.specs.declared.edits.Edit.{Edit}
use Rattle.arti_rows.specs.declared.edits.Edit.TheVariants as edits
use Rattle.arti_rows.specs.declared.edits.Change.{Change}

-- of one edit
abbrev pub edit_references : Edit → List FileRef
edit_references (edits.File key given file props) = file ∷ []
edit_references edit = []

-- of several edits, in order
abbrev pub references_of : List Edit → List FileRef
references_of [] = []
references_of (edit ∷ others) = edit_references edit ++ references_of others

-- of several changes, in order
abbrev pub references : List Change → List FileRef
references [] = []
references (change ∷ changes) = references_of change.edits ++ references changes
