use Rattle.std.proofs.Common.{◌≡◌, None, drop}
use Rattle.arti_model.specs.Edits.{edited_by}
use Rattle.arti_catalog.specs.Built.{edits_refusal}
use Rattle.arti_catalog.specs.Held.{Fits, Keeps, items_of, itself}
use Rattle.arti_catalog.proofs.changes.do_all.Given as goal

abbrev pub invariant-loop-edit : goal.invariant-loop-edit
invariant-loop-edit l = record {
  fits : Fits l.parts.tree l.parts.rows;
  keeps : Keeps l.limits l.parts.tree;
  accepted : edits_refusal l.limits itself l.moment l.user (drop l.edit-index l.edits) (items_of l.parts.tree l.parts.rows) ≡ None;
  done : edited_by itself l.moment l.user (drop l.edit-index l.edits) (items_of l.parts.tree l.parts.rows)
      ≡ edited_by itself l.moment l.user l.edits (items_of l.fn.parts.tree l.fn.parts.rows);
}
