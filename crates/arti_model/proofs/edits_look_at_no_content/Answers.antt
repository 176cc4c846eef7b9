use Rattle.arti_model.specs.Laws.{edited_mapped, edit_refusal_mapped}
use Rattle.arti_model.proofs.edits_look_at_no_content.Goals as goal

pub returns : goal.returns
returns g c = record {
  done = λ h file_of moment user edit items. edited_mapped h moment user file_of edit items;
  judged = λ h limits edit items. edit_refusal_mapped h limits edit items;
}
