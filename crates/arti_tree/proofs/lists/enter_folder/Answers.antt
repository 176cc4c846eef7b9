use Rattle.std.proofs.Common.{refl, ap, ◌∙◌, Option, ℕ}
use Rattle.arti_tree.specs.Slots.{is_it}
use Rattle.std.proofs.lemmas.Bool.{eq-eqb}
use Rattle.arti_tree.proofs.lists.enter_folder.Goals as goal

pub enter_list-requires-clause-absent : goal.enter_list-requires-clause-absent
enter_list-requires-clause-absent c = c.requires.absent c.in-Some.folder (ap (λ (o : Option ℕ). is_it o c.in-Some.folder) c.in-Some.is ∙ eq-eqb c.in-Some.folder c.in-Some.folder refl)
