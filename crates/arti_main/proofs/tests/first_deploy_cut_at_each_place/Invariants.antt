use Rattle.arti_main.proofs.tests.first_deploy_cut_at_each_place.Given as goal

abbrev pub ghosts-told_by : goal.ghosts-told_by
ghosts-told_by g a = record { name = a.blank.name; parts = a.blank.parts }
