use Rattle.arti_main.proofs.tests.first_deploy_in_reads_of_each_size.Given as goal

abbrev pub ghosts-told_by : goal.ghosts-told_by
ghosts-told_by g a = record { name = a.blank.name; parts = a.blank.parts }
