use Rattle.arti_main.proofs.tests.words_that_are_no_command.Given as goal

abbrev pub ghosts-told_by : goal.ghosts-told_by
ghosts-told_by g a = record { name = a.blank.name; parts = a.blank.parts }
