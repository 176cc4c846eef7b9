use Rattle.arti_main.proofs.tests.files_that_are_no_store.Given as goal

abbrev pub ghosts-run_on : goal.ghosts-run_on
ghosts-run_on g a = record { name = a.blank.name; parts = a.blank.parts }
