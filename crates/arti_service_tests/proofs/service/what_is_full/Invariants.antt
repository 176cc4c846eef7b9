use Rattle.arti_service_tests.proofs.service.what_is_full.Given as goal

abbrev pub ghosts-talk : goal.ghosts-talk
ghosts-talk g a = record { name = a.blank.name; parts = a.blank.parts }
