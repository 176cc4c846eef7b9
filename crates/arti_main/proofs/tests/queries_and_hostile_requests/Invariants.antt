use Rattle.arti_main.proofs.tests.queries_and_hostile_requests.Given as goal

abbrev pub ghosts-told_by : goal.ghosts-told_by
ghosts-told_by g a = record { name = a.blank.name; parts = a.blank.parts }
