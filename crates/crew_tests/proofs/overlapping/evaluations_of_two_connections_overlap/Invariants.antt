use Rattle.crew_tests.proofs.overlapping.evaluations_of_two_connections_overlap.Given as goal

abbrev pub ghosts-expect_overlap : goal.ghosts-expect_overlap
ghosts-expect_overlap g a = record { name = a.blank.name; parts = a.blank.parts }
