use Rattle.crew_tests.proofs.noting.two_connections_are_served_from_one_book.Given as goal

abbrev pub ghosts-expect_both : goal.ghosts-expect_both
ghosts-expect_both g a = record { name = a.blank.name; parts = a.blank.parts }
