use Rattle.server_tests.proofs.books.sixty_four_tenants_are_admitted.Given as goal

abbrev pub ghosts-expect_places : goal.ghosts-expect_places
ghosts-expect_places g a = record { name = a.blank.name; parts = a.blank.parts }
