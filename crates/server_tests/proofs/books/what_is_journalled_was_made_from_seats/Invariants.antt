use Rattle.server_tests.proofs.books.what_is_journalled_was_made_from_seats.Given as goal

abbrev pub ghosts-expect_counts : goal.ghosts-expect_counts
ghosts-expect_counts g a = record { name = a.blank.name; parts = a.blank.parts }
