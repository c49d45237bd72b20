use Rattle.server_tests.proofs.knowing.a_form_of_which_all_is_known_is_believed.Given as goal

abbrev pub ghosts-expect_belief-L-Ledger : goal.ghosts-expect_belief-L-Ledger
ghosts-expect_belief-L-Ledger g a = record { name = a.blank.name; parts = a.blank.parts }

abbrev pub ghosts-expect_belief-N-Naming : goal.ghosts-expect_belief-N-Naming
ghosts-expect_belief-N-Naming g a = record { book = a.opened.seen.book }
