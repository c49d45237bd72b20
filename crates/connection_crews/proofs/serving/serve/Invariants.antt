use Rattle.connection_crews.proofs.serving.serve.Given as goal

abbrev pub ghosts-serve_book : goal.ghosts-serve_book
ghosts-serve_book g a = record { book = a.opened.seen.book }
