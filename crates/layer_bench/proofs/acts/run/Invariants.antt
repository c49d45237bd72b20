use Rattle.layer_bench.proofs.acts.run.Given as goal

abbrev pub ghosts-run_over : goal.ghosts-run_over
ghosts-run_over g a = record { book = a.opened.seen.book }
