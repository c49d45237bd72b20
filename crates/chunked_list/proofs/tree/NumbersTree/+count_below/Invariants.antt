use Rattle.chunked_list.proofs.tree.NumbersTree.+count_below.Given as goal

abbrev pub decreases-count_below : goal.decreases-count_below
decreases-count_below l = l.self.now.held
