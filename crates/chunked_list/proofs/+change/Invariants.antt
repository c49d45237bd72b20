use Rattle.std.proofs.Common.{◌+◌, ◌*◌}
use Rattle.chunked_list.specs.Nodes.{numbers_held}
use Rattle.chunked_list.proofs.+change.Given as goal

abbrev pub decreases-tree::NumbersTree::change : goal.decreases-tree::NumbersTree::change
decreases-tree::NumbersTree::change l = 3 * l.self.now.held + 2

abbrev pub decreases-tree::NumbersTree::change_owned : goal.decreases-tree::NumbersTree::change_owned
decreases-tree::NumbersTree::change_owned l = 3 * l.self.now.held + 1

abbrev pub decreases-changes::change_node : goal.decreases-changes::change_node
decreases-changes::change_node l = 3 * numbers_held l.node.now.shape
