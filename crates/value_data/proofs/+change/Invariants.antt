use Rattle.std.proofs.Common.{◌+◌, ◌*◌}
use Rattle.value_data.specs.Inside.Nodes.{held}
use Rattle.value_data.proofs.+change.Given as goal

abbrev pub decreases-value::ItemsTree::change : goal.decreases-value::ItemsTree::change
decreases-value::ItemsTree::change l = 3 * l.self.now.held + 2

abbrev pub decreases-value::ItemsTree::change_owned : goal.decreases-value::ItemsTree::change_owned
decreases-value::ItemsTree::change_owned l = 3 * l.self.now.held + 1

abbrev pub decreases-changes::change_node : goal.decreases-changes::change_node
decreases-changes::change_node l = 3 * held l.node.now.shape
