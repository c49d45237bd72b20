-- What a list of nodes holds, and how many more it has room for.
use Rattle.std.specs.Prelude.{ℕ, ◌-◌, List, length}
use Rattle.version_rings.specs.Inside.Parts.{nodes_of}
use Rattle.version_rings.specs.declared.node.Node.{Node}
use Rattle.version_rings.specs.declared.node_list.NodeList.{NodeList}

abbrev pub nodes_listed : NodeList → List Node
nodes_listed l = nodes_of l.joints.items l.contents.items l.uppers.items

abbrev pub room_in : NodeList → ℕ
room_in l = l.fitting - length l.joints.items
