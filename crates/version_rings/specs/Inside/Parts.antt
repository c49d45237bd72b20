-- Nodes, from the parts in which they are kept.
use Rattle.std.specs.Prelude.{◌+◌, ◌*◌, ◌^◌, ℕ, List, [], ◌∷◌, drop, slice_index_or}
use Rattle.value_data.specs.declared.value.Value.{Value}
use Rattle.version_rings.specs.declared.node.Node.{Node}
use Rattle.version_rings.specs.declared.node.Joint.{Joint}

abbrev pub node_of : Joint → Value → ℕ → Node
node_of joint content upper = record {
  stamp = upper * 2 ^ 64 + joint.lower;
  content = content;
  older = joint.older;
  newer = joint.newer;
}

abbrev pub content_at : List Value → ℕ → Value
content_at contents i = slice_index_or contents i Value.Nil

-- the upper half of a stamp: 0 where none is kept
abbrev pub upper_at : List ℕ → ℕ → ℕ
upper_at uppers i = slice_index_or uppers i 0

-- a node for each joint
abbrev pub nodes_of : List Joint → List Value → List ℕ → List Node
nodes_of [] contents uppers = []
nodes_of (joint ∷ joints) contents uppers =
    node_of joint (content_at contents 0) (upper_at uppers 0)
    ∷ nodes_of joints (drop 1 contents) (drop 1 uppers)
