-- What the fields hold, without where it lies in memory.
use Rattle.std.specs.Prelude.{ℕ, ◌+◌, List, Option, map, length}
use Rattle.version_rings.specs.Inside.Listed.{nodes_listed, room_in}
use Rattle.version_rings.specs.Inside.Nodes.{Space, ring_versions}
use Rattle.version_rings.specs.Rings.{Rings}
use Rattle.version_rings.specs.declared.node.Ring.{Ring}
use Rattle.version_rings.specs.declared.nodes.Nodes.{Nodes}

abbrev pub space : Nodes → Space
space ns = record { nodes = nodes_listed ns.list; first = ns.first_free; free = ns.free }

-- how many nodes can be taken without memory
abbrev pub room : Nodes → ℕ
room ns = ns.free + room_in ns.list

abbrev pub seen_rings : ℕ → Space → List (Option Ring) → Rings
seen_rings room s rings = record {
  lists = map (ring_versions s.nodes) rings;
  slots = length s.nodes;
  free = s.free;
  room = room;
}
