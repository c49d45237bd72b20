-- What the code's types stand for.
use Rattle.std.specs.Prelude.{ℕ, map, min, length}
use Rattle.std.specs.HashMap.{spare}
use Rattle.value_data.specs.Inside.View.{view}
use Rattle.private_cells.specs.Atoms.{AtomsData}
use Rattle.private_cells.specs.Agents.{AgentsData}
use Rattle.private_cells.specs.Inside.Seen.{cells_view}
use Rattle.private_cells.specs.declared.atoms.Atoms.{Atoms}
use Rattle.private_cells.specs.declared.agents.Agents.{Agents}

abbrev pub atoms_view : Atoms → AtomsData
atoms_view a = record { values = map view a.values.items }

abbrev pub agents_view : Agents → AgentsData
agents_view a = record { agents = cells_view a.cells.items; sent = a.sent }

-- for how many sends there is room
abbrev pub room_of : Agents → ℕ
room_of a = min (length a.spare.nodes) (spare a.counts.counts)
