-- The atoms and agents of a tenant, seen as data.
use Rattle.private_cells.specs.Inside.View.{atoms_view, agents_view}
use Rattle.server_rules.specs.Cells.{CellsData}
use Rattle.tenant_asks.specs.declared.cells.Cells.{Cells}

abbrev pub cells_data : Cells → CellsData
cells_data c = record { atoms = atoms_view c.atoms; agents = agents_view c.agents }
