-- What of a tenant the steps of its actors change, beside the actors themselves.
use Rattle.std.specs.Prelude.{◌≡◌, ℕ, map}
use Rattle.repl_replies.specs.Replies.{bytes_of}
use Rattle.repl_sessions.specs.Inside.StateView.{state_view}
use Rattle.name_spaces.specs.Inside.Seen.{namespaces_of, shared_in}
use Rattle.server_rules.specs.Ground.{Ground}
use Rattle.server_rules.specs.Tenant.{TenantState}
use Rattle.server_rules.specs.Operating.{named_sessions}
use Rattle.tenant_parts.specs.Replies.{waiting_bytes}
use Rattle.tenant_asks.specs.Cells.{cells_data}
use Rattle.tenant_asks.specs.declared.memory.Remembered.{Remembered}

-- the code remembers what the tenant of the rules does
pub record Remembers (g : Ground) (t : ℕ) (m : Remembered) (q : TenantState) : Type 0 where
  pub sessions : m.sessions ≡ named_sessions g t q
  pub bare : state_view m.bare ≡ q.bare
  pub spaces : namespaces_of m.spaces ≡ q.spaces
  pub names : g.shared.names ≡ shared_in m.spaces
  pub cells : cells_data m.cells ≡ q.cells
  pub replies : waiting_bytes m.outbox ≡ map bytes_of q.replies

-- how many sessions were ever made
abbrev pub opened_by : Remembered → ℕ
opened_by m = m.sessions.sessions.opened
