-- What the actors of the code are seen as.
pub use Rattle.tenant_parts.specs.States.{text_view, waiting_view, manner_view}
pub use Rattle.tenant_parts.specs.States.{kept_trace, run_view, hand_view, actor_view, actor_entry_view}
use Rattle.std.specs.Prelude.{ℕ, ◌<◌, List, [], ◌∷◌, ⊤, map}
use Rattle.ref_table.specs.Numbered.{Entry}
use Rattle.server_rules.specs.Tenant.{ActorData}
use Rattle.tenant_parts.specs.declared.actors.Actors.{Actors}

abbrev pub actors_view : Actors → List (Entry ActorData)
actors_view a = map actor_entry_view a.live.entries

-- all have lower seats than this
abbrev pub AreBelow : ℕ → List (Entry ActorData) → Type 0
AreBelow seat [] = ⊤
AreBelow seat (e ∷ es) = (e.number < seat) × AreBelow seat es
