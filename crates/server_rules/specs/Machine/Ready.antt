-- Which actors have something to do, and which to begin.
use Rattle.std.specs.Prelude.{List, [], ◌∷◌, Bool, true, false, not, ◌||◌, is_some}
use Rattle.std.specs.Prelude.{Option, None, Some, option_map, find}
use Rattle.ref_table.specs.Numbered.{Entry}
use Rattle.server_rules.specs.Request.{Waiting, WorkInHand}
use Rattle.server_rules.specs.Tenant.{ActorData, actor_at, TenantState}
use Rattle.server_rules.specs.declared.actor.Actor.{Actor}

abbrev pub has_waiting : List Waiting → Bool
has_waiting [] = false
has_waiting (w ∷ ws) = true

-- a request is in hand, or one waits
abbrev pub is_busy : ActorData → Bool
is_busy actor = is_some actor.hand || has_waiting actor.waiting

abbrev pub may_begin : List Waiting → Option WorkInHand → Bool
may_begin waiting None = has_waiting waiting
may_begin waiting (Some h) = not (is_some h.running)

abbrev pub has_work : Entry ActorData → Bool
has_work e = may_begin e.part.waiting e.part.hand

-- the first actor that has a form or a request to begin
abbrev pub ready : TenantState → Option Actor
ready q = option_map (λ e. actor_at e.number) (find has_work q.actors)
