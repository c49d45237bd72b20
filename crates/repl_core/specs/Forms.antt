-- What a step and its answer tell of the form that an actor runs.
use Rattle.std.specs.Prelude.{ℕ, [], ◌==◌, ◌&&◌, Bool, false, Option, Some, option_map}
use Rattle.std.specs.Prelude.{if◌then◌else◌}
use Rattle.server_rules.specs.Machine.World.{Step, does}
use Rattle.server_rules.specs.Plan.{Deed, hears, starts, asks_for, ends, drains, StepAnswer}
use Rattle.server_rules.specs.Plan.{form_begun, ask_answered}
use Rattle.server_rules.specs.Request.{Run}
use Rattle.server_rules.specs.Tenant.{seat_of}
use Rattle.server_rules.specs.declared.actor.Actor.{Actor}
use Rattle.tenant_asks.specs.Asking.{exchange_from, run_with}

abbrev pub is_deed_of : Actor → Deed → Bool
is_deed_of a (starts b) = seat_of a == seat_of b
is_deed_of a (asks_for b ask) = seat_of a == seat_of b
is_deed_of a (ends b e) = seat_of a == seat_of b
is_deed_of a (hears piece) = false
is_deed_of a drains = false

-- where a form begins it has asked nothing, and an ask that is answered is recorded behind the
-- others
abbrev pub form_by_deed : Deed → StepAnswer → Option Run → Option Run
form_by_deed (starts a) (form_begun job) form = Some (record { job = job; trace = [] })
form_by_deed (asks_for a ask) (ask_answered told) form =
    option_map (run_with (exchange_from ask told)) form
form_by_deed deed answer form = form

-- the steps of others tell nothing of it
abbrev pub form_by_step : ℕ → Actor → Step → StepAnswer → Option Run → Option Run
form_by_step t a (does u d) answer form =
    if (t == u) && is_deed_of a d then form_by_deed d answer form else form
form_by_step t a step answer form = form
