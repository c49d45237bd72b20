-- What an actor is about to do.
use Rattle.std.specs.Prelude.{◌≡◌, ℕ, Bool, true, false, List, [], ◌∷◌, Option, None, Some, IfSome}
use Rattle.std.specs.Prelude.{is_some, option_and_then}
use Rattle.std.specs.Arc.{arc_value, arc_str_bytes}
use Rattle.value_data.specs.Datum.{Items, no_items, item}
use Rattle.repl_replies.specs.Inside.View.{origin_view}
use Rattle.ref_table.specs.Numbered.{Entry, part_under}
use Rattle.server_rules.specs.Request.{ProgramText, code, file, Waiting, WorkInHand, Manner}
use Rattle.server_rules.specs.Request.{each_form, each_form_elsewhere, last_form, of_action}
use Rattle.server_rules.specs.Tenant.{ActorData, TenantState, seat_of, actor_state}
use Rattle.server_rules.specs.declared.actor.Actor.{Actor}
use Rattle.tenant_parts.specs.declared.spelled.Addressee.{Addressee}

abbrev program_bytes : ProgramText → List ℕ
program_bytes (code text ns) = text
program_bytes (file text) = text

abbrev oldest_text : List Waiting → Option (List ℕ)
oldest_text [] = None
oldest_text (w ∷ ws) = Some (program_bytes w.text)

abbrev text_behind : Option WorkInHand → List Waiting → Option (List ℕ)
text_behind None waiting = oldest_text waiting
text_behind (Some h) waiting = None

-- the text of the request that it takes up next, if nothing is in hand
abbrev pub next_text : ActorData → Option (List ℕ)
next_text a = text_behind a.hand a.waiting

abbrev pub told_in : Manner → Items → Bool
told_in each_form forms = true
told_in each_form_elsewhere forms = true
told_in (last_form d) no_items = true
told_in (last_form d) (item e es) = false
told_in (of_action session) forms = false

abbrev pub told_of : Option WorkInHand → Bool
told_of None = false
told_of (Some h) = told_in h.manner h.forms

-- whether the value of its form is told when the form ends
abbrev pub tells_value : ActorData → Bool
tells_value a = told_of a.hand

-- the actor of this name, if it is there
abbrev pub actor_named : Actor → List (Entry ActorData) → Option ActorData
actor_named a es = part_under (seat_of a) es

abbrev pub next_text_of : Actor → List (Entry ActorData) → Option (List ℕ)
next_text_of a es = option_and_then next_text (actor_named a es)

-- only with the value of a file the namespace of its session is told
abbrev told_elsewhere : Manner → Bool
told_elsewhere (last_form d) = true
told_elsewhere _ = false

-- what tells how the actor's form ended is for this request, and says so much of a value
pub record IsAddressee (a : Actor) (q : TenantState) (it : Addressee) : Type 0 where
  pub hand : WorkInHand
  pub is_there : option_and_then (λ (actor : ActorData). actor.hand) (actor_named a q.actors)
      ≡ Some hand
  pub origin : origin_view (arc_value it.origin) ≡ hand.origin
  pub elsewhere : is_some it.namespace ≡ told_elsewhere hand.manner
  pub namespace : IfSome it.namespace (λ text. arc_str_bytes text ≡ (actor_state a q).namespace)
  pub value : it.hears_value ≡ told_in hand.manner hand.forms
