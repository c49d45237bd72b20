-- Room in the trace of the form that runs, for one ask with its answer.
use Rattle.std.specs.Prelude.{◌<◌, Option, None, Some, ⊤}
use Rattle.std.specs.Vec.{vec_len, vec_capacity}
use Rattle.tenant_parts.specs.declared.request.Run.{Run}
use Rattle.tenant_parts.specs.declared.request.WorkInHand.{WorkInHand}
use Rattle.tenant_parts.specs.declared.actor.ActorState.{ActorState}

abbrev pub RunHasRoom : Run → Type 0
RunHasRoom run = vec_len run.trace < vec_capacity run.trace

abbrev pub IfRuns : Option Run → Type 0
IfRuns None = ⊤
IfRuns (Some run) = RunHasRoom run

abbrev pub HandHasRoom : WorkInHand → Type 0
HandHasRoom hand = IfRuns hand.running

abbrev pub IfInHand : Option WorkInHand → Type 0
IfInHand None = ⊤
IfInHand (Some hand) = HandHasRoom hand

abbrev pub ActorHasRoom : ActorState → Type 0
ActorHasRoom state = IfInHand state.hand
