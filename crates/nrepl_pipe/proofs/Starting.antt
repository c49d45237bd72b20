-- What an actor's start comes to.
use Rattle.std.proofs.Common.{◌≡◌, ◌≢◌, ℕ, ◌-◌, List, [], ◌∷◌, Bool, true, false, if◌then◌else◌}
use Rattle.std.proofs.Common.{Option, None, Some, refl}
use Rattle.bencode_wire.specs.Tree as wire
use Rattle.value_data.specs.Datum.{nil, Items, no_items, item}
use Rattle.repl_asks.specs.Exchange.{AnswerData}
use Rattle.repl_sessions.specs.State.{StateData}
use Rattle.name_spaces.specs.Namespaces.{Namespaces}
use Rattle.repl_replies.specs.Fields.{text_of}
use Rattle.repl_replies.specs.Replies.{OriginData}
use Rattle.std.specs.Prelude.{option_and_then, is_some}
use Rattle.server_rules.specs.Readings.{ProgramData}
use Rattle.server_rules.specs.Ground.{Ground}
use Rattle.server_rules.specs.Request.{Waiting, ProgramText, code, file, Manner, WorkInHand, each_form}
use Rattle.server_rules.specs.Request.{each_form_elsewhere, last_form}
use Rattle.ref_table.specs.Numbered.{part_under, with_part, without}
use Rattle.server_rules.specs.Tenant.{ActorData, seat_of, TenantState, is_held, actor_state}
use Rattle.server_rules.specs.Plan.{Outcome, refuses, leaves, Plan}
use Rattle.server_rules.specs.Starting.{Started, next_begun, program_begun, elsewhere_begun}
use Rattle.server_rules.specs.Starting.{hand_of, code_begun, text_begun, namespace_there}
use Rattle.server_rules.specs.Starting.{start_outcome, interrupted_in, first_state, held_or}
use Rattle.server_rules.specs.Starting.{start_in_hand, start_waiting, start_action, action_for}
use Rattle.server_rules.specs.Starting.{action_begun, with_action_begun}
use Rattle.server_rules.specs.Cells.{NextAction}
use Rattle.server_rules.specs.Deeds.{start_of}
use Rattle.server_rules.specs.Plan.{bytes_in}
use Rattle.server_rules.specs.declared.actor.Actor.{Actor}
use Rattle.server_rules.specs.declared.refusal.Refusal.{Refusal}
use Rattle.server_rules.proofs.Numbered.{part_under-other}
use Rattle.nrepl_pipe.proofs.Apart.{part_under-without}

-- the other actors are as they were
abbrev pub OthersStay : Actor → TenantState → TenantState → Type 0
OthersStay a q new =
    (n : ℕ) → n ≢ seat_of a → part_under n new.actors ≡ part_under n q.actors

-- What a deed of an actor comes to where steps are left: refused for replies only where too many
-- wait; or one step less is left, the stream is as it was, no bytes are given, and the other actors
-- are as they were.
abbrev pub GoesSo : Actor → TenantState → Outcome → Type 0
GoesSo a q (refuses why) = why ≡ Refusal.Held → is_held q ≡ true
GoesSo a q (leaves new answer) =
    (new.steps ≡ q.steps - 1) × (new.heard ≡ q.heard) × (bytes_in answer ≡ []) × OthersStay a q new

abbrev pub PlansSo : Actor → TenantState → Plan → Type 0
PlansSo a q p = (told : Option AnswerData) → GoesSo a q (p.next told)

-- the actor is changed, or gone
pub with-stays : (a : Actor) (actor : ActorData) (q : TenantState) (n : ℕ) → n ≢ seat_of a
    → part_under n (with_part (seat_of a) actor q.actors) ≡ part_under n q.actors
with-stays a actor q n other = part_under-other n (seat_of a) actor q.actors other

pub without-stays : (a : Actor) (q : TenantState) (n : ℕ) → n ≢ seat_of a
    → part_under n (without (seat_of a) q.actors) ≡ part_under n q.actors
without-stays a q n other = part_under-without n (seat_of a) q.actors other

begun-so : (g : Ground) (h : WorkInHand) (state : StateData) (forms : Items)
    → bytes_in (next_begun g h state forms).answer ≡ []
begun-so g h state no_items = refl
begun-so g h state (item d ds) = refl

program-so : (g : Ground) (origin : OriginData) (manner : Manner) (namespace : List ℕ)
    (state : StateData) (p : ProgramData)
    → bytes_in (program_begun g origin manner namespace state p).answer ≡ []
program-so g origin manner namespace state p =
    begun-so g (hand_of origin manner namespace p) state p.forms

elsewhere-so : (g : Ground) (origin : OriginData) (text : List ℕ) (state : StateData)
    (name : Option (List ℕ)) → bytes_in (elsewhere_begun g origin text state name).answer ≡ []
elsewhere-so g origin text state None = refl
elsewhere-so g origin text state (Some name) =
    program-so g origin each_form_elsewhere name state (g.readings.program text)

code-so : (g : Ground) (spaces : Namespaces) (origin : OriginData) (text : List ℕ)
    (state : StateData) (ns : Option wire.Tree)
    → bytes_in (code_begun g spaces origin text state ns).answer ≡ []
code-so g spaces origin text state None =
    program-so g origin each_form state.namespace state (g.readings.program text)
code-so g spaces origin text state (Some ns) =
    elsewhere-so g origin text state (option_and_then (namespace_there spaces) (text_of (Some ns)))

text-so : (g : Ground) (spaces : Namespaces) (origin : OriginData) (state : StateData)
    (text : ProgramText) → bytes_in (text_begun g spaces origin state text).answer ≡ []
text-so g spaces origin state (code text ns) = code-so g spaces origin text state ns
text-so g spaces origin state (file text) =
    program-so g origin (last_form nil) state.namespace state (g.readings.program text)

start_outcome-so : (a : Actor) (actor : ActorData) (s : Started) (q : TenantState)
    → bytes_in s.answer ≡ [] → GoesSo a q (start_outcome a actor s q)
start_outcome-so Actor.Agents actor s q none =
    (refl, refl, none, with-stays Actor.Agents (record actor { hand = s.move.hand }) q)
start_outcome-so Actor.Bare actor s q none =
    (refl, refl, none, with-stays Actor.Bare (record actor { hand = s.move.hand }) q)
start_outcome-so (Actor.Session n) actor s q none =
    (refl, refl, none, with-stays (Actor.Session n) (record actor { hand = s.move.hand }) q)

held-by : (a : Actor) (q : TenantState) (o : Outcome) (held : Bool) → is_held q ≡ held → GoesSo a q o
    → GoesSo a q (if held then refuses Refusal.Held else o)
held-by a q o true is so = λ _. is
held-by a q o false is so = so

held-so : (a : Actor) (q : TenantState) (o : Outcome) → GoesSo a q o → GoesSo a q (held_or q o)
held-so a q o so = held-by a q o (is_held q) refl so

next-so : (g : Ground) (a : Actor) (actor : ActorData) (h : WorkInHand) (q : TenantState)
    → GoesSo a q (start_in_hand g a actor h q false)
next-so g a actor h q = by actor.is_closed where
  by : (closed : Bool) → GoesSo a q (if closed then interrupted_in a h q
      else held_or q (start_outcome a actor (next_begun g h (actor_state a q) h.forms) q))
  by true = (refl, refl, refl, without-stays a q)
  by false = held-so a q (start_outcome a actor (next_begun g h (actor_state a q) h.forms) q)
      (start_outcome-so a actor (next_begun g h (actor_state a q) h.forms) q
      (begun-so g h (actor_state a q) h.forms))

action-so : (g : Ground) (a : Actor) (actor : ActorData) (q : TenantState) (next : Option NextAction)
    → GoesSo a q (start_action g a actor q next)
action-so g a actor q None = λ e. cc
action-so g a actor q (Some next) =
    let after = with_action_begun q in
    held-so a q (start_outcome a actor (action_begun g next) after)
    (start_outcome-so a actor (action_begun g next) after refl)

waiting-so : (g : Ground) (a : Actor) (actor : ActorData) (q : TenantState) (ws : List Waiting)
    → GoesSo a q (start_waiting g a actor q ws)
waiting-so g a actor q [] = action-so g a actor q (action_for a q.cells.agents)
waiting-so g a actor q (w ∷ ws) =
    let begun = text_begun g q.spaces w.origin (first_state a q) w.text in
    held-so a q (start_outcome a (record actor { waiting = ws }) begun q)
    (start_outcome-so a (record actor { waiting = ws }) begun q
    (text-so g q.spaces w.origin (first_state a q) w.text))

in_hand-so : (g : Ground) (a : Actor) (actor : ActorData) (h : WorkInHand) (q : TenantState) (runs : Bool)
    → GoesSo a q (start_in_hand g a actor h q runs)
in_hand-so g a actor h q true = λ e. cc
in_hand-so g a actor h q false = next-so g a actor h q

pub start-so : (g : Ground) (a : Actor) (actor : ActorData) (q : TenantState) (h : Option WorkInHand)
    → GoesSo a q (start_of g a actor q h)
start-so g a actor q None = waiting-so g a actor q actor.waiting
start-so g a actor q (Some h) = in_hand-so g a actor h q (is_some h.running)
