-- An action that begins, and one that ends.
use Rattle.std.proofs.Common.{◌≡◌, ℕ, List, [], ◌∷◌, ◌++◌, false, Option, None, Some, Result, Ok}
use Rattle.std.proofs.Common.{Err, map, refl, sym, ap, ◌∙◌, true}
use Rattle.value_data.specs.Datum.{Datum}
use Rattle.repl_values.specs.Failure.{Failure}
use Rattle.repl_replies.specs.Replies.{bytes_of}
use Rattle.repl_asks.specs.Exchange.{Exchanged}
use Rattle.repl_asks.specs.Job.{EndingData}
use Rattle.repl_sessions.specs.State.{fresh}
use Rattle.repl_sessions.specs.Inside.StateView.{state_view}
use Rattle.private_cells.specs.Agents.{AgentsData, with_next_begun, with_result}
use Rattle.name_spaces.specs.Inside.Seen.{namespaces_of, shared_in}
use Rattle.server_rules.specs.Asking.{sender_of}
use Rattle.server_rules.specs.Cells.{CellsData, NextAction, with_agents, action_sends, agents_ended}
use Rattle.server_rules.specs.Ending.{cells_ended}
use Rattle.server_rules.specs.Ground.{Ground}
use Rattle.server_rules.specs.Moves.{Move}
use Rattle.server_rules.specs.Request.{Manner, each_form, each_form_elsewhere, last_form, of_action}
use Rattle.server_rules.specs.Request.{WorkInHand, Run, Waiting}
use Rattle.server_rules.specs.Starting.{action_begun, action_for, start_action, with_action_begun}
use Rattle.server_rules.specs.Tenant.{ActorData, TenantState, is_held, with_replies, with_state}
use Rattle.server_rules.specs.declared.actor.Actor.{Actor}
use Rattle.tenant_parts.specs.Replies.{waiting_bytes}
use Rattle.tenant_asks.specs.Acting.{is_accepted}
use Rattle.tenant_world.specs.Acting.{oldest}
use Rattle.tenant_asks.specs.Sends.{trace_of}
use Rattle.tenant_world.specs.Actions.{end_by, action_end, agents_behind}
use Rattle.tenant_asks.specs.Cells.{cells_data}
use Rattle.tenant_asks.specs.Memories.{Remembers}
use Rattle.tenant_asks.specs.declared.memory.Remembered.{Remembered}
use Rattle.tenant_world.proofs.Begins.{accepted-start_outcome}
use Rattle.tenant_asks.proofs.Sending.{all-sent}

-- all but the atoms and agents is as it was
abbrev pub KeepsOthers : Remembered → Remembered → Type 0
KeepsOthers m n = (n.sessions ≡ m.sessions) × (n.bare ≡ m.bare) × (n.spaces ≡ m.spaces)
    × (n.outbox ≡ m.outbox)

-- the agents are another value that stands for the same
pub remembers-agents : (g : Ground) (t : ℕ) (m n : Remembered) (q : TenantState) → KeepsOthers m n
    → cells_data n.cells ≡ cells_data m.cells → Remembers g t m q → Remembers g t n q
remembers-agents g t m n q same cells r = record {
  sessions = same.0 ∙ r.sessions;
  bare = ap state_view same.1 ∙ r.bare;
  spaces = ap namespaces_of same.2 ∙ r.spaces;
  names = r.names ∙ ap shared_in (sym same.2);
  cells = cells ∙ r.cells;
  replies = ap waiting_bytes same.3 ∙ r.replies;
}

-- Beginning

none-behind : {A : Type 0} (xs : List A) → xs ++ [] ≡ xs
none-behind [] = refl
none-behind (x ∷ xs) = ap (λ ys. x ∷ ys) (none-behind xs)

-- the next action runs, and nothing else changes
pub remembers-begun : (g : Ground) (t : ℕ) (m n : Remembered) (a : Actor) (q : TenantState)
    → Remembers g t m q → KeepsOthers m n
    → cells_data n.cells ≡ with_agents (with_next_begun (cells_data m.cells).agents) (cells_data m.cells)
    → a ≡ Actor.Agents
    → Remembers g t n (with_replies [] (with_state a fresh (with_action_begun q)))
remembers-begun g t m n Actor.Agents q r same begun is = record {
  sessions = same.0 ∙ r.sessions;
  bare = ap state_view same.1 ∙ r.bare;
  spaces = ap namespaces_of same.2 ∙ r.spaces;
  names = r.names ∙ ap shared_in (sym same.2);
  cells = begun ∙ ap (λ c. with_agents (with_next_begun c.agents) c) r.cells;
  replies = ap waiting_bytes same.3 ∙ r.replies ∙ ap (map bytes_of) (sym (none-behind q.replies));
}
remembers-begun g t m n Actor.Bare q r same begun is = absurd (cc)
remembers-begun g t m n (Actor.Session k) q r same begun is = absurd (cc)

-- only that of agents takes up an action
pub action-agents : (a : Actor) (agents : AgentsData) (next : NextAction)
    → action_for a agents ≡ Some next → a ≡ Actor.Agents
action-agents Actor.Agents agents next found = refl
action-agents Actor.Bare agents next found = absurd (cc)
action-agents (Actor.Session n) agents next found = absurd (cc)

-- an action that waits begins, where not too many replies wait
pub action-accepted : (g : Ground) (a : Actor) (actor : ActorData) (q : TenantState) (next : NextAction)
    → action_for a q.cells.agents ≡ Some next → is_held q ≡ false
    → is_accepted (start_action g a actor q (action_for a q.cells.agents)) ≡ true
action-accepted g a actor q next found free =
    ap (λ x. is_accepted (start_action g a actor q x)) found
    ∙ accepted-start_outcome a actor (action_begun g next) (with_action_begun q) free

pub none-waits : (ws : List Waiting) → None ≡ oldest ws → ws ≡ []
none-waits [] none = refl
none-waits (w ∷ ws) none = absurd (cc)

-- Ending

behind-so : (sender_trace : List Exchanged) (a : Actor) (h : WorkInHand) (r : Result Datum Failure)
    (session : Option ℕ) (agents : AgentsData)
    → agents_behind (end_by (of_action session) (sender_of a h) sender_trace r) agents
    ≡ agents_ended (sender_of a h) sender_trace r agents
behind-so trace a h (Ok d) session agents =
    all-sent (sender_of a h) (action_sends false trace) (with_result d agents)
behind-so trace a h (Err f) session agents = refl

-- what was prepared is what the rules make of the agents
pub ended-cells : (a : Actor) (h : WorkInHand) (run : Run) (e : EndingData) (c : CellsData)
    → h.running ≡ Some run
    → with_agents (agents_behind (action_end a h e.end.result) c.agents) c
    ≡ cells_ended h.manner a h run e c
ended-cells a h run e c running =
    ap (λ r. with_agents (agents_behind (end_by h.manner (sender_of a h) (trace_of r) e.end.result)
    c.agents) c) running
    ∙ by h.manner
  where
    by : (m : Manner)
        → with_agents (agents_behind (end_by m (sender_of a h) run.trace e.end.result) c.agents) c
        ≡ cells_ended m a h run e c
    by each_form = refl
    by each_form_elsewhere = refl
    by (last_form d) = refl
    by (of_action session) =
        ap (λ x. with_agents x c) (behind-so run.trace a h e.end.result session c.agents)

-- the cells change behind the replies
pub remembers-ended : (g : Ground) (t : ℕ) (m n : Remembered) (a : Actor) (move : Move) (q : TenantState)
    (c : CellsData) → Remembers g t m (with_replies move.replies (with_state a move.state q))
    → KeepsOthers m n → cells_data n.cells ≡ c
    → Remembers g t n (with_replies move.replies (with_state a move.state (record q { cells = c })))
remembers-ended g t m n Actor.Agents move q c r same cells = record {
  sessions = same.0 ∙ r.sessions;
  bare = ap state_view same.1 ∙ r.bare;
  spaces = ap namespaces_of same.2 ∙ r.spaces;
  names = r.names ∙ ap shared_in (sym same.2);
  cells = cells;
  replies = ap waiting_bytes same.3 ∙ r.replies;
}
remembers-ended g t m n Actor.Bare move q c r same cells = record {
  sessions = same.0 ∙ r.sessions;
  bare = ap state_view same.1 ∙ r.bare;
  spaces = ap namespaces_of same.2 ∙ r.spaces;
  names = r.names ∙ ap shared_in (sym same.2);
  cells = cells;
  replies = ap waiting_bytes same.3 ∙ r.replies;
}
remembers-ended g t m n (Actor.Session k) move q c r same cells = record {
  sessions = same.0 ∙ r.sessions;
  bare = ap state_view same.1 ∙ r.bare;
  spaces = ap namespaces_of same.2 ∙ r.spaces;
  names = r.names ∙ ap shared_in (sym same.2);
  cells = cells;
  replies = ap waiting_bytes same.3 ∙ r.replies;
}

-- the atoms and agents behind a move are those before it
pub moved-cells : (a : Actor) (move : Move) (q : TenantState)
    → (with_replies move.replies (with_state a move.state q)).cells ≡ q.cells
moved-cells Actor.Agents move q = refl
moved-cells Actor.Bare move q = refl
moved-cells (Actor.Session n) move q = refl
