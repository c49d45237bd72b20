-- What is sent to agents, on its way.
use Rattle.std.specs.Prelude.{ℕ, List, [], ◌∷◌, map, Bool, true, false, Option, None, Some}
use Rattle.std.specs.Arc.{arc_value}
use Rattle.repl_asks.specs.Sends.{SendingData}
use Rattle.repl_asks.specs.Exchange as exchange
use Rattle.repl_asks.specs.Exchange.{AskData, AnswerData, Exchanged}
use Rattle.repl_replies.specs.Inside.View.{origin_view}
use Rattle.private_cells.specs.Actions.{ActionData}
use Rattle.private_cells.specs.Agents.{AgentsData, with_send}
use Rattle.private_cells.specs.Inside.Seen.{action_view}
use Rattle.server_rules.specs.Cells.{SenderData, action_from, action_sends, is_yes}
use Rattle.server_rules.specs.Request.{Run}
use Rattle.tenant_asks.specs.declared.sends.Outgoing.{Outgoing}
use Rattle.tenant_asks.specs.declared.sends.Sender.{Sender}

abbrev pub sender_view : Sender → SenderData
sender_view s = record { origin = origin_view (arc_value s.origin.now); session = s.session }

-- an action, and the number of the agent to which it is sent
pub record OutgoingData : Type 0 where
  pub agent : ℕ
  pub action : ActionData

abbrev pub outgoing_view : Outgoing → OutgoingData
outgoing_view o = record { agent = o.agent; action = action_view o.action }

abbrev pub outgoing_from : SenderData → SendingData → OutgoingData
outgoing_from sender s = record { agent = s.agent; action = action_from sender s.task }

abbrev pub all_sent : List OutgoingData → AgentsData → AgentsData
all_sent [] agents = agents
all_sent (o ∷ os) agents = all_sent os (with_send o.agent o.action agents)

abbrev pub all_sent_if : Bool → List OutgoingData → AgentsData → AgentsData
all_sent_if true os agents = all_sent os agents
all_sent_if false os agents = agents

abbrev pub sent_if : Bool → SenderData → SendingData → AgentsData → AgentsData
sent_if true sender s agents = with_send s.agent (action_from sender s.task) agents
sent_if false sender s agents = agents

abbrev pub sends_listed : {A : Type 0} → Option A → List A
sends_listed None = []
sends_listed (Some x) = x ∷ []

-- what was asked for was told to be so
abbrev pub is_told_yes : Option AnswerData → Bool
is_told_yes None = false
is_told_yes (Some answer) = is_yes answer

-- what is sent once this is committed
abbrev pub committed_sends : AskData → List SendingData
committed_sends (exchange.commit intent) = intent.sends
committed_sends _ = []

abbrev pub trace_of : Option Run → List Exchanged
trace_of None = []
trace_of (Some run) = run.trace

-- what a form that asked and was answered so is to send
abbrev pub outgoing_in : SenderData → Bool → List Exchanged → List OutgoingData
outgoing_in sender inside trace = map (outgoing_from sender) (action_sends inside trace)
