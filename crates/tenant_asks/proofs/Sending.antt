-- What is sent to agents.
use Rattle.std.proofs.Common.{◌≡◌, List, [], ◌∷◌, ◌++◌, Bool, true, false, Option, map, refl, sym}
use Rattle.std.proofs.Common.{ap, ◌∙◌, append_assoc}
use Rattle.std.proofs.lemmas.List.{map-append}
use Rattle.repl_asks.specs.Exchange.{Exchanged}
use Rattle.repl_asks.specs.Sends.{SendingData}
use Rattle.private_cells.specs.Agents.{AgentsData, with_send}
use Rattle.server_rules.specs.Cells.{CellsData, SenderData, action_from, with_sends, with_sends_if}
use Rattle.server_rules.specs.Cells.{with_agents, sends_by, stays_inside, action_sends}
use Rattle.tenant_asks.specs.Sends.{outgoing_in}
use Rattle.tenant_asks.specs.Sends.{OutgoingData, all_sent, all_sent_if, outgoing_from, sent_if}
use Rattle.tenant_asks.specs.Sends.{sends_listed}

-- one sending
pub sent-cells : (b : Bool) (sender : SenderData) (s : SendingData) (c : CellsData)
    → with_agents (sent_if b sender s c.agents) c ≡ with_sends_if b sender (s ∷ []) c
sent-cells true sender s c = refl
sent-cells false sender s c = refl

-- all that was prepared
pub all-sent : (sender : SenderData) (sends : List SendingData) (agents : AgentsData)
    → all_sent (map (outgoing_from sender) sends) agents ≡ with_sends sender sends agents
all-sent sender [] agents = refl
all-sent sender (s ∷ ss) agents = all-sent sender ss (with_send s.agent (action_from sender s.task) agents)

-- what was prepared is sent where what was asked for was told to be so
pub settled : (b : Bool) (sender : SenderData) (sends : List SendingData) (c : CellsData)
    → with_agents (all_sent_if b (map (outgoing_from sender) sends) c.agents) c
    ≡ with_sends_if b sender sends c
settled true sender sends c = ap (λ x. with_agents x c) (all-sent sender sends c.agents)
settled false sender sends c = refl

-- What an action sends

-- what one ask may send waits behind what those before it may
pub sent-step : (sender : SenderData) (before : List OutgoingData) (found : Option SendingData)
    (inside : Bool) (x : Exchanged) (xs : List Exchanged)
    → sends_listed found ≡ sends_by inside x.ask x.answer
    → (before ++ map (outgoing_from sender) (sends_listed found))
    ++ outgoing_in sender (stays_inside inside x.ask x.answer) xs
    ≡ before ++ outgoing_in sender inside (x ∷ xs)
sent-step sender before found inside x xs is =
    let f : SendingData → OutgoingData = outgoing_from sender in
    let later = stays_inside inside x.ask x.answer in
    append_assoc before (map f (sends_listed found)) (outgoing_in sender later xs)
    ∙ ap (λ ys. before ++ (map f ys ++ outgoing_in sender later xs)) is
    ∙ ap (λ ys. before ++ ys)
    (sym (map-append f (sends_by inside x.ask x.answer) (action_sends later xs)))
