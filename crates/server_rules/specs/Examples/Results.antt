-- Runs with one tenant and with two.
use Rattle.std.specs.Prelude.{◌≡◌, ℕ, List, [], ◌∷◌, ◌++◌, Some, None, Ok, Err, codes}
use Rattle.value_data.specs.Datum.{nil, atom}
use Rattle.core_functions.specs.declared.store.StoreFunction.{StoreFunction}
use Rattle.repl_asks.specs.Exchange as exchange
use Rattle.repl_asks.specs.Job as jobs
use Rattle.repl_asks.specs.Job.{EndingData}
use Rattle.repl_replies.specs.Replies as replies
use Rattle.ref_table.specs.Numbered.{part_under}
use Rattle.server_rules.specs.Plan.{ends, tenant_opened}
use Rattle.server_rules.specs.Machine.World.{opens, closes, does, step}
use Rattle.server_rules.specs.Machine.Turns.{Turn, given}
use Rattle.server_rules.specs.Isolation.Laws.{answer_in}
use Rattle.server_rules.specs.declared.actor.Actor.{Actor}
use Rattle.server_rules.specs.declared.refusal.Refusal.{Refusal}
use Rattle.server_rules.specs.Examples.Tables.{number, symbol, ground}
use Rattle.server_rules.specs.Examples.Runs.{message_turn, drain_turns, turns_of, opening_turns}
use Rattle.server_rules.specs.Examples.Runs.{interleaving, after_all, given_to, first_reply}
use Rattle.server_rules.specs.Examples.Runs.{second_reply}
use Rattle.server_rules.specs.Examples.Runs.{value_body, session_reply, given_with_shared}
use Rattle.server_rules.specs.Examples.Messages.{first_id}
use Rattle.bencode_wire.specs.Spelling.{spellings_joined}
use Rattle.server_rules.specs.Examples.Runs.{begun_replies, steps_of}

-- One session begins to read `r` in a transaction, then the other sets it, and commits. The read
-- finds the version at its read point kept no longer: it is made again, and gives what was set. So
-- one version more is kept from the next commit on.
abbrev pub retried_run : ℕ → List Turn
retried_run t =
    given (opens t) ∷ opening_turns t ++ message_turn t 2 ∷ message_turn t 3 ∷ turns_of t 0 2
    ++ turns_of t 1 6
    ++ turns_of t 0 2 ++ turns_of t 0 5 ++ message_turn t 4 ∷ turns_of t 0 5
    ++ message_turn t 5 ∷ turns_of t 1 6 ++ message_turn t 4 ∷ turns_of t 0 5 ++ drain_turns t 14

abbrev pub retried_replies : ℕ → List ℕ
retried_replies t = spellings_joined (begun_replies t
    ++ second_reply t (codes "3") (value_body (number 5)) ∷ second_reply t (codes "3") replies.done
    ∷ first_reply t (codes "2") (value_body (number 5)) ∷ first_reply t (codes "2") replies.done
    ∷ first_reply t (codes "4") (value_body (number 0)) ∷ first_reply t (codes "4") replies.done
    ∷ second_reply t (codes "5") (value_body (number 6)) ∷ second_reply t (codes "5") replies.done
    ∷ first_reply t (codes "4") (value_body (number 1)) ∷ first_reply t (codes "4") replies.done
    ∷ [])

abbrev pub ReadIsRetried : Type 0
ReadIsRetried = given_to 0 (retried_run 0) ≡ retried_replies 0

-- The same by two tenants, turn by turn: each is answered as if it were alone.
abbrev pub TwoAreApart : Type 0
TwoAreApart =
    let both = interleaving (retried_run 0) (retried_run 1) in
    (given_to 0 both ≡ retried_replies 0) × (given_to 1 both ≡ retried_replies 1)

-- Two sessions commute one ref, and the second commits first: the first meets no conflict, and its
-- commute is made again of what the second left.
abbrev pub BothCommute : Type 0
BothCommute =
    given_to 0 (given (opens 0) ∷ opening_turns 0 ++ message_turn 0 7 ∷ message_turn 0 8
    ∷ turns_of 0 0 6 ++ turns_of 0 1 8
    ++ turns_of 0 0 2 ++ message_turn 0 2 ∷ turns_of 0 0 6 ++ drain_turns 0 10)
    ≡ spellings_joined (begun_replies 0
    ++ second_reply 0 (codes "9") (value_body nil) ∷ second_reply 0 (codes "9") replies.done
    ∷ first_reply 0 (codes "8") (value_body nil) ∷ first_reply 0 (codes "8") replies.done
    ∷ first_reply 0 (codes "2") (value_body (number 2)) ∷ first_reply 0 (codes "2") replies.done
    ∷ [])

-- One session begins to add one to an atom, and has read it when the other sets it. So its try
-- changes nothing: it reads again, and what it adds to is what was set.
abbrev pub TryIsMadeAgain : Type 0
TryIsMadeAgain =
    given_to 0 (given (opens 0) ∷ opening_turns 0 ++ message_turn 0 9 ∷ turns_of 0 0 5
    ++ message_turn 0 10 ∷ message_turn 0 11 ∷ turns_of 0 0 5 ++ turns_of 0 1 5 ++ turns_of 0 0 4
    ++ drain_turns 0 10)
    ≡ spellings_joined (begun_replies 0
    ++ first_reply 0 (codes "10") (value_body (atom 0)) ∷ first_reply 0 (codes "10") replies.done
    ∷ second_reply 0 (codes "12") (value_body (number 5))
    ∷ second_reply 0 (codes "12") replies.done
    ∷ first_reply 0 (codes "11") (value_body (number 6)) ∷ first_reply 0 (codes "11") replies.done
    ∷ [])

-- A ref that all tenants share: one tenant sets it, and another reads it before and behind that.
abbrev pub SharedRefIsRead : Type 0
SharedRefIsRead =
    given_with_shared 1 (given (opens 0) ∷ given (opens 1) ∷ message_turn 0 0 ∷ message_turn 1 0
    ∷ message_turn 1 12 ∷ turns_of 1 0 4 ++ message_turn 0 13 ∷ turns_of 0 0 6
    ++ message_turn 1 12 ∷ turns_of 1 0 4 ++ drain_turns 1 5)
    ≡ spellings_joined (session_reply (first_id 1)
    ∷ first_reply 1 (codes "13") (value_body (number 0)) ∷ first_reply 1 (codes "13") replies.done
    ∷ first_reply 1 (codes "13") (value_body (number 7)) ∷ first_reply 1 (codes "13") replies.done
    ∷ [])

-- A session is closed while one request is in hand and another waits. The one that waits is
-- answered first, then the close, and at its next turn the one in hand; then the actor is gone.
abbrev pub CloseInterrupts : Type 0
CloseInterrupts =
    given_to 0 (given (opens 0) ∷ opening_turns 0 ++ message_turn 0 2 ∷ turns_of 0 0 2
    ++ message_turn 0 4 ∷ message_turn 0 6
    ∷ turns_of 0 0 2 ++ drain_turns 0 8)
    ≡ spellings_joined (begun_replies 0 ++ first_reply 0 (codes "4") replies.interrupted
    ∷ first_reply 0 (codes "7") replies.closed
    ∷ first_reply 0 (codes "2") replies.interrupted ∷ [])

-- An ending with the first of two recorded exchanges alone is refused at the place of the second.
abbrev pub defining_ended : EndingData
defining_ended = record {
  job = record { work = jobs.form (number 100); namespace = codes "user"; retries = 10000 };
  trace = record {
    ask = symbol (codes "ref");
    answer = exchange.resolution
        (exchange.names_function (exchange.store_function StoreFunction.Ref));
  } ∷ [];
  end = record { result = Ok (number 7); text = []; namespace = codes "user" };
}

abbrev pub OtherTraceIsRefused : Type 0
OtherTraceIsRefused =
    let w = after_all (given (opens 0) ∷ message_turn 0 0 ∷ message_turn 0 1 ∷ turns_of 0 0 3) in
    answer_in (step ground w (does 0 (ends (Actor.Session 0) defining_ended)))
    ≡ Err (Refusal.TraceMismatch 1)

-- A tenant that goes leaves its place to another, and nothing of its refs.
abbrev pub PlaceIsFreed : Type 0
PlaceIsFreed =
    let full = given (opens 0) ∷ given (opens 1) ∷ opening_turns 0 in
    (answer_in (step ground (after_all full) (opens 2)) ≡ Err Refusal.Full)
    × (answer_in (step ground (after_all (full ++ given (closes 0) ∷ [])) (opens 2))
    ≡ Ok tenant_opened)

abbrev pub NothingIsLeft : Type 0
NothingIsLeft =
    let w = after_all (given (opens 0) ∷ opening_turns 0 ++ given (closes 0) ∷ []) in
    (part_under 0 w.tenants ≡ Some None) × (w.around.refs ≡ [])

-- A turn for which there is nothing to do is refused, and costs no step: here three pieces and the
-- five turns of a form are counted, and neither the idle turns nor what is taken out.
abbrev pub IdleCostsNothing : Type 0
IdleCostsNothing =
    steps_of 0 (after_all (given (opens 0) ∷ opening_turns 0 ++ turns_of 0 0 3 ++ drain_turns 0 9))
    ≡ Some 992
