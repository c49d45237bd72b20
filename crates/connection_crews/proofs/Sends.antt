-- A book may go to another thread, and so may all that it is made of.
use denote.RattleType.{RattleType}
use denote.Exit.{no}
use denote.Param.{param, arg}
use denote.Ref.{NamedLft}
use denote.Param.Send.{IsSend, IsSync, sendable, param_send, arg_send}
use denote.Param.Send.{shr_send, plain_send, plain_sync, owning_send, view_send, shr_sync}
use denote.Param.SendFields.{declared_send, declared_sync}
use denote.Param.SendFields.{variants_send, variants_sync, as_row_send}
use Rattle.std.proofs.Crossing.{crosses}
use Rattle.std.proofs.Crossing as heap
use Rattle.std.proofs.MapsCrossing as maps
use Rattle.std_collections.proofs.linked_list.nodes.Nodes.TheSendSync as linked_nodes
use Rattle.std_collections.specs.contracts.linked_list.LinkedList as linked
use Rattle.std_collections.specs.contracts.linked_list.LinkedList.TheInside as linked_inside
use Rattle.std.specs.contracts.alloc.Global as Heap
use Rattle.std.specs.contracts.impls.GlobalAllocator.TheImpl.{ghosts}
use Rattle.std.specs.contracts.sync.ArcStr as text
use Rattle.std.specs.contracts.option.Option as option
use Rattle.std.specs.contracts.string.String as string
use Rattle.value_data.proofs.value.Entries.TheLaws.TheKnot as knot
use Rattle.chunked_list.proofs.tree.NumbersTree.TheLaws.TheKnot as lists
use Rattle.chunked_list.specs.contracts.list.ChunkedList as chunked
use Rattle.chunked_list.specs.contracts.places.RankedPlaces as ranked
use Rattle.chunked_list.specs.contracts.places.RankedPlaces.TheInside as ranked_inside
use Rattle.bencode_wire.proofs.ben.Ben.TheLaws.TheKnot as bens
use Rattle.bytes.proofs.Crosses as blocks
use Rattle.bytes.specs.contracts.block.Seen as seen
use lib.ListN.{drop}
use Rattle.value_data.specs.contracts.value.Value as value
use Rattle.value_data.specs.contracts.value.RefName as ref_name
use Rattle.core_functions.specs.contracts.function.CoreFunction as core
use Rattle.core_functions.specs.contracts.store.StoreFunction as store
use Rattle.special_forms.specs.contracts.forms.Forms as forms
use Rattle.special_forms.specs.contracts.function.Function as function
use Rattle.repl_values.specs.contracts.fault.Fault as fault
use Rattle.repl_asks.specs.contracts.intent.Change as change
use Rattle.repl_asks.specs.contracts.intent.Commute as commute
use Rattle.repl_asks.specs.contracts.intent.Commuted as commuted
use Rattle.repl_asks.specs.contracts.intent.Intent as intent
use Rattle.repl_asks.specs.contracts.sends.Task as task
use Rattle.repl_asks.specs.contracts.sends.Sending as to_agent
use Rattle.repl_asks.specs.contracts.ask.Binding as binding
use Rattle.repl_asks.specs.contracts.ask.Ask as ask
use Rattle.repl_asks.specs.contracts.answer.NamedFunction as named
use Rattle.repl_asks.specs.contracts.answer.Resolution as resolution
use Rattle.repl_asks.specs.contracts.answer.Reading as reading
use Rattle.repl_asks.specs.contracts.answer.Verdict as verdict
use Rattle.repl_asks.specs.contracts.answer.Permission as permission
use Rattle.repl_asks.specs.contracts.answer.Answer as answer
use Rattle.repl_asks.specs.contracts.exchange.Exchange as exchange
use Rattle.bytes.specs.contracts.shared.Bytes as bytes
use Rattle.server_rules.specs.contracts.actor.Actor as actor
use Rattle.bencode_wire.specs.contracts.ben.Ben as ben
use Rattle.repl_asks.specs.contracts.job.Work as work
use Rattle.repl_asks.specs.contracts.job.Job as job
use Rattle.repl_asks.specs.contracts.job.End as end
use Rattle.repl_asks.specs.contracts.job.Finished as finished
use Rattle.repl_walker.specs.contracts.ending.Ending as ending
use Rattle.repl_core.specs.contracts.step.Step as step
use Rattle.repl_core.specs.contracts.step.StepAnswer as step_answer
use Rattle.tenant_asks.specs.contracts.answers.AskAnswer as ask_answer
use Rattle.tenant_world.specs.contracts.answers.StartAnswer as start_answer
use Rattle.journal_book.specs.contracts.entry.AcceptedStep as accepted_step
use Rattle.journal_book.specs.contracts.entry.AnsweredAsk as answered_ask
use Rattle.journal_book.specs.contracts.entry.HeardPiece as heard_piece
use Rattle.journal_book.specs.contracts.entry.ResolvedSymbol as resolved_symbol
use Rattle.journal_book.specs.contracts.entry.JournalEntry as entry
use Rattle.paged_list.specs.contracts.pages.Pages as pages
use Rattle.paged_list.specs.contracts.pages.Pages.TheInside as pages_inside
use Rattle.paged_list.specs.contracts.paged_row.PagedRow as row
use Rattle.paged_list.specs.contracts.paged_row.PagedRow.TheInside as row_inside
use Rattle.bencode_wire.specs.contracts.decoder.Decoder as decoder
use Rattle.repl_replies.specs.contracts.reply.Origin as origin
use Rattle.tenant_parts.specs.contracts.request.ProgramText as program_text
use Rattle.tenant_parts.specs.contracts.request.Waiting as waiting
use Rattle.tenant_parts.specs.contracts.request.Manner as manner
use Rattle.tenant_parts.specs.contracts.request.Run as run
use Rattle.tenant_parts.specs.contracts.request.WorkInHand as hand
use Rattle.tenant_parts.specs.contracts.actor.ActorState as actor_state
use Rattle.tenant_parts.specs.contracts.actors.Actors as actors
use Rattle.repl_sessions.specs.contracts.sessions.Sessions as sessions
use Rattle.repl_sessions.specs.contracts.state.SessionState as session_state
use Rattle.name_spaces.specs.contracts.vars.Vars as vars
use Rattle.name_spaces.specs.contracts.shared.SharedNames as shared_names
use Rattle.name_spaces.specs.contracts.spaces.Spaces as spaces
use Rattle.private_cells.specs.contracts.atoms.Atoms as atoms
use Rattle.private_cells.specs.contracts.action.Action as action
use Rattle.private_cells.specs.contracts.action.Sent as sending
use Rattle.private_cells.specs.contracts.cells.Cell as cell
use Rattle.private_cells.specs.contracts.turns.Turns as turns
use Rattle.private_cells.specs.contracts.counts.Counts as action_counts
use Rattle.private_cells.specs.contracts.spare.Spare as spare
use Rattle.private_cells.specs.contracts.agents.Agents as agents
use Rattle.tenant_parts.specs.contracts.outbox.Outbox as outbox
use Rattle.tenant_parts.specs.contracts.attempts.Attempts as attempts
use Rattle.tenant_world.specs.contracts.tenant.Tenant as tenant
use Rattle.ref_history.specs.contracts.ring_history.RingHistory as history
use Rattle.ref_table.specs.contracts.table.RefTable as ref_table
use Rattle.repl_core.specs.contracts.machine.Machine as machine
use Rattle.repl_core.specs.contracts.machine.Config as config
use Rattle.repl_core.specs.contracts.machine.SharedText as shared_text
use Rattle.journal_book.specs.contracts.book.Book as book
use Rattle.tenant_asks.specs.contracts.cells.Cells as cells
use Rattle.tenant_asks.specs.contracts.memory.Remembered as memory
use Rattle.ref_history.specs.contracts.ring_ref.RingRef as ring_ref
use Rattle.version_rings.specs.contracts.rings.Rings as rings
use Rattle.version_rings.specs.contracts.rings.Rings.TheInside as rings_inside
use Rattle.version_rings.specs.contracts.nodes.Nodes as nodes
use Rattle.version_rings.specs.contracts.node_list.NodeList as node_list
use Rattle.version_rings.specs.contracts.node.Joint as joint
use Rattle.version_rings.specs.contracts.node.Ring as ring
use Rattle.version_rings.specs.contracts.ring_table.Slot as slot
use Rattle.version_rings.specs.contracts.ring_table.RingTable as ring_table
use Rattle.ref_table.specs.contracts.departed.Departed as departed
use Rattle.ref_table.specs.contracts.directory.Directory as directory
use Rattle.repl_core.specs.contracts.tenants.Tenants as tenants
use Rattle.journal_book.specs.contracts.book.Book.TheInside as book_inside
use Rattle.logbook.proofs.tokens.Seen.TheSendSync as beginning
use Rattle.logbook.proofs.word.Word.TheSendSync as word
use Rattle.knowing_book.specs.declared.known.Naming as naming
use Rattle.knowing_book.specs.contracts.known.Law as law
use Rattle.knowing_book.specs.contracts.known.LawRuleU64.TheImpl as rule
use Rattle.knowing_book.specs.contracts.known.Length as length
use Rattle.knowing_book.specs.contracts.known.Known as known_entries
use Rattle.knowing_book.specs.contracts.known.Known.TheInside as known_inside
use Rattle.knowing_book.specs.contracts.lasts.Lasts as lasts
use Rattle.knowing_book.specs.contracts.book.KnowingBook as knowing
use Rattle.knowing_book.specs.contracts.book.KnowingBook.TheInside as knowing_inside
use Rattle.std.specs.declared.sync.ledger.Ledger as ledger
use Rattle.std.specs.contracts.sync.ledger.Book as counts
use Rattle.std.specs.contracts.sync.ledger.Share as share
use Rattle.std.below.core.proofs.ledger.Sent as sent
use Rattle.std.below.core.proofs.sync.Sent as locks
use Rattle.std.specs.contracts.sync.Mutex as mutex
use Rattle.std.specs.contracts.sync.Arc as arc
use Rattle.std.specs.contracts.net.TcpStream as tcp_stream
use Rattle.connection_crews.specs.contracts.crew.Crew as crew
use Rattle.connection_crews.specs.contracts.crew.Post as post
use Rattle.journal_book.specs.contracts.seat.Seat as seat
use Rattle.journal_book.specs.contracts.seat.Seat.TheInside as seat_inside
use Rattle.crossbeam_channel.proofs.flavors.array.ruled.Receiving.TheSendSync as takings
use Rattle.crossbeam_channel.proofs.flavors.array.Rows.TheSendSync as rows
use Rattle.crossbeam_channel.proofs.flavors.array.Key.TheSendSync as key
use Rattle.crossbeam_channel.proofs.flavors.array.Doing.TheSendSync as doing
use Rattle.crossbeam_channel.proofs.flavors.array.Rounds.TheSendSync as rounds
use Rattle.crossbeam_channel.proofs.flavors.array.Lockers.TheSendSync as lockers
use Rattle.crossbeam_channel.proofs.flavors.array.Whole.TheSendSync as whole
use Rattle.atomic_table.proofs.shared.Seat.TheSendSync as tickets
use Rattle.atomic_table.proofs.badge.Badge.TheSendSync as badge
use Rattle.connection_waits.proofs.desk.Desk.TheSendSync as desk
use Rattle.connection_waits.proofs.feeding.Accepted.TheSendSync as accepted
use Rattle.connection_waits.proofs.feeding.Hand.TheSendSync as known
use Rattle.connection_waits.proofs.feeding.Rising.TheSendSync as rising
use Rattle.connection_crews.specs.contracts.moves.Connection as connection
use denote.Struct.Tuple.{TupleAt, type_at}
use denote.Struct.Field.{row_field, shr_ref_field}
use mir.Syntax.{Ty}
use mathlib.Core.List.{List, [], ◌∷◌}
use Prim.Native.Nat.{ℕ}

chunked-send : IsSend chunked.the_row
chunked-send = search (sendable, crosses, lists.crosses) depth 40 fits 20000

chunked-sync : IsSync chunked.the_row
chunked-sync = search (sendable, crosses, lists.crosses) depth 40 fits 20000

ranked-inside-send : IsSend ranked_inside.the_row
ranked-inside-send =
    declared_send ranked_inside.the_type (chunked-send, (chunked-send, (search sendable, tt)))

ranked-inside-sync : IsSync ranked_inside.the_row
ranked-inside-sync =
    declared_sync ranked_inside.the_type (chunked-sync, (chunked-sync, (search sendable, tt)))

ranked-send : IsSend ranked.the_row
ranked-send = search (view_send, ranked-inside-send)

ranked-sync : IsSync ranked.the_row
ranked-sync = search (sendable, ranked-inside-sync)

ruleset all =
    (sendable, crosses, maps.crosses, knot.crosses, lists.crosses, ranked-send, ranked-sync)

-- of the channel
ruleset queued = (
  sendable,
  crosses,
  takings.the_send,
  tickets.the_send,
  rows.the_send,
  rows.the_sync,
  key.the_send,
  key.the_sync,
  doing.the_send,
  rounds.the_send,
  rounds.the_sync,
  lockers.the_send,
  lockers.the_sync,
  whole.the_send,
  whole.the_sync,
  badge.the_send,
  accepted.the_send,
  accepted.the_sync,
  known.the_send,
  known.the_sync,
  rising.the_send,
  rising.the_sync,
)

ruleset made = (declared_send, declared_sync, variants_send, variants_sync, plain_send, plain_sync)

text-send : IsSend (text.the_row Heap.the_row ghosts)
text-send = search (sendable, crosses) depth 20

text-sync : IsSync (text.the_row Heap.the_row ghosts)
text-sync = search (sendable, crosses) depth 20

option-send : (R : RattleType) → IsSend R → IsSend (option.the_row R)
option-send R s = search sendable depth 12

number-send : IsSend (option.the_row denote.Builtin.u64)
number-send = search sendable depth 12

number-sync : IsSync (option.the_row denote.Builtin.u64)
number-sync = search sendable depth 12

value-send : IsSend value.the_row
value-send = search all depth 40 fits 20000

value-sync : IsSync value.the_row
value-sync = search all depth 40 fits 20000

ref_name-send : IsSend ref_name.the_row
ref_name-send = search all depth 40 fits 20000

ref_name-sync : IsSync ref_name.the_row
ref_name-sync = search all depth 40 fits 20000

core-send : IsSend core.the_row
core-send = search all depth 40 fits 20000

core-sync : IsSync core.the_row
core-sync = search all depth 40 fits 20000

store-send : IsSend store.the_row
store-send = search all depth 40 fits 20000

store-sync : IsSync store.the_row
store-sync = search all depth 40 fits 20000

forms-send : IsSend forms.the_row
forms-send = search all depth 40 fits 20000

forms-sync : IsSync forms.the_row
forms-sync = search all depth 40 fits 20000

fault-send : IsSend fault.the_row
fault-send = search all depth 40 fits 20000

fault-sync : IsSync fault.the_row
fault-sync = search all depth 40 fits 20000

function-send : IsSend function.the_row
function-send = search (made, text-send, forms-send, heap.Vec-send) depth 30 fits 20000

function-sync : IsSync function.the_row
function-sync = search (made, text-sync, forms-sync, heap.Vec-sync) depth 30 fits 20000

change-send : IsSend change.the_row
change-send = search (made, ref_name-send, value-send) depth 30 fits 20000

change-sync : IsSync change.the_row
change-sync = search (made, ref_name-sync, value-sync) depth 30 fits 20000

commute-send : IsSend commute.the_row
commute-send = search (made, core-send, value-send, heap.Vec-send) depth 30 fits 20000

commute-sync : IsSync commute.the_row
commute-sync = search (made, core-sync, value-sync, heap.Vec-sync) depth 30 fits 20000

commuted-send : IsSend commuted.the_row
commuted-send = search (made, ref_name-send, commute-send, heap.Vec-send) depth 30 fits 20000

commuted-sync : IsSync commuted.the_row
commuted-sync = search (made, ref_name-sync, commute-sync, heap.Vec-sync) depth 30 fits 20000

named-send : IsSend named.the_row
named-send =
    search (made, core-send, store-send, function-send, function-sync, heap.Arc-send) depth 30 fits
    20000

named-sync : IsSync named.the_row
named-sync =
    search (made, core-sync, store-sync, function-send, function-sync, heap.Arc-sync) depth 30 fits
    20000

task-send : IsSend task.the_row
task-send = search (made, named-send, value-send, heap.Vec-send) depth 30 fits 20000

task-sync : IsSync task.the_row
task-sync = search (made, named-sync, value-sync, heap.Vec-sync) depth 30 fits 20000

to_agent-send : IsSend to_agent.the_row
to_agent-send = search (made, task-send, task-sync, heap.Arc-send) depth 30 fits 20000

to_agent-sync : IsSync to_agent.the_row
to_agent-sync = search (made, task-send, task-sync, heap.Arc-sync) depth 30 fits 20000

intent-send : IsSend intent.the_row
intent-send =
    search (made, change-send, ref_name-send, commuted-send, to_agent-send, heap.Vec-send) depth 30
    fits 20000

intent-sync : IsSync intent.the_row
intent-sync =
    search (made, change-sync, ref_name-sync, commuted-sync, to_agent-sync, heap.Vec-sync) depth 30
    fits 20000

binding-send : IsSend binding.the_row
binding-send =
    search (made, value-send, function-send, function-sync, heap.Arc-send) depth 30 fits 20000

binding-sync : IsSync binding.the_row
binding-sync =
    search (made, value-sync, function-send, function-sync, heap.Arc-sync) depth 30 fits 20000

ask-send : IsSend ask.the_row
ask-send =
    search (
      made,
      text-send,
      binding-send,
      value-send,
      ref_name-send,
      intent-send,
      intent-sync,
      to_agent-send,
      number-send,
      heap.Vec-send,
      heap.Vec-sync,
      heap.Arc-send,
    ) depth 30 fits 20000

ask-sync : IsSync ask.the_row
ask-sync =
    search (
      made,
      text-sync,
      binding-sync,
      value-sync,
      ref_name-sync,
      intent-send,
      intent-sync,
      to_agent-sync,
      number-sync,
      heap.Vec-send,
      heap.Vec-sync,
      heap.Arc-sync,
    ) depth 30 fits 20000

resolution-send : IsSend resolution.the_row
resolution-send = search (made, value-send, named-send, fault-send) depth 30 fits 20000

resolution-sync : IsSync resolution.the_row
resolution-sync = search (made, value-sync, named-sync, fault-sync) depth 30 fits 20000

reading-send : IsSend reading.the_row
reading-send = search (made, value-send) depth 30 fits 20000

reading-sync : IsSync reading.the_row
reading-sync = search (made, value-sync) depth 30 fits 20000

verdict-send : IsSend verdict.the_row
verdict-send = search (made, fault-send) depth 30 fits 20000

verdict-sync : IsSync verdict.the_row
verdict-sync = search (made, fault-sync) depth 30 fits 20000

permission-send : IsSend permission.the_row
permission-send = search all depth 40 fits 20000

permission-sync : IsSync permission.the_row
permission-sync = search all depth 40 fits 20000

answer-send : IsSend answer.the_row
answer-send =
    search (made, resolution-send, value-send, reading-send, verdict-send, permission-send) depth 30
    fits 20000

answer-sync : IsSync answer.the_row
answer-sync =
    search (made, resolution-sync, value-sync, reading-sync, verdict-sync, permission-sync) depth 30
    fits 20000

exchange-send : IsSend exchange.the_row
exchange-send = search (made, ask-send, answer-send) depth 30 fits 20000

exchange-sync : IsSync exchange.the_row
exchange-sync = search (made, ask-sync, answer-sync) depth 30 fits 20000

string-send : IsSend (string.the_row Heap.the_row ghosts)
string-send = search (sendable, crosses) depth 20

seen-send : IsSend seen.the_row
seen-send = owning_send seen.the_type tt
    (λ s. blocks.seen_owns-keyless s.life (drop s.at s.names) s.ptr s.items) (λ k x w. tt)

bytes-send : IsSend (bytes.the_row Heap.the_row ghosts)
bytes-send =
    search (sendable, crosses, blocks.block-send, blocks.block-sync, seen-send) depth 40 fits
    20000

actor-send : IsSend actor.the_row
actor-send = search all depth 40 fits 20000

ben-send : IsSend ben.the_row
ben-send = search (sendable, crosses, maps.crosses, bens.crosses) depth 40 fits 20000

ben-sync : IsSync ben.the_row
ben-sync = search (sendable, crosses, maps.crosses, bens.crosses) depth 40 fits 20000

decoder-send : IsSend decoder.the_row
decoder-send = search (sendable, crosses, maps.crosses, bens.crosses) depth 40 fits 20000

work-send : IsSend work.the_row
work-send = search (made, value-send, task-send, task-sync, heap.Arc-send) depth 30 fits 20000

job-send : IsSend job.the_row
job-send = search (made, work-send, text-send) depth 30 fits 20000

end-send : IsSend end.the_row
end-send = search (made, value-send, fault-send) depth 30 fits 20000

finished-send : IsSend finished.the_row
finished-send = search (made, end-send, string-send, text-send) depth 30 fits 20000

ending-send : IsSend ending.the_row
ending-send =
    search (made, job-send, exchange-send, finished-send, heap.Vec-send) depth 30 fits 20000

number : IsSend denote.Builtin.u64
number = search sendable

step-send : IsSend step.the_row
step-send =
    search (
      variants_send,
      as_row_send,
      bytes-send,
      actor-send,
      ask-send,
      ending-send,
      number,
      heap.Box-send,
    ) depth 30 fits 20000

step_answer-send : IsSend step_answer.the_row
step_answer-send = search (made, job-send, answer-send, heap.Vec-send) depth 30 fits 20000

start_answer-send : IsSend start_answer.the_row
start_answer-send = search (made, job-send) depth 30 fits 20000

ask_answer-send : IsSend ask_answer.the_row
ask_answer-send = search (made, answer-send) depth 30 fits 20000

resolved_symbol-send : IsSend resolved_symbol.the_row
resolved_symbol-send = search (made, text-send, resolution-send) depth 30 fits 20000

answered_ask-send : IsSend answered_ask.the_row
answered_ask-send = search (made, ask-send, ask_answer-send) depth 30 fits 20000

heard_piece-send : IsSend heard_piece.the_row
heard_piece-send = declared_send heard_piece.the_type (bytes-send, (search sendable, tt))

accepted_step-send : IsSend accepted_step.the_row
accepted_step-send = search (made, step-send, step_answer-send) depth 30 fits 20000

entry-send : IsSend entry.the_row
entry-send =
    search (
      made,
      as_row_send,
      number,
      actor-send,
      start_answer-send,
      resolved_symbol-send,
      answered_ask-send,
      finished-send,
      ending-send,
      heard_piece-send,
      accepted_step-send,
      heap.Box-send,
      heap.Vec-send,
    ) depth 30 fits 20000

pages-inside-send : (R : RattleType) → IsSend R → IsSend (pages_inside.the_row R)
pages-inside-send R s = declared_send (pages_inside.the_type R)
    (heap.send, (heap.Vec-send _ (heap.Vec-send R s), (heap.Vec-send R s, (number, tt))))

pages-send : (R : RattleType) → IsSend R → IsSend (pages.the_row R)
pages-send R s = search (view_send, pages-inside-send)

origin-send : IsSend origin.the_row
origin-send = search (made, ben-send, option-send) depth 30 fits 20000

option-sync : (R : RattleType) → IsSync R → IsSync (option.the_row R)
option-sync R s = search sendable depth 12

origin-sync : IsSync origin.the_row
origin-sync = search (made, ben-sync, option-sync) depth 30 fits 20000

program_text-send : IsSend program_text.the_row
program_text-send = search (made, string-send, ben-send, option-send) depth 30 fits 20000

waiting-send : IsSend waiting.the_row
waiting-send =
    search (made, origin-send, origin-sync, heap.Arc-send, program_text-send) depth 30 fits 20000

manner-send : IsSend manner.the_row
manner-send = search (made, value-send, number-send) depth 30 fits 20000

run-send : IsSend run.the_row
run-send = search (made, job-send, exchange-send, heap.Box-send, heap.Vec-send) depth 30 fits 20000

hand-send : IsSend hand.the_row
hand-send =
    search (
      made,
      origin-send,
      origin-sync,
      heap.Arc-send,
      manner-send,
      text-send,
      run-send,
      value-send,
      fault-send,
      option-send,
      heap.Deque-send,
    ) depth 30 fits 20000

actor_state-send : IsSend actor_state.the_row
actor_state-send =
    search (made, waiting-send, hand-send, option-send, heap.Deque-send) depth 30 fits 20000

actors-send : IsSend actors.the_row
actors-send =
    search (sendable, crosses, maps.crosses, actor-send, actor_state-send) depth 40 fits 20000

session_state-send : IsSend session_state.the_row
session_state-send = search (made, text-send, value-send) depth 30 fits 20000

outbox-send : IsSend outbox.the_row
outbox-send = search all depth 40 fits 20000

attempts-send : IsSend attempts.the_row
attempts-send = search all depth 40 fits 20000

vars-send : IsSend vars.the_row
vars-send = search (sendable, crosses, maps.crosses, binding-send) depth 40 fits 20000

vars-sync : IsSync vars.the_row
vars-sync = search (sendable, crosses, maps.crosses, binding-sync) depth 40 fits 20000

shared_names-send : IsSend shared_names.the_row
shared_names-send = search (made, vars-send, vars-sync, heap.Arc-send) depth 30 fits 20000

spaces-send : IsSend spaces.the_row
spaces-send = declared_send spaces.the_type (
  search (sendable, crosses, maps.crosses, vars-send) depth 40 fits 20000,
  (shared_names-send, tt),
)

row-inside-send : (R : RattleType) → IsSend R → IsSend (row_inside.the_row R)
row-inside-send R s = declared_send (row_inside.the_type R)
    (heap.send, (heap.Vec-send _ (heap.Vec-send R s), (search sendable, (search sendable, tt))))

row-send : (R : RattleType) → IsSend R → IsSend (row.the_row R)
row-send R s = search (view_send, row-inside-send)

atoms-send : IsSend atoms.the_row
atoms-send = declared_send atoms.the_type (row-send _ value-send, tt)

action-send : IsSend action.the_row
action-send =
    search (made, task-send, task-sync, origin-send, origin-sync, number-send, heap.Arc-send)
    depth 30 fits 20000

sending-send : IsSend sending.the_row
sending-send = search (made, sendable, action-send) depth 30 fits 20000

list-inside-send : (R : RattleType) → IsSend R
    → IsSend (linked_inside.the_row R Heap.the_row ghosts)
list-inside-send R s = declared_send (linked_inside.the_type R Heap.the_row ghosts)
    (linked_nodes.the_send R Heap.the_row ghosts s heap.send heap.frees, (heap.send, tt))

list-send : (R : RattleType) → IsSend R → IsSend (linked.the_row R Heap.the_row ghosts)
list-send R s = search (view_send, list-inside-send)

cell-send : IsSend cell.the_row
cell-send =
    search (made, sendable, value-send, fault-send, option-send, sending-send, list-send) depth 30
    fits 20000

turns-send : IsSend turns.the_row
turns-send = search (sendable, crosses) depth 40 fits 20000

action_counts-send : IsSend action_counts.the_row
action_counts-send = search (sendable, crosses, maps.crosses) depth 40 fits 20000

spare-send : IsSend spare.the_row
spare-send = search (sendable, crosses, sending-send, list-send) depth 40 fits 20000

agents-send : IsSend agents.the_row
agents-send = declared_send agents.the_type (
  heap.send,
  (
    row-send _ cell-send,
    (
      turns-send,
      (
        action_counts-send,
        (spare-send, (number-send, (search sendable, tt))),
      ),
    ),
  ),
)

cells-send : IsSend cells.the_row
cells-send = declared_send cells.the_type (atoms-send, (agents-send, tt))

sessions-send : IsSend sessions.the_row
sessions-send = search (sendable, crosses, maps.crosses, session_state-send) depth 40 fits 20000

number32 : IsSend denote.Builtin.u32
number32 = search sendable

joint-send : IsSend joint.the_row
joint-send = search sendable depth 20

node_list-send : IsSend node_list.the_row
node_list-send =
    declared_send node_list.the_type (
      row-send _ joint-send,
      (
        row-send _ value-send,
        (row-send _ number, (search sendable, tt)),
      ),
    )

nodes-send : IsSend nodes.the_row
nodes-send = declared_send nodes.the_type (node_list-send, (number32, (search sendable, tt)))

ring-send : IsSend ring.the_row
ring-send = search sendable depth 20

slot-send : IsSend slot.the_row
slot-send = search (made, ring-send, sendable) depth 30 fits 20000

ring_table-send : IsSend ring_table.the_row
ring_table-send = declared_send ring_table.the_type (row-send _ slot-send, (search sendable, tt))

rings-inside-send : IsSend rings_inside.the_row
rings-inside-send = declared_send rings_inside.the_type (nodes-send, (ring_table-send, tt))

rings-send : IsSend rings.the_row
rings-send = search (view_send, rings-inside-send)

ring_ref-send : IsSend ring_ref.the_row
ring_ref-send = search sendable depth 20

history-send : IsSend history.the_row
history-send =
    declared_send history.the_type (
      rings-send,
      (
        row-send _ (option-send ring_ref.the_row ring_ref-send),
        (search sendable, tt),
      ),
    )

directory-send : IsSend directory.the_row
directory-send = search (sendable, crosses, maps.crosses) depth 40 fits 20000

departed-send : IsSend departed.the_row
departed-send = search (sendable, crosses) depth 40 fits 20000

table-send : IsSend (ref_table.the_row history.the_row)
table-send =
    declared_send (ref_table.the_type history.the_row) (
      search sendable,
      (
        directory-send,
        (departed-send, (history-send, tt)),
      ),
    )

memory-send : IsSend memory.the_row
memory-send =
    declared_send memory.the_type (
      sessions-send,
      (
        session_state-send,
        (
          spaces-send,
          (cells-send, (outbox-send, tt)),
        ),
      ),
    )

tenant-send : IsSend tenant.the_row
tenant-send = declared_send tenant.the_type (
  heap.send,
  (
    number32,
    (
      number32,
      (
        decoder-send,
        (
          actors-send,
          (memory-send, (attempts-send, tt)),
        ),
      ),
    ),
  ),
)

tenants-send : IsSend tenants.the_row
tenants-send = search (sendable, crosses, maps.crosses, tenant-send) depth 40 fits 20000

shared_text-send : IsSend shared_text.the_row
shared_text-send = search (made, text-send) depth 30 fits 20000

config-send : IsSend config.the_row
config-send = declared_send config.the_type (
  search sendable depth 20,
  (
    number32,
    (number32, (shared_text-send, tt)),
  ),
)

newest-send : IsSend (option.the_row denote.Builtin.u64)
newest-send = option-send denote.Builtin.u64 number

machine-send : IsSend machine.the_row
machine-send = declared_send machine.the_type (
  heap.send,
  (
    search sendable depth 20,
    (
      number32,
      (
        number32,
        (
          search sendable,
          (
            search sendable,
            (
              newest-send,
              (
                shared_names-send,
                (
                  table-send,
                  (tenants-send, tt),
                ),
              ),
            ),
          ),
        ),
      ),
    ),
  ),
)

stream-sync : IsSync tcp_stream.the_row
stream-sync = search (sendable, crosses) depth 40 fits 20000

-- a closure, by what it captures
pub captures-3 : (n : List ℕ) (A B C : RattleType) → IsSend A → IsSend B → IsSend C
    → IsSend (TupleAt n (A ∷ B ∷ C ∷ []))
captures-3 n A B C a b c = declared_send (type_at n (A ∷ B ∷ C ∷ []))
    (as_row_send (row_field A) a, (as_row_send (row_field B) b, (as_row_send (row_field C) c, tt)))

pub post_send : IsSend post.the_row
post_send =
    declared_send post.the_type (
      search queued depth 40 fits 20000,
      (
        search queued depth 40 fits
            20000,
        tt,
      ),
    )

lasts-send : IsSend lasts.the_row
lasts-send = search (sendable, crosses, maps.crosses) depth 40 fits 20000

module _ (N : RattleType) (n : naming.Ghosts N.Denot) (t : IsSend N) where
  length-send : IsSend (length.the_row entry.the_row N n)
  length-send = declared_send (length.the_type entry.the_row N n) (
    word.the_send entry.the_row denote.Builtin.u64 law.the_row (rule.ghosts entry.the_row),
    (search (sendable, crosses) depth 20, tt),
  )

  known-inside-send : IsSend (known_inside.the_row entry.the_row N n)
  known-inside-send = declared_send (known_inside.the_type entry.the_row N n) (
    beginning.the_send entry.the_row denote.Builtin.u64 law.the_row (rule.ghosts entry.the_row),
    (search (sendable, crosses) depth 20, tt),
  )

  known-send : IsSend (known_entries.the_row entry.the_row N n)
  known-send = search (view_send, known-inside-send)

module _ (L : RattleType) (g : ledger.Ghosts L.Denot) (s : IsSend L)
    (N : RattleType) (n : naming.Ghosts N.Denot) (t : IsSend N) where
  counts-send : IsSend (counts.the_row L g)
  counts-send = sent.book_send L g

  share-send : IsSend (share.the_row L g)
  share-send = sent.share_send L g

  inside-send : IsSend (book_inside.the_row L g)
  inside-send = declared_send (book_inside.the_type L g) (
    heap.send,
    (
      config-send,
      (
        pages-send _ entry-send,
        (
          machine-send,
          (
            counts-send,
            (share-send, (number, tt)),
          ),
        ),
      ),
    ),
  )

  pub book_send : IsSend (book.the_row L g)
  book_send = search (view_send, inside-send)

  knowing-inside-send : IsSend (knowing_inside.the_row L N n g)
  knowing-inside-send = declared_send (knowing_inside.the_type L N n g) (
    book_send,
    (
      length-send N n t,
      (
        option-send _ (known-send N n t),
        (lasts-send, tt),
      ),
    ),
  )

  pub knowing_send : IsSend (knowing.the_row L N n g)
  knowing_send = search (view_send, knowing-inside-send)

  lock-send : IsSend (mutex.the_row (knowing.the_row L N n g))
  lock-send = locks.Mutex-send _ knowing_send

  lock-sync : IsSync (mutex.the_row (knowing.the_row L N n g))
  lock-sync = locks.Mutex-sync _ knowing_send

  shared-send : IsSend (arc.the_row (mutex.the_row (knowing.the_row L N n g)) Heap.the_row ghosts)
  shared-send = heap.Arc-send _ lock-send lock-sync

  pub crew_send : (G : RattleType) → IsSend G → IsSync G → IsSend (crew.the_row L N G g n)
  crew_send G sent seen = declared_send (crew.the_type L N G g n)
      (heap.send, (shared-send, (heap.Arc-send G sent seen, tt)))

  pub connection_sync : (a : denote.Ref.NamedLft) (G : RattleType) → IsSync G
      → IsSync (connection.the_row a L N G g n)
  connection_sync a G seen = declared_sync (connection.the_type a L N G g n) (
    heap.sync,
    (
      shr_sync _ _ _ lock-sync,
      (
        shr_sync _ _ _ seen,
        (
          shr_sync _ _ _ desk.the_sync,
          (shr_sync _ _ _ stream-sync, tt),
        ),
      ),
    ),
  )

  seat-inside-send : IsSend (seat_inside.the_row L g)
  seat-inside-send = declared_send (seat_inside.the_type L g) (number, (number, (share-send, tt)))

  seat_send : IsSend (seat.the_row L g)
  seat_send = search (view_send, seat-inside-send)

  -- a thread of a crew, by what it captures: the handle, the connection and its seat
  pub thread_send : (name : List ℕ) (layout : Ty) (a b c : NamedLft) (R G : RattleType) → IsSync
      (param 3 R) → IsSync G
      → IsSend (param 1 (arg layout no (TupleAt name ((shr_ref_field a (param 3 R) tt).row
      ∷ (shr_ref_field b (connection.the_row c L N G g n) tt).row ∷ seat.the_row L g ∷ []))))
  thread_send name layout a b c R G handle gate =
      param_send 1 _ (arg_send _ no _ (captures-3 name _ _ _
      (shr_send _ _ _ handle) (shr_send _ _ _ (connection_sync c G gate)) seat_send))
