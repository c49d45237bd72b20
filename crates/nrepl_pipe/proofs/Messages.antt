-- The bytes of a piece are heard, whatever its messages bring about.
use Rattle.std.proofs.Common.{◌≡◌, ℕ, ◌+◌, List, [], ◌∷◌, ◌++◌, length, Option, Some, None, Result}
use Rattle.std.proofs.Common.{Ok, Err, refl, ap, ◌∙◌, length-append, arith}
use Rattle.bencode_wire.specs.Tree as wire
use Rattle.bencode_wire.specs.Stream.{StreamEnding, rest, fault, Streams}
use Rattle.repl_replies.specs.Replies.{OriginData, ReplyData}
use Rattle.repl_replies.specs.Operations as operations
use Rattle.repl_replies.specs.Operations.{AskedData, OperationData}
use Rattle.repl_sessions.specs.Named.{number_named}
use Rattle.ref_table.specs.Numbered.{part_under}
use Rattle.server_rules.specs.Ground.{Ground}
use Rattle.server_rules.specs.Readings.{Readings, AreRight, message_limit}
use Rattle.server_rules.specs.Request.{Waiting, ProgramText, code, file}
use Rattle.server_rules.specs.Tenant.{ActorData, seat_of, TenantState}
use Rattle.server_rules.specs.Hearing.{fault_in, stream_fault, with_messages, new_messages}
use Rattle.server_rules.specs.Hearing.{taken_in}
use Rattle.server_rules.specs.Operating.{named_sessions, closed_by, asker, queued_for, with_queued}
use Rattle.server_rules.specs.Operating.{after_operation, with_asked, with_message}
use Rattle.server_rules.specs.declared.actor.Actor.{Actor}

closed-heard : (origin : OriginData) (n : ℕ) (q : TenantState) (there : Option ActorData)
    → (closed_by origin n q there).heard ≡ q.heard
closed-heard origin n q None = refl
closed-heard origin n q (Some actor) = refl

queued-heard : (a : Actor) (w : Waiting) (q : TenantState) (there : Option ActorData)
    → (queued_for a w q there).heard ≡ q.heard
queued-heard a w q None = refl
queued-heard a w q (Some actor) = refl

text-heard : (a : Actor) (origin : OriginData) (text : ProgramText) (q : TenantState)
    → (with_queued a origin text q).heard ≡ q.heard
text-heard a origin text q =
    queued-heard a (record { origin = origin; text = text }) q (part_under (seat_of a) q.actors)

after_operation-heard : (g : Ground) (t : ℕ) (origin : OriginData) (o : OperationData) (q : TenantState)
    → (after_operation g t origin o q).heard ≡ q.heard
after_operation-heard g t origin (operations.clone original) q = refl
after_operation-heard g t origin (operations.close n) q =
    closed-heard origin n q (part_under (seat_of (Actor.Session n)) q.actors)
after_operation-heard g t origin (operations.describe session) q = refl
after_operation-heard g t origin (operations.list_sessions session) q = refl
after_operation-heard g t origin (operations.eval session text ns) q =
    text-heard (asker session) origin (code text ns) q
after_operation-heard g t origin (operations.load_file session text) q =
    text-heard (asker session) origin (file text) q

operation_or_reply-heard : (g : Ground) (t : ℕ) (asked : Result AskedData ReplyData) (q : TenantState)
    → (with_asked g t asked q).heard ≡ q.heard
operation_or_reply-heard g t (Ok asked) q = after_operation-heard g t asked.origin asked.operation q
operation_or_reply-heard g t (Err refusal) q = refl

message-heard : (g : Ground) (t : ℕ) (m : wire.Tree) (q : TenantState)
    → (with_message g t m q).heard ≡ q.heard
unfolding with_message
message-heard g t (wire.dictionary fields) q =
    operation_or_reply-heard g t (operations.operation_or_reply (number_named (named_sessions g t q)) fields) q
message-heard g t (wire.integer n) q = refl
message-heard g t (wire.string bytes) q = refl
message-heard g t (wire.list ts) q = refl

messages-heard : (g : Ground) (t : ℕ) (ms : List wire.Tree) (q : TenantState)
    → (with_messages g t ms q).heard ≡ q.heard
messages-heard g t [] q = refl
messages-heard g t (m ∷ ms) q =
    messages-heard g t ms (with_message g t m q) ∙ message-heard g t m q

pub taken_in-heard : (g : Ground) (t : ℕ) (piece : List ℕ) (q : TenantState)
    → (taken_in g t piece q).heard ≡ q.heard ++ piece
unfolding taken_in
taken_in-heard g t piece q =
    messages-heard g t (new_messages g.readings q.heard piece)
    (record q { heard = q.heard ++ piece })

-- No byte has no fault

nothing-faulty : (limit place : ℕ) (bytes : List ℕ) (ts : List wire.Tree) (end : StreamEnding)
    → length bytes ≡ 0 → Streams limit place bytes ts end → fault_in end ≡ None
nothing-faulty limit place bytes [] (rest m) none s = refl
nothing-faulty limit place bytes [] (fault rule at) none s =
    let long : length bytes ≡ length s.0 + length (s.1 ∷ s.2) =
    ap length s.4 ∙ length-append s.0 (s.1 ∷ s.2) in absurd (omega arith)
nothing-faulty limit place bytes (t ∷ ts) end none s =
    let long : length bytes ≡ length s.0 + length s.1 = ap length s.3 ∙ length-append s.0 s.1 in
    nothing-faulty limit (place + length s.0) s.1 ts end (omega arith) s.4

pub fresh-clean : (r : Readings) (heard : List ℕ) → AreRight r → heard ≡ []
    → stream_fault r heard ≡ None
fresh-clean r heard right none = ap (stream_fault r) none
    ∙ nothing-faulty message_limit 0 [] (r.stream []).messages (r.stream []).ending refl
    (right.stream [])
