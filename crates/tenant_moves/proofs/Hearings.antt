-- A piece that was fed and taken in is heard as the rules say.
use Rattle.std.proofs.Common.{◌≡◌, ℕ, Bool, List, [], ◌∷◌, ◌++◌, length, drop, Option, Some, None}
use Rattle.std.proofs.Common.{Result, Ok, Err, is_some, refl, sym, ap, ◌∙◌, subst, append-nil}
use Rattle.std.proofs.Math.Seq.{drop-append_seam}
use Rattle.bencode_wire.specs.Tree.{Tree, integer, string, list, dictionary}
use Rattle.bencode_wire.specs.Stream.{StreamEnding, rest, fault, Streams}
use Rattle.bencode_wire.specs.Fault.{counted_place}
use Rattle.bencode_wire.specs.Inside.Decoder.{ready_of, fault_of, Shows, DecoderStands}
use Rattle.bencode_wire.specs.Inside.Cut.{Cut}
use Rattle.bencode_wire.specs.declared.decoder.Decoder.{Decoder}
use Rattle.bencode_wire.specs.declared.fault.WireFault.{WireFault}
use Rattle.bencode_wire.proofs.Unique.{streams_same}
use Rattle.repl_sessions.specs.Named.{NamedSessions, number_named}
use Rattle.repl_replies.specs.Operations as operations
use Rattle.repl_replies.specs.Operations.{AskedData, OperationData}
use Rattle.repl_replies.specs.Replies.{OriginData, ReplyData}
use Rattle.server_rules.specs.Ground.{Ground}
use Rattle.server_rules.specs.Hearing.{fault_in, stream_fault, with_messages, new_messages}
use Rattle.server_rules.specs.Hearing.{fault_told, taken_in}
use Rattle.ref_table.specs.Numbered.{Entry, part_under}
use Rattle.server_rules.specs.Operating.{named_sessions, closed_by, asker, queued_for}
use Rattle.server_rules.specs.Operating.{after_operation, with_asked, with_message}
use Rattle.server_rules.specs.Readings.{AreRight, message_limit}
use Rattle.server_rules.specs.Request.{Waiting}
use Rattle.server_rules.specs.Tenant.{ActorData, seat_of, TenantState, with_replies}
use Rattle.server_rules.specs.declared.actor.Actor.{Actor}
use Rattle.std.specs.Prelude.{OnErr}
use Rattle.tenant_moves.specs.Heard.{IsHeard, HearingParts}
use Rattle.tenant_moves.specs.Holds.{PartsStandFor}
use Rattle.tenant_moves.specs.HasReadAll.{HasReadAll}
use Rattle.tenant_moves.specs.Handled.{told_broken, with_piece}

-- messages leave the bytes that were heard
closed-heard : (o : OriginData) (n : ℕ) (q : TenantState) (a : Option ActorData) → (closed_by o n q a).heard ≡ q.heard
closed-heard o n q None = refl
closed-heard o n q (Some a) = refl

queued-heard : (a : Actor) (w : Waiting) (q : TenantState) (o : Option ActorData) → (queued_for a w q o).heard ≡ q.heard
queued-heard a w q None = refl
queued-heard a w q (Some actor) = refl

after_operation-heard : (g : Ground) (t : ℕ) (o : OriginData) (op : OperationData) (q : TenantState) → (after_operation g t o op q).heard ≡ q.heard
after_operation-heard g t o (operations.clone original) q = refl
after_operation-heard g t o (operations.close n) q = closed-heard o n q (part_under (seat_of (Actor.Session n)) q.actors)
after_operation-heard g t o (operations.describe session) q = refl
after_operation-heard g t o (operations.list_sessions session) q = refl
after_operation-heard g t o (operations.eval session text ns) q = queued-heard (asker session) _ q (part_under (seat_of (asker session)) q.actors)
after_operation-heard g t o (operations.load_file session text) q = queued-heard (asker session) _ q (part_under (seat_of (asker session)) q.actors)

asked-heard : (g : Ground) (t : ℕ) (r : Result AskedData ReplyData) (q : TenantState) → (with_asked g t r q).heard ≡ q.heard
asked-heard g t (Ok a) q = after_operation-heard g t a.origin a.operation q
asked-heard g t (Err refusal) q = refl

message-heard : (g : Ground) (t : ℕ) (m : Tree) (q : TenantState) → (with_message g t m q).heard ≡ q.heard
unfolding with_message
message-heard g t (dictionary fields) q = asked-heard g t (operations.operation_or_reply (number_named (named_sessions g t q)) fields) q
message-heard g t (integer n) q = refl
message-heard g t (string bytes) q = refl
message-heard g t (list ts) q = refl

messages-heard : (g : Ground) (t : ℕ) (ms : List Tree) (q : TenantState) → (with_messages g t ms q).heard ≡ q.heard
messages-heard g t [] q = refl
messages-heard g t (m ∷ ms) q = messages-heard g t ms (with_message g t m q) ∙ message-heard g t m q

pub taken-heard : (g : Ground) (t : ℕ) (piece : List ℕ) (q : TenantState) → (taken_in g t piece q).heard ≡ q.heard ++ piece
unfolding taken_in
taken-heard g t piece q =
    messages-heard g t (new_messages g.readings q.heard piece) (record q { heard = q.heard ++ piece })

-- what a decoder shows of a stream's end
shown-fault : (held : Cut) (come read : ℕ) (found : Option WireFault) (all : List ℕ) (end : StreamEnding) → Shows held come read found all end → found ≡ fault_in end
shown-fault held come read found all (rest m) shows = shows.0
shown-fault held come read found all (fault rule at) shows = shows

-- the decoder has read all bytes, whose messages are those that were taken
pub record IsRead (g : Ground) (all : List ℕ) (taken : List Tree) (d : Decoder) : Type 0 where
  pub messages : taken ≡ (g.readings.stream all).messages
  pub reads : HasReadAll g all d

pub is-read : (g : Ground) (all : List ℕ) (taken : List Tree) (d : Decoder) → AreRight g.readings → DecoderStands message_limit d all taken
    → ready_of d ≡ [] → IsRead g all taken d
is-read g all taken d right s ready =
    let streams : Streams message_limit 0 all taken s.end =
    subst (λ ms. Streams message_limit 0 all ms s.end) (ap (λ ms. taken ++ ms) ready ∙ append-nil taken) s.streams in
    let same = streams_same message_limit all taken (g.readings.stream all).messages s.end (g.readings.stream all).ending streams (right.stream all) in
    record {
      messages = same.0;
      reads = record {
        stands = subst (λ ms. DecoderStands message_limit d all ms) same.0 s;
        ready = ready;
        fault = shown-fault _ _ _ (fault_of d) all s.end s.shows ∙ ap fault_in same.1;
      };
    }

told-fault : (o : Option WireFault) → told_broken (is_some o) ≡ fault_told o
told-fault None = refl
told-fault (Some f) = refl

pub heard-all : (g : Ground) (t : ℕ) (q : TenantState) (piece : List ℕ) (messages : List Tree) (broken : Bool) (count : ℕ) (d : Decoder)
    (s : NamedSessions) (es : List (Entry ActorData)) (waiting : List (List ℕ))
    → AreRight g.readings → DecoderStands message_limit d (q.heard ++ piece) ((g.readings.stream q.heard).messages ++ messages) → ready_of d ≡ []
    → broken ≡ is_some (fault_of d) → count ≡ length messages
    → PartsStandFor g t (with_piece g t messages broken (record q { heard = q.heard ++ piece })) s es waiting
    → IsHeard g t q piece count d s es waiting
unfolding taken_in
heard-all g t q piece messages broken count d s es waiting right stands ready is counted_place held =
    let all = q.heard ++ piece in
    let before = (g.readings.stream q.heard).messages in
    let r = is-read g all (before ++ messages) d right stands ready in
    let fresh : messages ≡ new_messages g.readings q.heard piece =
    sym (drop-append_seam before messages) ∙ ap (drop (length before)) r.messages in
    let told : told_broken broken ≡ fault_told (stream_fault g.readings all) =
    ap told_broken is ∙ told-fault (fault_of d) ∙ ap fault_told r.reads.fault in
    let start : TenantState = record q { heard = all } in
    let after : with_piece g t messages broken start ≡ taken_in g t piece q =
    ap (λ ms. with_replies (told_broken broken) (with_messages g t ms start)) fresh
    ∙ ap (λ more. with_replies more (with_messages g t (new_messages g.readings q.heard piece) start)) told in
    record {
      messages = counted_place ∙ ap length fresh;
      reads = subst (λ bytes. HasReadAll g bytes d) (sym (taken-heard g t piece q)) r.reads;
      holds = subst (λ (it : TenantState). PartsStandFor g t it s es waiting) after held;
    }

pub parts-same : {s u : NamedSessions} {es fs : List (Entry ActorData)} {vs ws : List (List ℕ)}
    → s ≡ u → es ≡ fs → vs ≡ ws
    → ◌≡◌ {A = HearingParts} (record { sessions = s; actors = es; waiting = vs })
    (record { sessions = u; actors = fs; waiting = ws })
parts-same {s} {u} {es} {fs} {vs} {ws} sessions actors waiting =
    let first : NamedSessions → HearingParts = λ x. record { sessions = x; actors = es; waiting = vs } in
    let second : List (Entry ActorData) → HearingParts =
    λ x. record { sessions = u; actors = x; waiting = vs } in
    let third : List (List ℕ) → HearingParts = λ x. record { sessions = u; actors = fs; waiting = x } in
    ap first sessions ∙ ap second actors ∙ ap third waiting

pub on-err : {T E : Type 0} {P : Type 0} (v : Result T E) → P → OnErr v P
on-err (Ok x) p = tt
on-err (Err e) p = p
