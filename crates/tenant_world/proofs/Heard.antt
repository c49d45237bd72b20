-- A piece that is heard, beside the rules' step.
use Rattle.std.proofs.Common.{◌≡◌, ◌-◌, ◌==◌, ℕ, List, [], ◌∷◌, ◌++◌, Bool, true, false, length}
use Rattle.std.proofs.Common.{Option, Some, None, Result, Ok, Err, refl, sym, ap, subst, ◌∙◌}
use Rattle.std.proofs.Common.{if◌then◌else◌}
use Rattle.bencode_wire.specs.Tree.{Tree, integer, string, list, dictionary}
use Rattle.bencode_wire.specs.declared.fault.WireFault.{WireFault}
use Rattle.repl_sessions.specs.Named.{number_named}
use Rattle.repl_replies.specs.Operations as operations
use Rattle.repl_replies.specs.Operations.{AskedData, OperationData}
use Rattle.repl_replies.specs.Replies.{OriginData, ReplyData}
use Rattle.repl_sessions.specs.Inside.StateView.{state_view}
use Rattle.name_spaces.specs.Inside.Seen.{namespaces_of, shared_in}
use Rattle.tenant_asks.specs.Cells.{cells_data}
use Rattle.server_rules.specs.Ground.{Ground}
use Rattle.server_rules.specs.Hearing.{stream_fault, with_messages, new_messages, taken_in}
use Rattle.server_rules.specs.Hearing.{hears_more}
use Rattle.ref_table.specs.Numbered.{part_under}
use Rattle.server_rules.specs.Operating.{named_sessions, closed_by, asker, queued_for}
use Rattle.server_rules.specs.Operating.{after_operation, with_asked, with_message}
use Rattle.server_rules.specs.Plan as deeds
use Rattle.server_rules.specs.Plan.{Outcome, refuses, leaves, messages_heard, with_step_spent}
use Rattle.server_rules.specs.Request.{Waiting}
use Rattle.ref_table.specs.Store.{Store}
use Rattle.server_rules.specs.Tenant.{ActorData, seat_of, TenantState, is_held}
use Rattle.server_rules.specs.declared.actor.Actor.{Actor}
use Rattle.server_rules.specs.declared.refusal.Refusal.{Refusal}
use Rattle.tenant_parts.specs.View.{actors_view}
use Rattle.tenant_parts.specs.Replies.{waiting_bytes}
use Rattle.tenant_moves.specs.Heard.{IsHeard}
use Rattle.server_rules.specs.DeedResult.{deed_result}
use Rattle.tenant_world.specs.declared.tenant.Tenant.{Tenant}
use Rattle.tenant_parts.specs.declared.attempts.Attempts.{Attempts}
use Rattle.tenant_parts.specs.Attempts.{Reaches}
use Rattle.tenant_world.specs.Standing.{StandsForState, AcceptsDeed}

-- what messages leave as it was
record Keeps (old new : TenantState) : Type 0 where
  pub steps : new.steps ≡ old.steps
  pub bare : new.bare ≡ old.bare
  pub spaces : new.spaces ≡ old.spaces
  pub cells : new.cells ≡ old.cells

keeps-all : (q : TenantState) → Keeps q q
keeps-all q = record { steps = refl; bare = refl; spaces = refl; cells = refl }

closed-keeps : (o : OriginData) (n : ℕ) (q : TenantState) (a : Option ActorData)
    → Keeps q (closed_by o n q a)
closed-keeps o n q None = keeps-all q
closed-keeps o n q (Some a) = record { steps = refl; bare = refl; spaces = refl; cells = refl }

queued-keeps : (a : Actor) (w : Waiting) (q : TenantState) (o : Option ActorData)
    → Keeps q (queued_for a w q o)
queued-keeps a w q None = keeps-all q
queued-keeps a w q (Some actor) = record { steps = refl; bare = refl; spaces = refl; cells = refl }

after_operation-keeps : (g : Ground) (t : ℕ) (o : OriginData) (op : OperationData) (q : TenantState)
    → Keeps q (after_operation g t o op q)
after_operation-keeps g t o (operations.clone original) q =
    record { steps = refl; bare = refl; spaces = refl; cells = refl }
after_operation-keeps g t o (operations.close n) q =
    closed-keeps o n q (part_under (seat_of (Actor.Session n)) q.actors)
after_operation-keeps g t o (operations.describe session) q =
    record { steps = refl; bare = refl; spaces = refl; cells = refl }
after_operation-keeps g t o (operations.list_sessions session) q =
    record { steps = refl; bare = refl; spaces = refl; cells = refl }
after_operation-keeps g t o (operations.eval session text ns) q =
    queued-keeps (asker session) _ q (part_under (seat_of (asker session)) q.actors)
after_operation-keeps g t o (operations.load_file session text) q =
    queued-keeps (asker session) _ q (part_under (seat_of (asker session)) q.actors)

asked-keeps : (g : Ground) (t : ℕ) (r : Result AskedData ReplyData) (q : TenantState)
    → Keeps q (with_asked g t r q)
asked-keeps g t (Ok a) q = after_operation-keeps g t a.origin a.operation q
asked-keeps g t (Err refusal) q = record { steps = refl; bare = refl; spaces = refl; cells = refl }

message-keeps : (g : Ground) (t : ℕ) (m : Tree) (q : TenantState) → Keeps q (with_message g t m q)
unfolding with_message
message-keeps g t (dictionary fields) q =
    asked-keeps g t (operations.operation_or_reply (number_named (named_sessions g t q)) fields) q
message-keeps g t (integer n) q = keeps-all q
message-keeps g t (string bytes) q = keeps-all q
message-keeps g t (list ts) q = keeps-all q

messages-keep : (g : Ground) (t : ℕ) (ms : List Tree) (q : TenantState)
    → Keeps q (with_messages g t ms q)
messages-keep g t [] q = keeps-all q
messages-keep g t (m ∷ ms) q =
    let first = message-keeps g t m q in
    let more = messages-keep g t ms (with_message g t m q) in
    record {
      steps = more.steps ∙ first.steps;
      bare = more.bare ∙ first.bare;
      spaces = more.spaces ∙ first.spaces;
      cells = more.cells ∙ first.cells;
    }

taken-keeps : (g : Ground) (t : ℕ) (piece : List ℕ) (q : TenantState) → Keeps q (taken_in g t piece q)
unfolding taken_in
taken-keeps g t piece q =
    let kept = messages-keep g t (new_messages g.readings q.heard piece)
    (record q { heard = q.heard ++ piece }) in
    record { steps = kept.steps; bare = kept.bare; spaces = kept.spaces; cells = kept.cells }

-- The step

abbrev pub heard_by : Ground → ℕ → List ℕ → TenantState → Bool → Option WireFault → Outcome
heard_by g t piece q none fault =
    if none then refuses Refusal.Worn else hears_more g t piece q fault

pub hears-by : (g : Ground) (q : TenantState) (s : Store) (piece : List ℕ)
    → (deed_result g s q (deeds.hears piece)).outcome
    ≡ heard_by g s.tenant piece q (q.steps == 0) (stream_fault g.readings q.heard)
unfolding deed_result
hears-by g q s piece = refl

hears-none : (g : Ground) (q : TenantState) (s : Store) (piece : List ℕ)
    → (deed_result g s q (deeds.hears piece)).store ≡ s
unfolding deed_result
hears-none g q s piece = refl

-- a piece is heard where steps are left, the stream has no fault and not too many replies wait
pub hears-so : (g : Ground) (q : TenantState) (s : Store) (piece : List ℕ) → (q.steps == 0) ≡ false
    → None ≡ stream_fault g.readings q.heard → is_held q ≡ false
    → (deed_result g s q (deeds.hears piece)).outcome ≡ leaves (with_step_spent (taken_in g s.tenant piece q))
    (messages_heard (length (new_messages g.readings q.heard piece)))
hears-so g q s piece some sound free =
    hears-by g q s piece
    ∙ ap (λ b. heard_by g s.tenant piece q b (stream_fault g.readings q.heard)) some
    ∙ ap (hears_more g s.tenant piece q) (sym sound)
    ∙ ap (λ (b : Bool). held_by b) free
  where
    held_by : Bool → Outcome
    held_by b = if b then refuses Refusal.Held
        else leaves (with_step_spent (taken_in g s.tenant piece q))
        (messages_heard (length (new_messages g.readings q.heard piece)))

-- nothing has an empty length but the empty row
pub none-long : {A : Type 0} (xs : List A) → length xs ≡ 0 → xs ≡ []
none-long [] e = refl
none-long (x ∷ xs) e = absurd (cc)

-- the code behind a piece
pub does-hear : (g : Ground) (q : TenantState) (s : Store) (old new : Tenant) (piece : List ℕ) (count : ℕ)
    → StandsForState g old q s → (q.steps == 0) ≡ false → None ≡ stream_fault g.readings q.heard
    → is_held q ≡ false
    → new.retries ≡ old.retries → new.steps ≡ old.steps - 1
    → new.memory.bare ≡ old.memory.bare → new.memory.spaces ≡ old.memory.spaces
    → new.memory.cells ≡ old.memory.cells
    → new.attempts ≡ old.attempts
    → IsHeard g s.tenant q piece count new.decoder new.memory.sessions (actors_view new.actors)
    (waiting_bytes new.memory.outbox)
    → AcceptsDeed g (deed_result g s q (deeds.hears piece)) new (messages_heard count)
does-hear g q s old new piece count st some sound free tries less bare spaces cells tried heard =
    let after = taken_in g s.tenant piece q in
    let kept = taken-keeps g s.tenant piece q in
    let A : Attempts → Type 0 = λ x. Reaches x s in
    let stands : StandsForState g new (with_step_spent after) s = record {
      retries = tries ∙ st.retries;
      steps = less ∙ ap (λ n. n - 1) (st.steps ∙ sym kept.steps);
      stream = heard.reads.stands;
      actors = heard.holds.actors;
      remembers = record {
        sessions = heard.holds.sessions;
        bare = ap state_view bare ∙ st.remembers.bare ∙ sym kept.bare;
        spaces = ap namespaces_of spaces ∙ st.remembers.spaces ∙ sym kept.spaces;
        names = st.remembers.names ∙ ap shared_in (sym spaces);
        cells = ap cells_data cells ∙ st.remembers.cells ∙ sym kept.cells;
        replies = heard.holds.replies;
      };
      attempts = subst A (sym tried) st.attempts;
    } in
    record {
      after = with_step_spent after;
      accepted = hears-so g q s piece some sound free
          ∙ ap (λ n. leaves (with_step_spent after) (messages_heard n)) (sym heard.messages);
      stands = subst (StandsForState g new (with_step_spent after)) (sym (hears-none g q s piece)) stands;
    }

pub held-back : (g : Ground) (t : ℕ) (piece : List ℕ) (q : TenantState) → is_held q ≡ true
    → hears_more g t piece q None ≡ refuses Refusal.Held
held-back g t piece q held = ap (λ (b : Bool). held_by b) held where
  held_by : Bool → Outcome
  held_by b = if b then refuses Refusal.Held
      else leaves (with_step_spent (taken_in g t piece q))
      (messages_heard (length (new_messages g.readings q.heard piece)))
