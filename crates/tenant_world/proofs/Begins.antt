-- A form that begins, and a request that is taken up, beside the rules' steps.
use Rattle.std.proofs.Common.{◌≡◌, ℕ, List, [], ◌∷◌, Bool, true, false, Option, None, Some, refl}
use Rattle.std.proofs.Common.{sym, ap, subst, ◌∙◌, if◌then◌else◌, is_some, option_map, true≢false}
use Rattle.repl_asks.specs.declared.job.Job.{Job}
use Rattle.server_rules.specs.Ground.{Ground}
use Rattle.server_rules.specs.Request.{WorkInHand, Waiting}
use Rattle.server_rules.specs.Tenant.{ActorData, TenantState, is_held, actor_state, with_replies, with_state}
use Rattle.server_rules.specs.Starting.{Started, start_outcome, held_or, next_begun, first_state}
use Rattle.server_rules.specs.Starting.{text_begun, start_waiting, start_in_hand, interrupted_in}
use Rattle.server_rules.specs.Starting.{after_move}
use Rattle.server_rules.specs.Deeds.{start_of}
use Rattle.server_rules.specs.Plan.{Outcome, refuses, leaves, with_step_spent}
use Rattle.server_rules.specs.declared.actor.Actor.{Actor}
use Rattle.server_rules.specs.declared.refusal.Refusal.{Refusal}
use Rattle.tenant_moves.specs.Starts.{answer_given}
use Rattle.tenant_asks.specs.declared.memory.Remembered.{Remembered}
use Rattle.tenant_asks.specs.Memories.{Remembers}
use Rattle.tenant_asks.specs.Acting.{AcceptsOutcome, is_accepted, is_interruption}
use Rattle.tenant_world.specs.Acting.{oldest, younger}
use Rattle.tenant_world.proofs.Remembering.{acted-after_move, some-same}

-- what is given out is no interruption
pub given-stays : (given : Option Job) → is_interruption (answer_given given) ≡ false
given-stays None = refl
given-stays (Some job) = refl

pub not-held : (q : TenantState) (outcome : Outcome) → is_held q ≡ false → held_or q outcome ≡ outcome
not-held q outcome free = ap (λ (b : Bool). held_by b) free where
  held_by : Bool → Outcome
  held_by b = if b then refuses Refusal.Held else outcome

-- a start is accepted, where not too many replies wait
pub accepted-start_outcome : (a : Actor) (actor : ActorData) (s : Started) (q : TenantState)
    → is_held q ≡ false → is_accepted (held_or q (start_outcome a actor s q)) ≡ true
accepted-start_outcome a actor s q free =
    ap is_accepted (not-held q (start_outcome a actor s q) free)

-- what comes of it
pub acted-start_outcome : (g : Ground) (t : ℕ) (m : Remembered) (a : Actor) (actor new : ActorData) (s : Started)
    (q : TenantState) (given : Option Job)
    → is_held q ≡ false
    → Remembers g t m (with_replies s.move.replies (with_state a s.move.state q))
    → new ≡ record actor { hand = s.move.hand } → answer_given given ≡ s.answer
    → AcceptsOutcome g t a q (held_or q (start_outcome a actor s q)) m new (answer_given given)
acted-start_outcome g t m a actor new s q given free r same told =
    subst (λ outcome. AcceptsOutcome g t a q outcome m new (answer_given given))
    (ap (leaves (with_step_spent (after_move a actor s.move q))) told
    ∙ sym (not-held q (start_outcome a actor s q) free))
    (acted-after_move g t m a actor new s.move (answer_given given) q r same (given-stays given))

-- the request that waits longest is taken up
pub waiting-taken : (g : Ground) (a : Actor) (actor : ActorData) (q : TenantState) (w : Waiting)
    (waiting : List Waiting) → oldest waiting ≡ Some w
    → held_or q (start_outcome a (record actor { waiting = younger waiting })
    (text_begun g q.spaces w.origin (first_state a q) w.text) q)
    ≡ start_waiting g a actor q waiting
waiting-taken g a actor q w [] none = absurd (cc)
waiting-taken g a actor q w (v ∷ vs) some =
    ap (λ it. held_or q (start_outcome a (record actor { waiting = vs })
    (text_begun g q.spaces it.origin (first_state a q) it.text) q)) (sym (some-same v w some))

pub waiting-accepted : (g : Ground) (a : Actor) (actor : ActorData) (q : TenantState) (w : Waiting)
    (waiting : List Waiting) → oldest waiting ≡ Some w → is_held q ≡ false
    → is_accepted (start_waiting g a actor q waiting) ≡ true
waiting-accepted g a actor q w waiting some free =
    sym (ap is_accepted (waiting-taken g a actor q w waiting some))
    ∙ accepted-start_outcome a (record actor { waiting = younger waiting })
    (text_begun g q.spaces w.origin (first_state a q) w.text) q free

pub none-mapped : {A B : Type 0} (f : A → B) (r : Option A) → is_some r ≡ false
    → option_map f r ≡ None
none-mapped f None none = refl
none-mapped f (Some x) some = absurd (true≢false some)

-- between two forms the next begins, unless the session was closed
abbrev pub between_forms : Ground → Actor → ActorData → TenantState → WorkInHand → Bool → Outcome
between_forms g a actor q k b = if b then interrupted_in a k q
    else held_or q (start_outcome a actor (next_begun g k (actor_state a q) k.forms) q)

pub start-between : (g : Ground) (a : Actor) (actor : ActorData) (q : TenantState) (h : Option WorkInHand)
    (k : WorkInHand) (b : Bool) → h ≡ Some k → k.running ≡ None → actor.is_closed ≡ b
    → between_forms g a actor q k b ≡ start_of g a actor q h
start-between g a actor q h k b is between closed = sym (
    ap (start_of g a actor q) is
    ∙ ap (λ r. start_in_hand g a actor k q (is_some r)) between
    ∙ ap (λ (b : Bool). between_forms g a actor q k b) closed)
