-- What the memory stands for, where a state is put in or a request is interrupted.
use Rattle.std.proofs.Common.{◌≡◌, ℕ, List, [], ◌∷◌, refl, sym, ◌∙◌, Result, Ok, Err}
use Rattle.std.specs.Result.{IsErrAnd}
use Rattle.repl_replies.specs.Replies.{ReplyData, interrupted}
use Rattle.repl_sessions.specs.State.{StateData}
use Rattle.ref_table.specs.Numbered.{without}
use Rattle.server_rules.specs.Ground.{Ground}
use Rattle.server_rules.specs.Request.{WorkInHand}
use Rattle.server_rules.specs.Tenant.{ActorData, TenantState, seat_of, with_replies, with_state}
use Rattle.server_rules.specs.Starting.{interrupted_in}
use Rattle.server_rules.specs.Replying.{reply}
use Rattle.server_rules.specs.Plan.{request_interrupted}
use Rattle.server_rules.specs.declared.actor.Actor.{Actor}
use Rattle.server_rules.specs.declared.refusal.Refusal.{Refusal}
use Rattle.tenant_asks.specs.declared.memory.Remembered.{Remembered}
use Rattle.tenant_asks.specs.Memories.{Remembers}
use Rattle.tenant_asks.specs.Acting.{AcceptsOutcome}

pub replies-behind-state : (a : Actor) (s : StateData) (r : List ReplyData) (q : TenantState)
    → with_state a s (with_replies r q) ≡ with_replies r (with_state a s q)
replies-behind-state Actor.Agents s r q = refl
replies-behind-state Actor.Bare s r q = refl
replies-behind-state (Actor.Session n) s r q = refl

-- the request of an actor is interrupted
pub acted-interrupted : (g : Ground) (t : ℕ) (m : Remembered) (a : Actor) (new : ActorData) (h : WorkInHand)
    (q : TenantState) → Remembers g t m (with_replies (reply h.origin interrupted ∷ []) q)
    → AcceptsOutcome g t a q (interrupted_in a h q) m new request_interrupted
acted-interrupted g t m a new h q r = record {
  after = with_replies (reply h.origin interrupted ∷ [])
      (record q { actors = without (seat_of a) q.actors });
  accepted = refl;
  remembers = record {
    sessions = r.sessions;
    bare = r.bare;
    spaces = r.spaces;
    names = r.names;
    cells = r.cells;
    replies = r.replies;
  };
  actors = refl;
  steps = refl;
  heard = refl;
}

-- the refusal that is handed on was for want of memory
pub wanted-memory : {X : Type 0} (why : Refusal) (r : Result X Refusal) → IsErrAnd r (λ e. e ≡ why)
    → r ≡ Err Refusal.NoMemory → why ≡ Refusal.NoMemory
wanted-memory why (Ok x) never none = absurd never
wanted-memory why (Err e) is none = let same : e ≡ Refusal.NoMemory = cc in sym is ∙ same
