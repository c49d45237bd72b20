-- What the memory stands for, through changes of the tenant.
use Rattle.std.proofs.Common.{◌≡◌, ◌≤◌, ◌↔◌, ℕ, List, Bool, true, false, nat_le, refl, sym}
use Rattle.std.proofs.Common.{ap, subst, ◌∙◌, length, IsTrue, true≢false, Some, unwrap_or, Result}
use Rattle.std.proofs.Common.{Ok, Err, IfErr}
use Rattle.std.specs.Result.{IsErrAnd}
use Rattle.std.proofs.lemmas.Bool.{le-leb, leb-true}
use Rattle.std.proofs.lemmas.List.{length-map}
use Rattle.repl_replies.specs.Replies.{bytes_of}
use Rattle.ref_table.specs.Numbered.{Entry, with_part}
use Rattle.server_rules.specs.Cells.{CellsData}
use Rattle.server_rules.specs.Ground.{Ground}
use Rattle.server_rules.specs.Tenant.{ActorData, TenantState, seat_of, is_held, with_replies, with_state}
use Rattle.server_rules.specs.Moves.{Move}
use Rattle.server_rules.specs.Starting.{after_move}
use Rattle.server_rules.specs.Plan.{StepAnswer, Outcome, leaves, with_step_spent}
use Rattle.server_rules.specs.declared.actor.Actor.{Actor}
use Rattle.server_rules.specs.declared.refusal.Refusal.{Refusal}
use Rattle.tenant_parts.specs.Replies.{waiting_bytes}
use Rattle.tenant_asks.specs.declared.memory.Remembered.{Remembered}
use Rattle.tenant_asks.specs.Memories.{Remembers, opened_by}
use Rattle.tenant_asks.specs.Acting.{AcceptsOutcome, RefusesOutcome, actors_after, is_interruption}
use Rattle.tenant_asks.specs.Acting.{IsActorStep}

-- the actors are no part of it
pub with-actors : (g : Ground) (t : ℕ) (m : Remembered) (q : TenantState) (es : List (Entry ActorData))
    → Remembers g t m q → Remembers g t m (record q { actors = es })
with-actors g t m q es r = record {
  sessions = r.sessions;
  bare = r.bare;
  spaces = r.spaces;
  names = r.names;
  cells = r.cells;
  replies = r.replies;
}

-- what a move makes of the memory
pub remembers-after_move : (g : Ground) (t : ℕ) (m : Remembered) (a : Actor) (actor : ActorData) (move : Move)
    (q : TenantState) → Remembers g t m (with_replies move.replies (with_state a move.state q))
    → Remembers g t m (after_move a actor move q)
remembers-after_move g t m Actor.Agents actor move q r = record {
  sessions = r.sessions;
  bare = r.bare;
  spaces = r.spaces;
  names = r.names;
  cells = r.cells;
  replies = r.replies;
}
remembers-after_move g t m Actor.Bare actor move q r = record {
  sessions = r.sessions;
  bare = r.bare;
  spaces = r.spaces;
  names = r.names;
  cells = r.cells;
  replies = r.replies;
}
remembers-after_move g t m (Actor.Session n) actor move q r = record {
  sessions = r.sessions;
  bare = r.bare;
  spaces = r.spaces;
  names = r.names;
  cells = r.cells;
  replies = r.replies;
}

after_move-actors : (a : Actor) (actor : ActorData) (move : Move) (q : TenantState)
    → (after_move a actor move q).actors
    ≡ with_part (seat_of a) (record actor { hand = move.hand }) q.actors
after_move-actors Actor.Agents actor move q = refl
after_move-actors Actor.Bare actor move q = refl
after_move-actors (Actor.Session n) actor move q = refl

after_move-steps : (a : Actor) (actor : ActorData) (move : Move) (q : TenantState)
    → (after_move a actor move q).steps ≡ q.steps
after_move-steps Actor.Agents actor move q = refl
after_move-steps Actor.Bare actor move q = refl
after_move-steps (Actor.Session n) actor move q = refl

after_move-heard : (a : Actor) (actor : ActorData) (move : Move) (q : TenantState)
    → (after_move a actor move q).heard ≡ q.heard
after_move-heard Actor.Agents actor move q = refl
after_move-heard Actor.Bare actor move q = refl
after_move-heard (Actor.Session n) actor move q = refl

-- a step that is a move
pub acted-after_move : (g : Ground) (t : ℕ) (m : Remembered) (a : Actor) (actor new : ActorData)
    (move : Move) (answer : StepAnswer) (q : TenantState)
    → Remembers g t m (with_replies move.replies (with_state a move.state q))
    → new ≡ record actor { hand = move.hand } → is_interruption answer ≡ false
    → AcceptsOutcome g t a q (leaves (with_step_spent (after_move a actor move q)) answer) m new answer
acted-after_move g t m a actor new move answer q r same stays = record {
  after = after_move a actor move q;
  accepted = refl;
  remembers = remembers-after_move g t m a actor move q r;
  actors = after_move-actors a actor move q
      ∙ ap (λ it. with_part (seat_of a) it q.actors) (sym same)
      ∙ ap (λ b. actors_after b a new q.actors) (sym stays);
  steps = after_move-steps a actor move q;
  heard = after_move-heard a actor move q;
}

-- a step that began with other agents and atoms
pub acted-with_cells : (g : Ground) (t : ℕ) (m : Remembered) (a : Actor) (new : ActorData) (outcome : Outcome)
    (answer : StepAnswer) (c : CellsData) (q : TenantState)
    → AcceptsOutcome g t a (record q { cells = c }) outcome m new answer
    → AcceptsOutcome g t a q outcome m new answer
acted-with_cells g t m a new outcome answer c q it = record {
  after = it.after;
  accepted = it.accepted;
  remembers = it.remembers;
  actors = it.actors;
  steps = it.steps;
  heard = it.heard;
}

-- as many replies wait in the code
pub held-so : (g : Ground) (t : ℕ) (m : Remembered) (q : TenantState) (b : Bool) → Remembers g t m q
    → (IsTrue b ↔ (1024 ≤ length (waiting_bytes m.outbox))) → is_held q ≡ b
held-so g t m q b r told =
    let many : length (waiting_bytes m.outbox) ≡ length q.replies =
    ap length r.replies ∙ length-map q.replies bytes_of in
    by b (subst (λ n. IsTrue b ↔ (1024 ≤ n)) many told)
  where
    by : (b : Bool) → (IsTrue b ↔ (1024 ≤ length q.replies)) → nat_le 1024 (length q.replies) ≡ b
    by true told = le-leb 1024 (length q.replies) (told.0 refl)
    by false told = apart (nat_le 1024 (length q.replies)) refl told where
      apart : (c : Bool) → nat_le 1024 (length q.replies) ≡ c
          → (IsTrue false ↔ (1024 ≤ length q.replies)) → c ≡ false
      apart true so told = absurd (true≢false (sym (told.1 (leb-true 1024 (length q.replies) so))))
      apart false so told = refl

pub some-same : {A : Type 0} (a b : A) → Some a ≡ Some b → a ≡ b
some-same a b e = ap (λ o. unwrap_or o a) e

-- where memory was wanted, the actor and the sessions are as they were
pub step-without-memory : {A : Type 0} (old new : Remembered) (before after : ActorData)
    (r : Result A Refusal) → IsErrAnd r (λ e. e ≡ Refusal.NoMemory) → after ≡ before
    → opened_by new ≡ opened_by old → IsActorStep old new before after r
step-without-memory old new before after (Ok x) never same opened = absurd never
step-without-memory old new before after (Err e) is same opened = record {
  stays = same;
  opened = opened;
  held = λ held. let never : Refusal.NoMemory ≡ Refusal.Held = cc in absurd (cc);
}

-- for want of memory nothing is said of the rules
pub declined-memory : {A : Type 0} (g : Ground) (t : ℕ) (q : TenantState) (outcome : Outcome) (m : Remembered)
    (r : Result A Refusal) → IsErrAnd r (λ e. e ≡ Refusal.NoMemory) → Remembers g t m q
    → IfErr r (RefusesOutcome g t q outcome m)
declined-memory g t q outcome m (Ok x) never remembers = tt
declined-memory g t q outcome m (Err e) is remembers =
    record { refused = λ ne. absurd (ne is); remembers = remembers }

pub declined-memory-with : {A : Type 0} (g : Ground) (t : ℕ) (q : TenantState) (outcome : Outcome)
    (m : Remembered) (r : Result A Refusal) (P : Type 0) → IsErrAnd r (λ e. e ≡ Refusal.NoMemory)
    → Remembers g t m q → P → IfErr r (λ why. RefusesOutcome g t q outcome m why × P)
declined-memory-with g t q outcome m (Ok x) P never remembers p = tt
declined-memory-with g t q outcome m (Err e) P is remembers p =
    (record { refused = λ ne. absurd (ne is); remembers = remembers }, p)
