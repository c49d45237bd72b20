-- The forms that run, through what a tenant hears.
use Rattle.std.proofs.Common.{◌≡◌, ◌==◌, ℕ, List, [], ◌∷◌, ◌++◌, Bool, true, false, Option, Some}
use Rattle.std.proofs.Common.{None, option_and_then, Result, Ok, Err, refl, sym, ap, ◌∙◌}
use Rattle.std.proofs.lemmas.Bool.{eqb-true, eqb-false, eq-eqb, ne_eqb}
use Rattle.bencode_wire.specs.Tree.{Tree, integer, string, list, dictionary}
use Rattle.repl_sessions.specs.Named.{number_named}
use Rattle.repl_replies.specs.Operations as operations
use Rattle.repl_replies.specs.Operations.{AskedData, OperationData}
use Rattle.repl_replies.specs.Replies.{OriginData, ReplyData}
use Rattle.server_rules.specs.Ground.{Ground}
use Rattle.server_rules.specs.Hearing.{with_messages, new_messages, taken_in}
use Rattle.ref_table.specs.Numbered.{Entry, entry, part_under, with_part, without}
use Rattle.server_rules.specs.Operating.{named_sessions, closed_by, with_vacated_seat, asker}
use Rattle.server_rules.specs.Operating.{queued_for, after_operation, with_asked, with_message}
use Rattle.server_rules.specs.Request.{Waiting, WorkInHand, Run}
use Rattle.server_rules.specs.Tenant.{ActorData, unoccupied, seat_of, TenantState}
use Rattle.server_rules.specs.declared.actor.Actor.{Actor}
use Rattle.tenant_parts.proofs.EntryLaws.{found_first, replaced_first, without_first}
use Rattle.tenant_world.specs.Running.{running_of, running_in}

abbrev pub runs_at : ℕ → List (Entry ActorData) → Option Run
runs_at m es = running_of (part_under m es)

-- what is found where one is put in place of another
pub part_under-put : {A : Type 0} (m n : ℕ) (x y : A) (es : List (Entry A)) → part_under n es ≡ Some y
    → (m ≡ n → part_under m (with_part n x es) ≡ Some x)
    × ((m ≡ n → ⊥) → part_under m (with_part n x es) ≡ part_under m es)
part_under-put m n x y [] never = absurd (cc)
part_under-put {A} m n x y (e ∷ es) there = by (λ h. part_under-put m n x y es h) (n == e.number) refl there
  where
    by : (part_under n es ≡ Some y → (m ≡ n → part_under m (with_part n x es) ≡ Some x)
        × ((m ≡ n → ⊥) → part_under m (with_part n x es) ≡ part_under m es))
        → (b : Bool) → (n == e.number) ≡ b → found_first b e.part (part_under n es) ≡ Some y
        → (m ≡ n → part_under m (replaced_first b n x e es) ≡ Some x)
        × ((m ≡ n → ⊥) → part_under m (replaced_first b n x e es)
        ≡ found_first (m == e.number) e.part (part_under m es))
    by behind true same h = (
      λ is. ap (λ (b : Bool). found_first b x (part_under m es)) (eq-eqb m n is),
      λ apart. ap (λ (b : Bool). found_first b x (part_under m es)) (ne_eqb m n apart)
          ∙ sym (ap (λ (b : Bool). found_first b e.part (part_under m es))
          (ap (λ k. m == k) (sym (eqb-true n e.number same)) ∙ ne_eqb m n apart)),
    )
    by behind false other h = (
      λ is. ap (λ (b : Bool). found_first b e.part (part_under m (with_part n x es)))
          (ap (λ k. k == e.number) is ∙ other) ∙ (behind h).0 is,
      λ apart. ap (λ it. found_first (m == e.number) e.part it) ((behind h).1 apart),
    )

part_under-gone : {A : Type 0} (n : ℕ) (es : List (Entry A)) → part_under n (without n es) ≡ None
part_under-gone n [] = refl
part_under-gone {A} n (e ∷ es) = by (part_under-gone n es) (n == e.number) refl
  where
    by : part_under n (without n es) ≡ None → (b : Bool) → (n == e.number) ≡ b
        → part_under n (without_first b e (without n es)) ≡ None
    by behind true same = behind
    by behind false other =
        ap (λ (b : Bool). found_first b e.part (part_under n (without n es))) other ∙ behind

part_under-kept : {A : Type 0} (m n : ℕ) (es : List (Entry A)) → (m ≡ n → ⊥)
    → part_under m (without n es) ≡ part_under m es
part_under-kept m n [] apart = refl
part_under-kept {A} m n (e ∷ es) apart = by (part_under-kept m n es apart) (n == e.number) refl
  where
    by : part_under m (without n es) ≡ part_under m es → (b : Bool) → (n == e.number) ≡ b
        → part_under m (without_first b e (without n es))
        ≡ found_first (m == e.number) e.part (part_under m es)
    by behind true same = behind
        ∙ sym (ap (λ (b : Bool). found_first b e.part (part_under m es))
        (ap (λ k. m == k) (sym (eqb-true n e.number same)) ∙ ne_eqb m n apart))
    by behind false other = ap (λ it. found_first (m == e.number) e.part it) behind

-- an actor that is changed, and runs what it ran
put-runs : (m n : ℕ) (x y : ActorData) (es : List (Entry ActorData)) → part_under n es ≡ Some y
    → running_of (Some x) ≡ running_of (Some y) → runs_at m (with_part n x es) ≡ runs_at m es
put-runs m n x y es there same = by (m == n) refl
  where
    by : (b : Bool) → (m == n) ≡ b → runs_at m (with_part n x es) ≡ runs_at m es
    by true is =
        let equal = eqb-true m n is in
        ap running_of ((part_under-put m n x y es there).0 equal) ∙ same
        ∙ sym (ap running_of (ap (λ k. part_under k es) equal ∙ there))
    by false apart = ap running_of ((part_under-put m n x y es there).1 (eqb-false m n apart))

-- an actor that goes, and ran nothing
gone-runs : (m n : ℕ) (y : ActorData) (es : List (Entry ActorData)) → part_under n es ≡ Some y
    → running_of (Some y) ≡ None → runs_at m (without n es) ≡ runs_at m es
gone-runs m n y es there none = by (m == n) refl
  where
    by : (b : Bool) → (m == n) ≡ b → runs_at m (without n es) ≡ runs_at m es
    by true is =
        let equal = eqb-true m n is in
        ap running_of (ap (λ k. part_under k (without n es)) equal ∙ part_under-gone n es)
        ∙ sym (ap running_of (ap (λ k. part_under k es) equal ∙ there) ∙ none)
    by false apart = ap running_of (part_under-kept m n es (eqb-false m n apart))

-- an actor that comes
come-runs : (m n : ℕ) (es : List (Entry ActorData))
    → runs_at m (es ++ entry n unoccupied ∷ []) ≡ runs_at m es
come-runs m n [] = by (m == n)
  where
    by : (b : Bool) → running_of (found_first b unoccupied None) ≡ None
    by true = refl
    by false = refl
come-runs m n (e ∷ es) = by (come-runs m n es) (m == e.number)
  where
    by : runs_at m (es ++ entry n unoccupied ∷ []) ≡ runs_at m es → (b : Bool)
        → running_of (found_first b e.part (part_under m (es ++ entry n unoccupied ∷ [])))
        ≡ running_of (found_first b e.part (part_under m es))
    by behind true = refl
    by behind false = behind

with_vacated_seat-runs : (m n : ℕ) (y : ActorData) (es : List (Entry ActorData)) → part_under n es ≡ Some y
    → (h : Option WorkInHand) → y.hand ≡ h → runs_at m (with_vacated_seat n h es) ≡ runs_at m es
with_vacated_seat-runs m n y es there None is = gone-runs m n y es there
    (ap (option_and_then (λ h. h.running)) is)
with_vacated_seat-runs m n y es there (Some h) is =
    put-runs m n (record { waiting = []; hand = Some h; is_closed = true }) y es there
    (sym (ap (option_and_then (λ h. h.running)) is))

closed-runs : (m : ℕ) (o : OriginData) (n : ℕ) (q : TenantState) (found_actor : Option ActorData)
    → part_under (seat_of (Actor.Session n)) q.actors ≡ found_actor
    → runs_at m (closed_by o n q found_actor).actors ≡ runs_at m q.actors
closed-runs m o n q None is = refl
closed-runs m o n q (Some y) is =
    with_vacated_seat-runs m (seat_of (Actor.Session n)) y q.actors is y.hand refl

queued-runs : (m : ℕ) (a : Actor) (w : Waiting) (q : TenantState) (found_actor : Option ActorData)
    → part_under (seat_of a) q.actors ≡ found_actor
    → runs_at m (queued_for a w q found_actor).actors ≡ runs_at m q.actors
queued-runs m a w q None is = refl
queued-runs m a w q (Some y) is =
    put-runs m (seat_of a) (record y { waiting = y.waiting ++ w ∷ [] }) y q.actors is refl

after_operation-runs : (g : Ground) (t m : ℕ) (o : OriginData) (op : OperationData) (q : TenantState)
    → runs_at m (after_operation g t o op q).actors ≡ runs_at m q.actors
after_operation-runs g t m o (operations.clone original) q =
    come-runs m (seat_of (Actor.Session q.sessions.opened)) q.actors
after_operation-runs g t m o (operations.close n) q = closed-runs m o n q _ refl
after_operation-runs g t m o (operations.describe session) q = refl
after_operation-runs g t m o (operations.list_sessions session) q = refl
after_operation-runs g t m o (operations.eval session text ns) q =
    queued-runs m (asker session) _ q _ refl
after_operation-runs g t m o (operations.load_file session text) q =
    queued-runs m (asker session) _ q _ refl

asked-runs : (g : Ground) (t m : ℕ) (r : Result AskedData ReplyData) (q : TenantState)
    → runs_at m (with_asked g t r q).actors ≡ runs_at m q.actors
asked-runs g t m (Ok a) q = after_operation-runs g t m a.origin a.operation q
asked-runs g t m (Err refusal) q = refl

message-runs : (g : Ground) (t m : ℕ) (message : Tree) (q : TenantState)
    → runs_at m (with_message g t message q).actors ≡ runs_at m q.actors
unfolding with_message
message-runs g t m (dictionary fields) q =
    asked-runs g t m (operations.operation_or_reply (number_named (named_sessions g t q)) fields) q
message-runs g t m (integer n) q = refl
message-runs g t m (string bytes) q = refl
message-runs g t m (list ts) q = refl

messages-runs : (g : Ground) (t m : ℕ) (ms : List Tree) (q : TenantState)
    → runs_at m (with_messages g t ms q).actors ≡ runs_at m q.actors
messages-runs g t m [] q = refl
messages-runs g t m (message ∷ ms) q =
    messages-runs g t m ms (with_message g t message q) ∙ message-runs g t m message q

-- what an actor runs, it runs behind a piece
pub heard-runs : (g : Ground) (t : ℕ) (piece : List ℕ) (q : TenantState) (a : Actor)
    → running_in a (taken_in g t piece q) ≡ running_in a q
unfolding taken_in
heard-runs g t piece q a =
    messages-runs g t (seat_of a) (new_messages g.readings q.heard piece)
    (record q { heard = q.heard ++ piece })
