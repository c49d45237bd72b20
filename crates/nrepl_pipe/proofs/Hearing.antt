-- What hearing a piece does, and when it is refused.
use Rattle.std.proofs.Common.{◌≡◌, ◌≢◌, ℕ, ◌==◌, Bool, true, false, List, [], ◌++◌, length, nat_le}
use Rattle.std.proofs.Common.{if◌then◌else◌, Option, Some, None, refl, sym, ap, ◌∙◌, subst}
use Rattle.bencode_wire.specs.declared.fault.WireFault.{WireFault}
use Rattle.repl_replies.specs.Replies.{ReplyData}
use Rattle.server_rules.specs.Ground.{Ground}
use Rattle.ref_table.specs.Store.{Store}
use Rattle.server_rules.specs.Tenant.{TenantState, is_held}
use Rattle.server_rules.specs.Hearing.{stream_fault, hears_more, hearing_plan}
use Rattle.server_rules.specs.Plan.{Outcome, refuses, leaves}
use Rattle.server_rules.specs.Plan.{bytes_in}
use Rattle.server_rules.specs.declared.refusal.Refusal.{Refusal}
use Rattle.server_rules.specs.DeedResult.{carried_out, deed_result}
use Rattle.server_rules.specs.Inside.Turned.{AcceptedWith}
use Rattle.server_rules.specs.LoneTurns.{LoneTenant, hears, LoneStepped, accepted, refused, lone_ended}
use Rattle.server_rules.specs.LoneTurns.{stepped_as, lone_step, lone_or, reply_taken, lone_after}
use Rattle.nrepl_pipe.specs.Inside.Fresh.{IsReady}
use Rattle.nrepl_pipe.proofs.Messages.{taken_in-heard}

-- Where the stream has no fault and no reply waits, a piece is refused at the end of the steps
-- alone. Where it is accepted its bytes are heard, and none are given.

-- as `IsReady`
abbrev ReadyIn : Ground → TenantState → Type 0
ReadyIn g q = (stream_fault g.readings q.heard ≡ None) × (q.replies ≡ [])

abbrev HeardSo : Ground → TenantState → List ℕ → Outcome → Type 0
HeardSo g q piece (refuses why) =
    ReadyIn g q → (why ≡ Refusal.Worn) × ((q.steps == 0) ≡ true)
HeardSo g q piece (leaves new answer) =
    (new.heard ≡ q.heard ++ piece) × (bytes_in answer ≡ [])

few-held : (q : TenantState) → q.replies ≡ [] → is_held q ≡ false
few-held q none = ap (λ (xs : List ReplyData). nat_le 1024 (length xs)) none

held-so : (g : Ground) (t : ℕ) (piece : List ℕ) (q : TenantState) (o : Outcome) (held : Bool)
    → is_held q ≡ held → HeardSo g q piece o
    → HeardSo g q piece (if held then refuses Refusal.Held else o)
held-so g t piece q o true is so = λ ready.
    let both : true ≡ false = sym is ∙ few-held q ready.1 in cc
held-so g t piece q o false is so = so

more-so : (g : Ground) (t : ℕ) (piece : List ℕ) (q : TenantState) (f : Option WireFault)
    → stream_fault g.readings q.heard ≡ f → HeardSo g q piece (hears_more g t piece q f)
more-so g t piece q (Some f) is = λ ready.
    let both : Some f ≡ None = sym is ∙ ready.0 in cc
more-so g t piece q None is =
    held-so g t piece q _ (is_held q) refl (taken_in-heard g t piece q, refl)

hearing-so : (g : Ground) (t : ℕ) (piece : List ℕ) (q : TenantState) (worn : Bool)
    → (q.steps == 0) ≡ worn → HeardSo g q piece (if worn then refuses Refusal.Worn
    else hears_more g t piece q (stream_fault g.readings q.heard))
hearing-so g t piece q true is = λ ready. (refl, is)
hearing-so g t piece q false is = more-so g t piece q (stream_fault g.readings q.heard) refl

-- The step

abbrev pub PieceSo : Ground → LoneTenant → List ℕ → LoneStepped → Type 0
PieceSo g l piece (refused why) =
    IsReady g l → (why ≡ Refusal.Worn) × ((l.state.steps == 0) ≡ true)
PieceSo g l piece (accepted new bytes) =
    (new.state.heard ≡ l.state.heard ++ piece) × (bytes ≡ [])

outcome-piece : (g : Ground) (l : LoneTenant) (s : Store) (piece : List ℕ) (o : Outcome)
    → HeardSo g l.state piece o → PieceSo g l piece (lone_ended s o)
outcome-piece g l s piece (refuses why) so = so
outcome-piece g l s piece (leaves new answer) so = so

lone_step-hears : (g : Ground) (l : LoneTenant) (piece : List ℕ) → lone_step g l (hears piece)
    ≡ stepped_as (carried_out l.store (hearing_plan g l.store.tenant piece l.state))
unfolding lone_step deed_result
lone_step-hears g l piece = refl

pub hears-so : (g : Ground) (l : LoneTenant) (piece : List ℕ)
    → PieceSo g l piece (lone_step g l (hears piece))
hears-so g l piece =
    let d = carried_out l.store (hearing_plan g l.store.tenant piece l.state) in
    subst (PieceSo g l piece) (sym (lone_step-hears g l piece))
    (outcome-piece g l d.store piece d.outcome
    (hearing-so g l.store.tenant piece l.state (l.state.steps == 0) refl))

-- The code was refused

pub refused-worn : (g : Ground) (l : LoneTenant) (piece : List ℕ) (why : Refusal) → IsReady g l
    → lone_step g l (hears piece) ≡ refused why
    → (lone_step g l (hears piece) ≡ refused Refusal.Worn) × ((l.state.steps == 0) ≡ true)
refused-worn g l piece why ready is =
    let so : PieceSo g l piece (refused why) = subst (PieceSo g l piece) is (hears-so g l piece) in
    (is ∙ ap refused (so ready).0, (so ready).1)

-- The code heard it

-- the piece was taken in
pub record TakesIn (g : Ground) (Stands : LoneTenant → Type 0) (l : LoneTenant) (piece : List ℕ)
    : Type 0 where
  pub stands : Stands (lone_after g l (hears piece))
  pub gives : reply_taken (lone_step g l (hears piece)) ≡ []
  pub not_worn : lone_step g l (hears piece) ≢ refused Refusal.Worn
  pub heard : (lone_after g l (hears piece)).state.heard ≡ l.state.heard ++ piece

takes-in_by : (g : Ground) (Stands : LoneTenant → Type 0) (l : LoneTenant) (piece : List ℕ) (s : LoneStepped)
    → lone_step g l (hears piece) ≡ s → PieceSo g l piece s → AcceptedWith Stands s
    → TakesIn g Stands l piece
takes-in_by g Stands l piece (accepted new bytes) is so stands =
    let same : lone_after g l (hears piece) ≡ new = ap (lone_or l) is in
    record {
      stands = subst Stands (sym same) stands;
      gives = ap reply_taken is ∙ so.1;
      not_worn = λ (worn : lone_step g l (hears piece) ≡ refused Refusal.Worn).
          let both : accepted new bytes ≡ refused Refusal.Worn = sym is ∙ worn in cc;
      heard = ap (λ (v : LoneTenant). v.state.heard) same ∙ so.0;
    }
takes-in_by g Stands l piece (refused why) is so never = absurd never

pub takes-in : (g : Ground) (Stands : LoneTenant → Type 0) (l : LoneTenant) (piece : List ℕ)
    → AcceptedWith Stands (lone_step g l (hears piece)) → TakesIn g Stands l piece
takes-in g Stands l piece stands =
    takes-in_by g Stands l piece (lone_step g l (hears piece)) refl (hears-so g l piece) stands
