-- What a piece makes of a tenant's parts, and how many messages became whole with it.
use Rattle.std.specs.Prelude.{◌≡◌, ℕ, List, [], None, Result, IfOk, OnErr, length}
use Rattle.bencode_wire.specs.Inside.Decoder.{ready_of, fault_of}
use Rattle.bencode_wire.specs.declared.decoder.Decoder.{Decoder}
use Rattle.repl_sessions.specs.Named.{NamedSessions}
use Rattle.server_rules.specs.Ground.{Ground}
use Rattle.server_rules.specs.Hearing.{new_messages, taken_in}
use Rattle.server_rules.specs.Readings.{AreRight}
use Rattle.ref_table.specs.Numbered.{Entry}
use Rattle.server_rules.specs.Tenant.{ActorData, TenantState}
use Rattle.tenant_parts.specs.View.{actors_view}
use Rattle.tenant_parts.specs.Replies.{waiting_bytes}
use Rattle.tenant_parts.specs.declared.actors.Actors.{Actors}
use Rattle.tenant_parts.specs.declared.outbox.Outbox.{Outbox}
use Rattle.tenant_moves.specs.Holds.{PartsStandFor, AreSeated}
use Rattle.tenant_moves.specs.HasReadAll.{HasReadAll}

pub record IsHeard (g : Ground) (t : ℕ) (q : TenantState) (piece : List ℕ) (count : ℕ)
    (d : Decoder) (s : NamedSessions) (es : List (Entry ActorData)) (waiting : List (List ℕ))
    : Type 0 where
  pub messages : count ≡ length (new_messages g.readings q.heard piece)
  pub reads : HasReadAll g (taken_in g t piece q).heard d
  pub holds : PartsStandFor g t (taken_in g t piece q) s es waiting

-- the parts of a tenant that a piece changes, beside its decoder
pub record HearingParts : Type 0 where
  pub sessions : NamedSessions
  pub actors : List (Entry ActorData)
  pub waiting : List (List ℕ)

abbrev pub parts_of : NamedSessions → Actors → Outbox → HearingParts
parts_of sessions actors outbox = record {
  sessions = sessions;
  actors = actors_view actors;
  waiting = waiting_bytes outbox;
}

-- a decoder that met no fault, whose messages are all taken, and the parts of a tenant
pub record CanHear (d : Decoder) (p : HearingParts) : Type 0 where
  pub ready : ready_of d ≡ []
  pub sound : fault_of d ≡ None
  pub seated : AreSeated p.sessions p.actors

-- whatever tenant they are of, they are behind the piece as the rules have it
abbrev pub HearsPiece : {E : Type 0} → List ℕ → Decoder → HearingParts → Result ℕ E → Decoder → HearingParts → Type 0
HearsPiece piece d p result new after = (g : Ground) (t : ℕ) (q : TenantState) → AreRight g.readings
    → HasReadAll g q.heard d → PartsStandFor g t q p.sessions p.actors p.waiting
    → IfOk result (λ count. IsHeard g t q piece count new after.sessions after.actors after.waiting)

-- where it fails the decoder has read what it had, and the parts are as they were
abbrev pub HearsNothing : {E : Type 0} → Decoder → HearingParts → Result ℕ E → Decoder → HearingParts → Type 0
HearsNothing d p result new after = OnErr result
    (((g : Ground) (bytes : List ℕ) → HasReadAll g bytes d → HasReadAll g bytes new) × (after ≡ p))
