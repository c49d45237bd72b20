-- How the code is told that a stream ends.
use Rattle.std.proofs.Common.{◌≡◌, ℕ, inl, inr, List, [], ◌∷◌, ◌++◌, refl, sym, ap, ◌∙◌, subst}
use Rattle.std.proofs.Common.{Option, None}
use Rattle.std.specs.Io.KnownBytes.{IsAtEnd}
use Rattle.bencode_wire.specs.Stream.{StreamEnding, rest, fault}
use Rattle.bencode_wire.specs.Fault.{counted_place, fault_at}
use Rattle.bencode_wire.specs.declared.fault.WireFault.{WireFault}
use Rattle.server_rules.specs.Ground.{Ground}
use Rattle.server_rules.specs.Hearing.{fault_in}
use Rattle.server_rules.specs.LoneTurns.{LoneTenant, hears, lone_after, lone_run}
use Rattle.server_rules.specs.Inside.Wires.{wire_at}
use Rattle.server_rules.specs.declared.turns.Wire.{Wire}
use Rattle.nrepl_pipe.specs.Schedule.{stream_end}
use Rattle.nrepl_pipe.specs.Served.{IsReadUp}
use Rattle.nrepl_pipe.specs.Inside.Parts.{MakesRounds}
use Rattle.nrepl_pipe.specs.declared.rounds.Rounds.{Rounds}
use Rattle.nrepl_pipe.specs.declared.ends.PipeEnd.{PipeEnd}
use Rattle.nrepl_pipe.proofs.Hearing.{TakesIn}
use Rattle.nrepl_pipe.proofs.Lasting.{rounds-heard}
use Rattle.nrepl_pipe.proofs.Serving.{heard-never_worn}
use Rattle.nrepl_pipe.proofs.Ending.{EndsWith}

pub read-up : (end : PipeEnd) (left : Option (List ℕ)) → IsAtEnd left → IsReadUp end left
read-up PipeEnd.Whole left at = at
read-up PipeEnd.Truncated left at = at
read-up (PipeEnd.Broken f) left at = tt
read-up PipeEnd.Worn left at = tt

pub broken-read_up : (f : WireFault) (ending : StreamEnding) (end : PipeEnd) (left : Option (List ℕ))
    → Wire.Broken f ≡ wire_at ending → end ≡ stream_end ending → IsReadUp end left
broken-read_up f (rest []) end left told is = cc
broken-read_up f (rest (byte ∷ m)) end left told is = cc
broken-read_up f (fault rule at) end left told is =
    subst (λ (e : PipeEnd). IsReadUp e left) (sym is) tt

pub wire-clean : (wire : Wire) (end : StreamEnding) → wire ≡ wire_at end
    → ((f : WireFault) → wire ≡ Wire.Broken f → ⊥) → fault_in end ≡ None
wire-clean wire (rest m) e never = refl
wire-clean wire (fault rule at) e never = absurd (never (fault_at rule (counted_place at)) e)

pub ends-worn : (g : Ground) (New : LoneTenant → Type 0) (now : LoneTenant) (held holds : Option (List ℕ))
    (piece : List ℕ)
    (made : MakesRounds g New (lone_after g now (hears piece)) held holds Rounds.Worn)
    → EndsWith g now piece (hears piece ∷ made.0) PipeEnd.Worn
ends-worn g New now held holds piece made = inl (inr made.3, refl)

pub ends-broken : (g : Ground) (Mid New : LoneTenant → Type 0) (now : LoneTenant)
    (held holds : Option (List ℕ)) (piece : List ℕ) (end : PipeEnd) → TakesIn g Mid now piece
    → (made : MakesRounds g New (lone_after g now (hears piece)) held holds Rounds.Idle)
    → end ≡ stream_end (g.readings.stream (lone_run g (lone_after g now (hears piece)) made.0).state.heard).ending
    → EndsWith g now piece (hears piece ∷ made.0) end
ends-broken g Mid New now held holds piece end taken made is =
    let v = lone_after g now (hears piece) in
    let heard : (lone_run g v made.0).state.heard ≡ now.state.heard ++ piece =
    rounds-heard g v made.0 made.1 ∙ taken.heard in
    inr (
      heard-never_worn g now piece made.0 taken.not_worn made.3,
      is ∙ ap (λ (bytes : List ℕ). stream_end (g.readings.stream bytes).ending) heard,
    )
