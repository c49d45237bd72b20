-- What has come of the stream.
use Rattle.std.proofs.Common.{◌≡◌, ℕ, List, [], ◌∷◌, ◌++◌, Bool, true, false, Option, None, Some}
use Rattle.std.proofs.Common.{refl, sym, ap, subst, ◌∙◌, true≢false, length, arith}
use Rattle.bencode_wire.specs.Tree.{Tree}
use Rattle.bencode_wire.specs.Stream.{StreamEnding, rest, fault, Streams}
use Rattle.bencode_wire.specs.Inside.Decoder as decoder
use Rattle.bencode_wire.specs.Inside.Decoder.{held_of, rest_size, bytes_read, fault_of, ready_of, Shows}
use Rattle.bencode_wire.specs.Inside.Cut.{Cut}
use Rattle.bencode_wire.specs.declared.decoder.Decoder.{Decoder}
use Rattle.bencode_wire.specs.declared.fault.WireFault.{WireFault}
use Rattle.server_rules.specs.Readings.{Readings, AreRight, message_limit}
use Rattle.server_rules.specs.Hearing.{stream_fault, fault_in}
use Rattle.server_rules.specs.Inside.Wires.{wire_at}
use Rattle.server_rules.specs.declared.turns.Wire.{Wire}

-- A stream has one reading; the law is given as an argument.
abbrev pub IsUnique : Type 0
IsUnique = (limit : ℕ) (bytes : List ℕ) (ms ns : List Tree) (e f : StreamEnding)
    → Streams limit 0 bytes ms e → Streams limit 0 bytes ns f → (ms ≡ ns) × (e ≡ f)

pub read-messages : IsUnique → (r : Readings) (d : Decoder) (all : List ℕ) (taken : List Tree)
    → AreRight r → decoder.DecoderStands message_limit d all taken
    → taken ++ ready_of d ≡ (r.stream all).messages
read-messages unique r d all taken right h =
    (unique message_limit all _ _ _ _ h.streams (right.stream all)).0

pub read-ending : IsUnique → (r : Readings) (d : Decoder) (all : List ℕ) (taken : List Tree)
    → AreRight r → decoder.DecoderStands message_limit d all taken
    → Shows (held_of d) (rest_size d) (bytes_read d) (fault_of d) all (r.stream all).ending
read-ending unique r d all taken right h =
    subst (λ end. Shows (held_of d) (rest_size d) (bytes_read d) (fault_of d) all end)
    (unique message_limit all _ _ _ _ h.streams (right.stream all)).1 h.shows

shown-fault : (held : Cut) (come read : ℕ) (found : Option WireFault) (all : List ℕ) (end : StreamEnding)
    → Shows held come read found all end → found ≡ fault_in end
shown-fault held come read found all (rest m) h = h.0
shown-fault held come read found all (fault rule at) h = h

pub read-fault : IsUnique → (r : Readings) (d : Decoder) (all : List ℕ) (taken : List Tree)
    → AreRight r → decoder.DecoderStands message_limit d all taken → fault_of d ≡ stream_fault r all
read-fault unique r d all taken right h =
    shown-fault _ _ _ (fault_of d) all _ (read-ending unique r d all taken right h)

abbrev is_fault : Option WireFault → Bool
is_fault None = false
is_fault (Some f) = true

pub wire-broken : (end : StreamEnding) (f : WireFault) → Some f ≡ fault_in end
    → Wire.Broken f ≡ wire_at end
wire-broken (rest m) f never = absurd (true≢false (ap is_fault never))
wire-broken (fault rule at) f e = ap broken e where
  broken : Option WireFault → Wire
  broken None = Wire.Whole
  broken (Some f) = Wire.Broken f

pub wire-whole : (held : Cut) (come read : ℕ) (found : Option WireFault) (all : List ℕ) (end : StreamEnding)
    → Shows held come read found all end → found ≡ None → come ≡ 0 → Wire.Whole ≡ wire_at end
wire-whole held come read found all (rest []) h none e = refl
wire-whole held come read found all (rest (byte ∷ m)) h none e =
    let long = h.1.long in absurd (omega (arith, e, long))
wire-whole held come read found all (fault rule at) h none e = absurd (true≢false (ap is_fault (sym h ∙ none)))

pub wire-partial : (held : Cut) (come read : ℕ) (found : Option WireFault) (all : List ℕ) (end : StreamEnding)
    → Shows held come read found all end → found ≡ None → (come ≡ 0 → ⊥) → Wire.Partial ≡ wire_at end
wire-partial held come read found all (rest []) h none ne = absurd (ne h.1.long)
wire-partial held come read found all (rest (byte ∷ m)) h none ne = refl
wire-partial held come read found all (fault rule at) h none ne = absurd (true≢false (ap is_fault (sym h ∙ none)))
