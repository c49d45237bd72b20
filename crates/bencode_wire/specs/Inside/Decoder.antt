-- What a decoder shows: its messages that were not handed out, what has come of the next one, and
-- its fault.
use Rattle.std.specs.Prelude.{◌≡◌, ℕ, List, ◌++◌, length, map, Option, Some, None}
use Rattle.bencode_wire.specs.Tree.{Tree}
use Rattle.bencode_wire.specs.Inside.Cut.{Cut}
use Rattle.bencode_wire.specs.Inside.HasCome.{HasCome}
use Rattle.bencode_wire.specs.Inside.Reader.{cut_view}
use Rattle.bencode_wire.specs.Inside.View.{tree_view}
use Rattle.bencode_wire.specs.Stream.{StreamEnding, rest, fault, Streams}
use Rattle.bencode_wire.specs.Fault.{counted_place, fault_at}
use Rattle.bencode_wire.specs.declared.fault.WireFault.{WireFault}
use Rattle.bencode_wire.specs.declared.decoder.Decoder.{Decoder}

abbrev pub limit_of : Decoder → ℕ
limit_of d = d.limit

abbrev pub ready_of : Decoder → List Tree
ready_of d = map tree_view d.ready

-- what is held of the next message
abbrev pub held_of : Decoder → Cut
held_of d = cut_view d.reader

-- how many bytes have come of the next message
abbrev pub rest_size : Decoder → ℕ
rest_size d = d.come

-- how many bytes of the stream were read
abbrev pub bytes_read : Decoder → ℕ
bytes_read d = d.read

abbrev pub fault_of : Decoder → Option WireFault
fault_of d = d.fault

pub record IsUnchanged (old new : Decoder) : Type 0 where
  pub limit : limit_of new ≡ limit_of old
  pub ready : ready_of new ≡ ready_of old
  pub held : held_of new ≡ held_of old
  pub come : rest_size new ≡ rest_size old
  pub read : bytes_read new ≡ bytes_read old
  pub fault : fault_of new ≡ fault_of old

-- what is held, the bytes that have come of it, the bytes that were read, and the fault show how
-- the stream of these bytes ends
abbrev pub Shows : Cut → ℕ → ℕ → Option WireFault → List ℕ → StreamEnding → Type 0
Shows held come read found all (rest m) = (found ≡ None) × HasCome held come m
    × (read ≡ counted_place (length all))
Shows held come read found all (fault rule at) = found ≡ Some (fault_at rule (counted_place at))

-- reading all these bytes gives the messages that were taken, those that are ready, and the end
-- that the decoder shows
pub record DecoderStands (limit : ℕ) (d : Decoder) (all : List ℕ) (taken : List Tree) : Type 0 where
  pub end : StreamEnding
  pub streams : Streams limit 0 all (taken ++ ready_of d) end
  pub shows : Shows (held_of d) (rest_size d) (bytes_read d) (fault_of d) all end
  pub within : limit_of d ≡ limit
