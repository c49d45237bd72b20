-- What the calls that read bytes ensure: what was read and what is ahead are one reading, wherever
-- reading stands.
use Rattle.std.specs.Prelude.{◌≡◌, ℕ, ◌+◌, List, ◌++◌, length, map, drop, Option, Some, None}
use Rattle.std.specs.Prelude.{Result, Ok, Err}
use Rattle.bencode_wire.specs.Tree.{Tree}
use Rattle.bencode_wire.specs.Spelling.{put_sorted}
use Rattle.bencode_wire.specs.Fault.{counted_place, fault_at}
use Rattle.bencode_wire.specs.Inside.ByteSteps.{StreamReading, ReadingEnd, rests, faults}
use Rattle.bencode_wire.specs.Inside.ByteSteps.{stream_reading}
use Rattle.bencode_wire.specs.Inside.Reader.{cut_view}
use Rattle.bencode_wire.specs.Inside.View.{tree_view}
use Rattle.bencode_wire.specs.declared.ben.Ben.{Ben}
use Rattle.bencode_wire.specs.declared.cut.Unfinished.{Unfinished}
use Rattle.bencode_wire.specs.declared.fault.WireFault.{WireFault}

-- the fault in which reading ends, of bytes that begin at a place
abbrev pub fault_of_end : ℕ → ReadingEnd → Option WireFault
fault_of_end place (rests before c) = None
fault_of_end place (faults rule at) = Some (fault_at rule (counted_place (place + at)))

-- what is ahead from a place in a piece on
abbrev pub ahead : ℕ → List ℕ → Unfinished → ℕ → StreamReading
ahead limit bytes message at =
    stream_reading limit put_sorted message.come (cut_view message.reader) at (drop at bytes)

abbrev pub ready_view : List Ben → List Tree
ready_view vs = map tree_view vs

pub record Advances (now next : StreamReading) (old new : List Ben) : Type 0 where
  pub messages : ready_view new ++ next.messages ≡ ready_view old ++ now.messages
  pub end : next.end ≡ now.end

pub record Faults (place : ℕ) (now : StreamReading) (old new : List Ben)
    (fault : WireFault) : Type 0 where
  pub messages : ready_view new ≡ ready_view old ++ now.messages
  pub end : fault_of_end place now.end ≡ Some fault

-- reading from a place on stops with this, `old` having been ready and `new` being so now
abbrev pub Stops : ℕ → ℕ → List ℕ → Unfinished → ℕ → List Ben → List Ben → WireFault → Type 0
Stops limit place bytes from at old new WireFault.NoMemory = Unit {0}
Stops limit place bytes from at old new (WireFault.Malformed p) =
    Faults place (ahead limit bytes from at) old new (WireFault.Malformed p)
Stops limit place bytes from at old new (WireFault.TooLong p) =
    Faults place (ahead limit bytes from at) old new (WireFault.TooLong p)
Stops limit place bytes from at old new (WireFault.TooDeep p) =
    Faults place (ahead limit bytes from at) old new (WireFault.TooDeep p)

-- bytes were read from a place to the one that is answered
abbrev pub ReadsTo : ℕ → ℕ → List ℕ → Unfinished → ℕ → Unfinished → List Ben → List Ben
    → Result ℕ WireFault → Type 0
ReadsTo limit place bytes from at to old new (Ok end) =
    Advances (ahead limit bytes from at) (ahead limit bytes to end) old new
ReadsTo limit place bytes from at to old new (Err f) = Stops limit place bytes from at old new f

-- or to the end
abbrev pub ReadsAll : ℕ → ℕ → List ℕ → Unfinished → Unfinished → List Ben → List Ben
    → Result (Unit {0}) WireFault → Type 0
ReadsAll limit place bytes from to old new (Ok done) =
    Advances (ahead limit bytes from 0) (ahead limit bytes to (length bytes)) old new
ReadsAll limit place bytes from to old new (Err f) = Stops limit place bytes from 0 old new f
