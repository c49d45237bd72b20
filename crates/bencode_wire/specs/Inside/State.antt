-- What a decoder shows, however it is kept: its limit, the messages that were not handed out, what
-- has come of the next one and in how many bytes, how much of the stream was read, its fault, and
-- how far it was before its last piece, where it can go back there.
use Rattle.std.specs.Prelude.{ℕ, List, Option}
use Rattle.bencode_wire.specs.declared.ben.Ben.{Ben}
use Rattle.bencode_wire.specs.declared.cut.Reader.{Reader}
use Rattle.bencode_wire.specs.declared.fault.WireFault.{WireFault}

-- no message was ready, and there was no fault
pub record Earlier : Type 0 where
  pub come : ℕ
  pub read : ℕ

pub record DecoderState : Type 0 where
  pub limit : ℕ
  pub ready : List Ben
  pub reader : Reader
  pub come : ℕ
  pub read : ℕ
  pub fault : Option WireFault
  pub earlier : Option Earlier
