-- The rules by which a byte is refused.
use Rattle.std.specs.Prelude.{ℕ, ◌-◌, ◌^◌, min}
use Rattle.bencode_wire.specs.declared.fault.WireFault.{WireFault}

pub data StreamRule : Type 0 where
  malformed : StreamRule
  too_long : StreamRule
  too_deep : StreamRule

-- a place in the stream, as far as it is counted
abbrev pub counted_place : ℕ → ℕ
counted_place n = min n (2 ^ 64 - 1)

abbrev pub fault_at : StreamRule → ℕ → WireFault
fault_at malformed place = WireFault.Malformed place
fault_at too_long place = WireFault.TooLong place
fault_at too_deep place = WireFault.TooDeep place
