-- A refusal with its place.
use Rattle.std.specs.Prelude.{ℕ}
use Rattle.bencode_wire.specs.declared.fault.WireFaultKind.{WireFaultKind}
use Rattle.bencode_wire.specs.declared.fault.WireFault.{WireFault}

abbrev pub refusal_at : WireFaultKind → ℕ → WireFault
refusal_at WireFaultKind.NoMemory place = WireFault.NoMemory
refusal_at WireFaultKind.Malformed place = WireFault.Malformed place
refusal_at WireFaultKind.TooLong place = WireFault.TooLong place
refusal_at WireFaultKind.TooDeep place = WireFault.TooDeep place
