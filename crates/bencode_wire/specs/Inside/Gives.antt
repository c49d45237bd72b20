-- What the private functions that read give: what is judged.
use Rattle.std.specs.Prelude.{◌≡◌, ℕ, ◌<◌, ◌^◌, List, [], Option, Some, None, Result, Ok, Err}
use Rattle.bencode_wire.specs.Fault.{malformed, too_long, too_deep}
use Rattle.bencode_wire.specs.Inside.Cut.{OpenContainer, between, part, cut}
use Rattle.bencode_wire.specs.Inside.ByteSteps.{Judged, reads, whole, refuses, within_limit, start}
use Rattle.bencode_wire.specs.Inside.Reader.{token_view, cut_view}
use Rattle.bencode_wire.specs.Inside.View.{tree_view}
use Rattle.bencode_wire.specs.declared.ben.Ben.{Ben}
use Rattle.bencode_wire.specs.declared.fault.WireFaultKind.{WireFaultKind}
use Rattle.bencode_wire.specs.declared.cut.TokenProgress.{TokenProgress}
use Rattle.bencode_wire.specs.declared.cut.Reader.{Reader}
use Rattle.bencode_wire.specs.declared.cut.Refused.{Refused}

-- a refusal is what is judged, unless it is of memory
abbrev pub Refuses : Judged → WireFaultKind → Type 0
Refuses j WireFaultKind.NoMemory = Unit {0}
Refuses j WireFaultKind.Malformed = j ≡ refuses malformed
-- under each limit that the code can hold
Refuses j WireFaultKind.TooLong = (limit : ℕ) → limit < 2 ^ 64
    → within_limit limit j ≡ refuses too_long
Refuses j WireFaultKind.TooDeep = j ≡ refuses too_deep

-- a value was put into the innermost frame, and the frames are what is judged
abbrev pub Puts : Judged → List OpenContainer → Result (Unit {0}) Refused → Type 0
Puts j fs (Ok done) = j ≡ reads (cut fs between)
Puts j fs (Err e) = Refuses j e.kind

-- the frames and what a byte comes to are what is judged
abbrev pub Comes : Judged → List OpenContainer → TokenProgress → Type 0
Comes j fs (TokenProgress.Partial token) =
    (string : List ℕ) → j ≡ reads (cut fs (token_view string token))
Comes j fs (TokenProgress.OpenString bytes p) = j ≡ reads (cut fs (part bytes.items p.left))
Comes j fs (TokenProgress.Whole v) = (j ≡ whole (tree_view v)) × (fs ≡ [])

abbrev pub Yields : Judged → List OpenContainer → Result TokenProgress WireFaultKind → Type 0
Yields j fs (Ok progress) = Comes j fs progress
Yields j fs (Err e) = Refuses j e

abbrev pub YieldsPut : Judged → List OpenContainer → Result TokenProgress Refused → Type 0
YieldsPut j fs (Ok progress) = Comes j fs progress
YieldsPut j fs (Err e) = Refuses j e.kind

-- the reader and the message that is whole are what is judged
abbrev pub Steps : Judged → Reader → Result (Option Ben) WireFaultKind → Type 0
Steps j r (Ok None) = j ≡ reads (cut_view r)
Steps j r (Ok (Some v)) = (j ≡ whole (tree_view v)) × (cut_view r ≡ start)
Steps j r (Err e) = Refuses j e
