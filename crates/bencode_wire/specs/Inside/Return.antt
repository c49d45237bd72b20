-- How a decoder goes back over its last piece.
use Rattle.std.specs.Prelude.{◌≡◌, ℕ, List, Option, Some, None}
use Rattle.bencode_wire.specs.Tree.{Tree}
use Rattle.bencode_wire.specs.Inside.Cut as cuts
use Rattle.bencode_wire.specs.Inside.Decoder.{limit_of, Shows}
use Rattle.bencode_wire.specs.Inside.GoingBack.{WasBefore}
use Rattle.bencode_wire.specs.Inside.State.{Earlier}
use Rattle.bencode_wire.specs.Stream.{StreamEnding, Streams}
use Rattle.bencode_wire.specs.declared.decoder.Decoder.{Decoder}

-- how far it was before its last piece, where it can go back there
abbrev pub earlier_of : Decoder → Option Earlier
earlier_of d = d.earlier

-- the decoder can go back to where it stood for these bytes, with all messages in them taken
pub record CanReturn (limit : ℕ) (d : Decoder) (all : List ℕ) (taken : List Tree) : Type 0 where
  pub earlier : Earlier
  pub is : earlier_of d ≡ Some earlier
  pub frames : List cuts.OpenContainer
  pub token : cuts.Token
  pub was : WasBefore d.reader frames token
  pub end : StreamEnding
  pub streams : Streams limit 0 all taken end
  pub shows : Shows (cuts.cut frames token) earlier.come earlier.read None all end
  pub within : limit_of d ≡ limit
