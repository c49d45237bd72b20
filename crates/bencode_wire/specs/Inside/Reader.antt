-- The cut that a reader stands for.
use Rattle.std.specs.Prelude.{◌≡◌, ℕ, ◌<◌, ◌+◌, List, ◌++◌, length, take, map, reverse, Vec}
use Rattle.std.specs.Prelude.{Option, Some, None}
use Rattle.std.specs.declared.alloc.Global.{Global}
use Rattle.std.specs.List.{slice_index_or}
use Rattle.bencode_wire.specs.Tree.{TreePairs}
use Rattle.bencode_wire.specs.Inside.Sign.{sign_of}
use Rattle.bencode_wire.specs.declared.sign.Sign.{Sign}
use Rattle.bencode_wire.specs.Inside.Cut as cuts
use Rattle.bencode_wire.specs.Inside.View.{trees_view, entries_view}
use Rattle.bencode_wire.specs.declared.cut.Frames.{Frames}
use Rattle.bencode_wire.specs.declared.cut.OpenContainer.{OpenContainer}
use Rattle.bencode_wire.specs.declared.cut.Token.{Token}
use Rattle.bencode_wire.specs.declared.cut.Reader.{Reader}

abbrev pub dictionary_view : TreePairs → Option (Vec ℕ Global) → cuts.OpenContainer
dictionary_view ps None = cuts.at_key ps
dictionary_view ps (Some key) = cuts.at_value ps key.items

abbrev pub frame_view : OpenContainer → cuts.OpenContainer
frame_view (OpenContainer.List items) = cuts.in_list (trees_view items.items)
frame_view (OpenContainer.Dictionary d) = dictionary_view (entries_view d.pairs.entries) d.key

-- the innermost first
abbrev pub frames_view : List OpenContainer → List cuts.OpenContainer
frames_view fs = reverse (map frame_view fs)

-- those that were open before the last piece and are so still
abbrev pub live_frames_view : Frames → List cuts.OpenContainer
live_frames_view f = frames_view (take f.live f.settled.items)

abbrev pub open_view : Frames → List cuts.OpenContainer
open_view f = frames_view (take f.live f.settled.items ++ f.fresh.items)

-- a token, of which these bytes have come where it is a string
abbrev pub token_view : List ℕ → Token → cuts.Token
token_view string Token.Between = cuts.between
token_view string Token.IntegerOpen = cuts.after_i
token_view string Token.IntegerMinus = cuts.after_minus
token_view string (Token.IntegerDigits p) = cuts.digits p.is_negative p.value
token_view string (Token.Length n) = cuts.count n
token_view string (Token.String p) = cuts.part string p.left

abbrev pub cut_view : Reader → cuts.Cut
cut_view r = cuts.cut (open_view r.frames) (token_view r.string.items r.token)

-- between two tokens of an open list or dictionary, a string of so many bytes, of which there is
-- one and there are no ten, begins at a place in bytes
pub record BeginsShort (r : Reader) (bytes : List ℕ) (at n : ℕ) : Type 0 where
  pub between : r.token ≡ Token.Between
  pub inside : 0 < length (open_view r.frames)
  pub some : 0 < n
  pub digit : sign_of (slice_index_or bytes at 0) ≡ Sign.Digit n
  pub colon : slice_index_or bytes (at + 1) 0 ≡ 58
