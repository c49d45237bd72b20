-- What a reader was before the last piece, and that reading on lets it go back there.
use Rattle.std.specs.Prelude.{◌≡◌, ℕ, ◌<◌, ◌≤◌, List, [], length, take, Option, Some, None}
use Rattle.bencode_wire.specs.Tree.{Tree, integer, string, list, dictionary}
use Rattle.bencode_wire.specs.Inside.Cut as cuts
use Rattle.bencode_wire.specs.Inside.Undoing.{WereBefore}
use Rattle.bencode_wire.specs.declared.cut.Reader.{Reader}
use Rattle.bencode_wire.specs.declared.cut.Token.{Token}

abbrev pub IsStringToken : Token → Type 0
IsStringToken Token.Between = ⊥
IsStringToken Token.IntegerOpen = ⊥
IsStringToken Token.IntegerMinus = ⊥
IsStringToken (Token.IntegerDigits p) = ⊥
IsStringToken (Token.Length n) = ⊥
IsStringToken (Token.String p) = Unit {0}

-- a string comes inside of something
abbrev pub IsInside : List cuts.OpenContainer → cuts.Token → Type 0
IsInside frames cuts.between = Unit {0}
IsInside frames cuts.after_i = Unit {0}
IsInside frames cuts.after_minus = Unit {0}
IsInside frames (cuts.digits negative n) = Unit {0}
IsInside frames (cuts.count n) = Unit {0}
IsInside frames (cuts.part bytes left) = 0 < length frames

-- these bytes of a string had come before the last piece: it is still read, or it was put first
abbrev pub HadCome : Reader → Option Tree → List ℕ → Type 0
HadCome r None bytes = (r.frames.changes.items ≡ []) × (r.frames.fresh.items ≡ [])
    × (r.frames.ended ≡ None) × IsStringToken r.token × (r.mark.come ≤ length r.string.items)
    × (bytes ≡ take r.mark.come r.string.items)
HadCome r (Some (integer n)) bytes = ⊥
HadCome r (Some (string all)) bytes =
    (r.mark.come ≤ length all) × (bytes ≡ take r.mark.come all)
HadCome r (Some (list ts)) bytes = ⊥
HadCome r (Some (dictionary ps)) bytes = ⊥

abbrev pub TokenWas : Token → Reader → Option Tree → cuts.Token → Type 0
TokenWas Token.Between r first token = token ≡ cuts.between
TokenWas Token.IntegerOpen r first token = token ≡ cuts.after_i
TokenWas Token.IntegerMinus r first token = token ≡ cuts.after_minus
TokenWas (Token.IntegerDigits p) r first token = token ≡ cuts.digits p.is_negative p.value
TokenWas (Token.Length n) r first token = token ≡ cuts.count n
TokenWas (Token.String p) r first token =
    (bytes : List ℕ) × HadCome r first bytes × (token ≡ cuts.part bytes p.left)

abbrev pub WasBefore : Reader → List cuts.OpenContainer → cuts.Token → Type 0
WasBefore r frames token = (first : Option Tree) × WereBefore r.frames frames first
    × TokenWas r.mark.token r first token × IsInside frames token

abbrev pub GoesBack : Reader → Reader → Type 0
GoesBack old new = (frames : List cuts.OpenContainer) (token : cuts.Token)
    → WasBefore old frames token → WasBefore new frames token
