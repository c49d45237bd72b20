-- Values that are strings.
use Rattle.std.proofs.Common.{◌≡◌, List, ℕ, Option, Some, subst}
use Rattle.bencode_wire.specs.Tree.{Tree, integer, string, list, dictionary}
use Rattle.bencode_wire.specs.Inside.GoingBack.{HadCome}
use Rattle.bencode_wire.specs.Inside.Places.{IsText}
use Rattle.bencode_wire.specs.declared.cut.Reader.{Reader}

had_text : (r : Reader) (t : Tree) (bytes : List ℕ) → HadCome r (Some t) bytes → IsText t
had_text r (integer n) bytes h = h
had_text r (string all) bytes h = tt
had_text r (list ts) bytes h = h
had_text r (dictionary ps) bytes h = h

-- the value of which some had come before the last piece is a string
pub string_had : (r : Reader) (t : Tree) (first : Option Tree) (bytes : List ℕ) → first ≡ Some t → HadCome r first bytes → IsText t
string_had r t first bytes e h = had_text r t bytes (subst (λ o. HadCome r o bytes) e h)
