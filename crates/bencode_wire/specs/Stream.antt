-- A stream of messages (BEP 3), and where it breaks a rule. A message is one dictionary; a place is
-- a byte's offset in the stream, from 0.
use Rattle.std.specs.Prelude.{◌≡◌, ℕ, suc, ◌+◌, ◌<◌, ◌≤◌, ◌⊎◌, List, [], ◌∷◌, ◌++◌, length, codes}
use Rattle.std.specs.Prelude.{decimal}
use Rattle.bencode_wire.specs.Tree.{Tree, dictionary, Trees, TreePairs, HasKey}
use Rattle.bencode_wire.specs.Spelling.{text, trees_text, pairs_text, string_text, IsLength}
use Rattle.bencode_wire.specs.Spelling.{IsString, AreSpellable, ArePairs, sorted, Spells}
use Rattle.bencode_wire.specs.Fault.{StreamRule, malformed, too_long, too_deep}
use Rattle.bencode_wire.specs.declared.frames.TheConstants.{MAX_NESTING}

-- the bytes begin a dictionary of the grammar, equal keys being let pass
abbrev pub BeginsMessage : List ℕ → Type 0
BeginsMessage m = (ps : TreePairs) × (more : List ℕ) × ArePairs ps
    × (text (dictionary ps) ≡ m ++ more)

mutual
  -- behind these bytes of a message a value is awaited, inside so many lists and dictionaries
  pub data AwaitsValue : ℕ → List ℕ → Type 0 where
    behind_items : (n : ℕ) (m : List ℕ) (ts : Trees) → AwaitsValue n m → AreSpellable ts
        → AwaitsValue (suc n) (m ++ (codes "l" ++ trees_text ts))
    behind_key : (n : ℕ) (ps : TreePairs) (m key : List ℕ) → AwaitsKey n ps m → IsString key
        → AwaitsValue n (m ++ string_text key)

  -- a key is awaited, in a dictionary that has these pairs so far
  pub data AwaitsKey : ℕ → TreePairs → List ℕ → Type 0 where
    of_message : (ps : TreePairs) → ArePairs ps → AwaitsKey 1 ps (codes "d" ++ pairs_text ps)
    of_value : (n : ℕ) (m : List ℕ) (ps : TreePairs) → AwaitsValue n m → ArePairs ps
        → AwaitsKey (suc n) ps (m ++ (codes "d" ++ pairs_text ps))

-- a string may begin behind these bytes
abbrev pub AwaitsString : List ℕ → Type 0
AwaitsString m = ((n : ℕ) × AwaitsValue n m) ⊎ ((n : ℕ) × (ps : TreePairs) × AwaitsKey n ps m)

-- the last byte ends a key that stood before in its dictionary
abbrev pub RepeatsKey : List ℕ → Type 0
RepeatsKey m =
    (n : ℕ) × (ps : TreePairs) × (front : List ℕ) × (key : List ℕ) × AwaitsKey n ps front
    × IsString key × HasKey key ps × (m ≡ front ++ string_text key)

-- the last byte is a digit that makes a string's length greater than the limit
abbrev pub IsLarge : ℕ → List ℕ → Type 0
IsLarge limit m = (front : List ℕ) × (len : ℕ) × AwaitsString front × IsLength len × (limit < len)
    × (m ≡ front ++ decimal len)

-- the last byte opens a list or a dictionary inside as many others as may nest
abbrev pub IsDeep : List ℕ → Type 0
IsDeep m = (front : List ℕ) × (n : ℕ) × AwaitsValue n front × (MAX_NESTING ≤ n)
    × ((m ≡ front ++ codes "l") ⊎ (m ≡ front ++ codes "d"))

-- the rules at the last byte of the bytes of a message, each tried where the earlier ones do not
-- apply
abbrev pub IsTooLong : ℕ → List ℕ → Type 0
IsTooLong limit m = limit < length m

abbrev pub IsMalformed : List ℕ → Type 0
IsMalformed m = (BeginsMessage m → ⊥) ⊎ RepeatsKey m

abbrev pub Meets : ℕ → List ℕ → StreamRule → Type 0
Meets limit m malformed = (IsTooLong limit m → ⊥) × IsMalformed m
Meets limit m too_long = IsTooLong limit m ⊎ ((IsMalformed m → ⊥) × IsLarge limit m)
Meets limit m too_deep = (IsTooLong limit m → ⊥) × (IsMalformed m → ⊥) × (IsLarge limit m → ⊥)
    × IsDeep m

-- no rule applies at a byte of these
abbrev pub IsClean : ℕ → List ℕ → Type 0
IsClean limit m = (front more : List ℕ) (rule : StreamRule) → m ≡ front ++ more
    → Meets limit front rule → ⊥

-- the bytes spell a message, which a decoder hands out with its pairs sorted
abbrev pub IsMessage : ℕ → Tree → List ℕ → Type 0
IsMessage limit t m = (ps : TreePairs) × (t ≡ dictionary ps) × (sorted t ≡ t) × Spells t m
    × IsClean limit m

-- how a stream ends: with less than a message, or with a byte at which a rule applies
pub data StreamEnding : Type 0 where
  rest : List ℕ → StreamEnding
  fault : StreamRule → ℕ → StreamEnding

-- nothing, or a proper prefix of a message
abbrev pub IsRest : ℕ → List ℕ → Type 0
IsRest limit m = IsClean limit m × ((ps : TreePairs) × (b : ℕ) × (more : List ℕ) × ArePairs ps
    × (text (dictionary ps) ≡ m ++ b ∷ more))

-- what is left of a stream at a place, and how it ends
abbrev pub Ends : ℕ → ℕ → List ℕ → StreamEnding → Type 0
Ends limit place bytes (rest m) = IsRest limit m × (bytes ≡ m)
Ends limit place bytes (fault rule at) =
    (m : List ℕ) × (b : ℕ) × (more : List ℕ) × IsRest limit m × (bytes ≡ m ++ b ∷ more)
    × Meets limit (m ++ b ∷ []) rule × (at ≡ place + length m)

-- the bytes of a stream from a place on are these messages, and then end so
abbrev pub Streams : ℕ → ℕ → List ℕ → List Tree → StreamEnding → Type 0
Streams limit place bytes [] end = Ends limit place bytes end
Streams limit place bytes (t ∷ ts) end =
    (m : List ℕ) × (more : List ℕ) × IsMessage limit t m × (bytes ≡ m ++ more)
    × Streams limit (place + length m) more ts end
