-- Where a value stands that was put last into a list or a dictionary that is open.
use Rattle.std.specs.Prelude.{◌≡◌, ℕ, false, List, ◌∷◌, Result, Ok, Err}
use Rattle.bencode_wire.specs.Tree.{Tree, integer, string, list, dictionary, Trees, TreePairs}
use Rattle.bencode_wire.specs.Tree.{add_tree, holds_key}
use Rattle.bencode_wire.specs.Spelling.{put_sorted}
use Rattle.bencode_wire.specs.Inside.Cut.{OpenContainer, in_list, at_key, at_value}
use Rattle.bencode_wire.specs.declared.ben.Ben.{Ben}
use Rattle.bencode_wire.specs.declared.cut.Place.{Place}
use Rattle.bencode_wire.specs.declared.cut.Refused.{Refused}

-- the next value in this one will stand there
abbrev pub FitsPlace : Place → OpenContainer → Type 0
FitsPlace Place.Item (in_list ts) = Unit {0}
FitsPlace Place.Item (at_key ps) = ⊥
FitsPlace Place.Item (at_value ps k) = ⊥
FitsPlace Place.Key (in_list ts) = ⊥
FitsPlace Place.Key (at_key ps) = Unit {0}
FitsPlace Place.Key (at_value ps k) = ⊥
FitsPlace (Place.Value key) (in_list ts) = ⊥
FitsPlace (Place.Value key) (at_key ps) = ⊥
FitsPlace (Place.Value key) (at_value ps k) = (key.items ≡ k) × (holds_key k ps ≡ false)

-- a value was put there into the innermost of these
abbrev pub WasPut : Place → Tree → List OpenContainer → List OpenContainer → Type 0
WasPut Place.Item t before after = (ts : Trees) × (outer : List OpenContainer)
    × (before ≡ in_list ts ∷ outer) × (after ≡ in_list (add_tree ts t) ∷ outer)
WasPut Place.Key t before after = (ps : TreePairs) × (key : List ℕ) × (outer : List OpenContainer)
    × (before ≡ at_key ps ∷ outer) × (after ≡ at_value ps key ∷ outer) × (t ≡ string key)
WasPut (Place.Value key) t before after = (ps : TreePairs) × (outer : List OpenContainer)
    × (before ≡ at_value ps key.items ∷ outer)
    × (after ≡ at_key (put_sorted ps key.items t) ∷ outer) × (holds_key key.items ps ≡ false)

-- the value of a list or a dictionary that ends
abbrev pub value_of : OpenContainer → Tree
value_of (in_list ts) = list ts
value_of (at_key ps) = dictionary ps
value_of (at_value ps key) = dictionary ps

abbrev pub IsContainer : Tree → Type 0
IsContainer (integer n) = ⊥
IsContainer (string bytes) = ⊥
IsContainer (list ts) = Unit {0}
IsContainer (dictionary ps) = Unit {0}

abbrev pub IsText : Tree → Type 0
IsText (integer n) = ⊥
IsText (string bytes) = Unit {0}
IsText (list ts) = ⊥
IsText (dictionary ps) = ⊥

-- a value that was refused comes back
abbrev pub GivesValueBack : {X : Type 0} → Ben → Result X Refused → Type 0
GivesValueBack value (Ok done) = Unit {0}
GivesValueBack value (Err refused) = refused.value ≡ value
