-- The lists of refs, and the marks that say which refs are in them.
use Rattle.std.specs.Prelude.{◌≡◌, List, [], ◌∷◌, Bool, true, ◌&&◌, not, map}
use Rattle.value_data.specs.declared.value.RefName.{RefName}
use Rattle.repl_asks.specs.Transactions.{RefNameData}
use Rattle.repl_asks.specs.Inside.View.{name_view}
use Rattle.repl_asks.specs.Accesses.{is_among}
use Rattle.tx_attempt.specs.Inside.States.{RefStateData, States}

-- a ref has the mark where it is in the list
abbrev pub KeepsMark : (RefStateData → Bool) → States → List RefName → Type 0
KeepsMark mark states names =
    (n : RefNameData) → mark (states n) ≡ is_among n (map name_view names)

abbrev pub SetsAre : States → List RefName → Type 0
SetsAre = KeepsMark (λ s. s.is_set)

abbrev pub EnsuredAre : States → List RefName → Type 0
EnsuredAre = KeepsMark (λ s. s.is_ensured)

abbrev pub CommutedAre : States → List RefName → Type 0
CommutedAre = KeepsMark (λ s. s.is_commuted)

abbrev pub each_once : List RefNameData → Bool
each_once [] = true
each_once (n ∷ ns) = not (is_among n ns) && each_once ns

-- no ref is in the list twice
abbrev pub NamesOnce : List RefName → Type 0
NamesOnce names = each_once (map name_view names) ≡ true
