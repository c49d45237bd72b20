-- The headline, of a journal: what it says that a tenant was given is what a server of its own
-- gives it by its own steps.
use Rattle.std.specs.Prelude.{◌≡◌, ◌==◌, ℕ, List, [], ◌∷◌, ◌++◌, ⊤, MatchBool, if◌then◌else◌}
use Rattle.server_rules.specs.Ground.{Ground}
use Rattle.server_rules.specs.Isolation.Privacy.{IsPrivateFor}
use Rattle.server_rules.specs.Machine.Turns.{Turn, given, goes, whose_step, step_of}
use Rattle.server_rules.specs.Machine.World.{World, Step, opens, does, closes, step, world_or}
use Rattle.server_rules.specs.Plan.{Deed, hears, starts, asks_for, ends, drains, bytes_in}
use Rattle.journal_book.specs.Journal.{EntryData}

-- the replies that the tenant took out, joined
abbrev pub bytes_to : ℕ → List EntryData → List ℕ
bytes_to t [] = []
bytes_to t (e ∷ es) = (if t == whose_step e.step then bytes_in e.answer else []) ++ bytes_to t es

-- no ask of the tenant names a shared ref
abbrev pub NamesNoSharedIn : ℕ → List EntryData → Type 0
NamesNoSharedIn t [] = ⊤
NamesNoSharedIn t (e ∷ es) = IsPrivateFor t e.step × NamesNoSharedIn t es

-- the tenant's steps, as turns that are given
abbrev pub own_steps : ℕ → List EntryData → List Turn
own_steps t [] = []
own_steps t (e ∷ es) =
    if t == whose_step e.step then given e.step ∷ own_steps t es else own_steps t es

-- The same as turns of `drive`: where an actor starts, asks or ends, it goes on.

abbrev pub turn_by_deed : ℕ → Deed → Turn
turn_by_deed t (starts a) = goes t a
turn_by_deed t (asks_for a ask) = goes t a
turn_by_deed t (ends a e) = goes t a
turn_by_deed t (hears piece) = given (does t (hears piece))
turn_by_deed t drains = given (does t drains)

abbrev pub turn_for : Step → Turn
turn_for (opens t) = given (opens t)
turn_for (does t d) = turn_by_deed t d
turn_for (closes t) = given (closes t)

abbrev pub own_turns : ℕ → List EntryData → List Turn
own_turns t [] = []
own_turns t (e ∷ es) =
    if t == whose_step e.step then turn_for e.step ∷ own_turns t es else own_turns t es

-- from this server on, each start, ask and end of the tenant's is the one with which its actor goes
-- on
abbrev pub IsHonest : Ground → World → ℕ → List EntryData → Type 0
IsHonest g w t [] = ⊤
IsHonest g w t (e ∷ es) =
    MatchBool (t == whose_step e.step) (step_of g w (turn_for e.step) ≡ e.step) ⊤
    × IsHonest g (world_or w (step g w e.step)) t es
