-- Who names no shared ref, and when a tenant is there from its first Open on.
use Rattle.std.specs.Prelude.{ℕ, ◌==◌, List, [], ◌∷◌, ⊤, MatchBool}
use Rattle.value_data.specs.Datum.{OwnerData, shared, tenant}
use Rattle.repl_asks.specs.Transactions.{RefNameData}
use Rattle.repl_asks.specs.Exchange as exchange
use Rattle.repl_asks.specs.Exchange.{AskData}
use Rattle.ref_table.specs.Commit.{touched_refs}
use Rattle.server_rules.specs.Ground.{Ground}
use Rattle.server_rules.specs.Plan.{Deed, asks_for}
use Rattle.server_rules.specs.Machine.World.{World, Step, opens, does, closes, Stepped, accepted}
use Rattle.server_rules.specs.Machine.World.{refused}
use Rattle.server_rules.specs.Machine.World.{step}
use Rattle.server_rules.specs.Machine.Turns.{Turn, given, goes, step_of, world_after}

abbrev pub IsOwned : OwnerData → Type 0
IsOwned shared = ⊥
IsOwned (tenant t) = ⊤

abbrev pub AreOwned : List RefNameData → Type 0
AreOwned [] = ⊤
AreOwned (name ∷ names) = IsOwned name.owner × AreOwned names

-- An ask names a ref that it reads, of whose history it asks, or that its intent names. A ref that
-- is only a value inside an argument is not named.
abbrev pub IsPrivate : AskData → Type 0
IsPrivate (exchange.read name) = IsOwned name.owner
IsPrivate (exchange.history name) = IsOwned name.owner
IsPrivate (exchange.min_history name set) = IsOwned name.owner
IsPrivate (exchange.max_history name set) = IsOwned name.owner
IsPrivate (exchange.commit intent) = AreOwned (touched_refs intent)
IsPrivate _ = ⊤

abbrev pub NamesNoShared : Deed → Type 0
NamesNoShared (asks_for a ask) = IsPrivate ask
NamesNoShared _ = ⊤

abbrev pub IsPrivateFor : ℕ → Step → Type 0
IsPrivateFor t (opens u) = ⊤
IsPrivateFor t (does u d) = MatchBool (t == u) (NamesNoShared d) ⊤
IsPrivateFor t (closes u) = ⊤

-- no ask of the tenant in the run names a shared ref, not even one that is refused
abbrev pub Private : Ground → World → List Turn → ℕ → Type 0
Private g w [] t = ⊤
Private g w (turn ∷ turns) t =
    IsPrivateFor t (step_of g w turn) × Private g (world_after g w turn) turns t

abbrev pub IsAccepted : Stepped → Type 0
IsAccepted (accepted w answer) = ⊤
IsAccepted (refused why) = ⊥

-- an Open of the tenant is accepted; of other turns the later ones are asked
abbrev pub FirstOpenAt : Ground → World → ℕ → Type 0 → Turn → Type 0
FirstOpenAt g w t Later (given (opens u)) =
    MatchBool (t == u) (IsAccepted (step g w (opens u))) Later
FirstOpenAt g w t Later (given (does u d)) = Later
FirstOpenAt g w t Later (given (closes u)) = Later
FirstOpenAt g w t Later (goes u a) = Later

-- the tenant's first Open among these turns, if there is one, is accepted
abbrev pub FirstOpen : Ground → World → List Turn → ℕ → Type 0
FirstOpen g w [] t = ⊤
FirstOpen g w (turn ∷ turns) t =
    FirstOpenAt g w t (FirstOpen g (world_after g w turn) turns t) turn
