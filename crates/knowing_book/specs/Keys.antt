-- The key under which the entries of an actor stand with which it begins, asks and ends. Where two
-- actors have one key, the entries of both stand under it.
use Rattle.std.specs.Prelude.{◌+◌, ◌*◌, ◌%◌, ◌^◌, ℕ, Bool, List, Option, None, Some}
use Rattle.knowing_book.specs.Lasts.{is_key, last_of}
use Rattle.server_rules.specs.Machine.World.{Step, opens, does, closes}
use Rattle.server_rules.specs.Plan.{Deed, hears, starts, asks_for, ends, drains}
use Rattle.server_rules.specs.declared.actor.Actor.{Actor}
use Rattle.journal_book.specs.Journal.{EntryData}

abbrev pub actor_number : Actor → ℕ
actor_number Actor.Agents = 0
actor_number Actor.Bare = 1
actor_number (Actor.Session n) = (n + 2) % 2 ^ 64

abbrev pub actor_key : ℕ → Actor → ℕ
actor_key t a = (t * 2 ^ 40 % 2 ^ 64 + actor_number a) % 2 ^ 64

abbrev pub deed_key : ℕ → Deed → Option ℕ
deed_key t (starts a) = Some (actor_key t a)
deed_key t (asks_for a ask) = Some (actor_key t a)
deed_key t (ends a e) = Some (actor_key t a)
deed_key t (hears piece) = None
deed_key t drains = None

abbrev pub step_key : Step → Option ℕ
step_key (does t d) = deed_key t d
step_key (opens t) = None
step_key (closes t) = None

abbrev pub entry_key : EntryData → Option ℕ
entry_key e = step_key e.step

abbrev pub is_under : ℕ → EntryData → Bool
is_under k e = is_key k (entry_key e)

-- how many entries there are up to the actor's last one
abbrev pub last_by : ℕ → Actor → List EntryData → ℕ
last_by t a = last_of (is_under (actor_key t a))
