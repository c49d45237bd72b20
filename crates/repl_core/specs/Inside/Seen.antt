-- What is seen of a deed of an actor without memory.
use Rattle.std.specs.Prelude.{Bool, true, ◌||◌, is_some}
use Rattle.server_rules.specs.Plan.{Deed, asks_for, ends}
use Rattle.server_rules.specs.declared.actor.Actor.{Actor}
use Rattle.repl_core.specs.Inside.WalkAt.{walk_at}
use Rattle.repl_core.specs.declared.walks.Walks.{Walks}

-- the evaluation of the actor's form is kept before a turn, or behind it
abbrev pub keeps_walk : Walks → Walks → Actor → Bool
keeps_walk old new a = is_some (walk_at old a) || is_some (walk_at new a)

-- Whether the deed is refused. What a form does is not known where its evaluation was not kept and
-- could not be made.
abbrev pub is_seen : Bool → Deed → Bool
is_seen kept (asks_for a ask) = kept
is_seen kept (ends a e) = kept
is_seen kept _ = true
