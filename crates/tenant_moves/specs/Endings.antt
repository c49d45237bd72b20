-- What of a request in hand is still to do behind a form that ended.
use Rattle.std.specs.Prelude.{◌≡◌, ⊤, Bool, true, false, Option, None, Some, Ok}
use Rattle.std.specs.Arc.{arc_str_bytes}
use Rattle.value_data.specs.Datum.{Items, no_items, item}
use Rattle.value_data.specs.Inside.View.{view}
use Rattle.value_data.specs.declared.value.Value.{Value}
use Rattle.server_rules.specs.Request as rules
use Rattle.server_rules.specs.Moves.{Move}
use Rattle.tenant_moves.specs.declared.effects.RequestEffects.{RequestEffects}
use Rattle.tenant_moves.specs.declared.ending.After.{After}
use Rattle.tenant_moves.specs.Told.{TellsMove, Adds}
use Rattle.tenant_parts.specs.Spelled.{TellsResult}
use Rattle.tenant_parts.specs.declared.spelled.ToldResult.{ToldResult}
use Rattle.repl_replies.specs.Replies.{OriginData}

abbrev pub are_none : Items → Bool
are_none no_items = true
are_none (item d ds) = false

-- of a file the last value is kept
abbrev pub last_kept : Option Value → rules.WorkInHand → rules.WorkInHand
last_kept None h = h
last_kept (Some v) h = record h { manner = rules.last_form (view v) }

abbrev pub hand_after : rules.WorkInHand → After → Option rules.WorkInHand
hand_after h After.Over = None
hand_after h (After.Next namespace last) =
    Some (last_kept last (record h { running = None; namespace = arc_str_bytes namespace }))

-- the replies tell the last value so far, if one is kept
abbrev pub TellsLast : OriginData → rules.Manner → ToldResult → Type 0
TellsLast origin (rules.last_form d) told = TellsResult origin (Ok d) told
TellsLast origin rules.each_form told = ⊤
TellsLast origin rules.each_form_elsewhere told = ⊤
TellsLast origin (rules.of_action session) told = ⊤

-- a form of this request ended by this move
pub record EndsForm (m : Move) (h : rules.WorkInHand) (made : RequestEffects × After) : Type 0 where
  pub told : TellsMove m made.0
  pub hand : hand_after h made.1 ≡ m.hand

-- the same, where something was told before
pub record EndsFormBy (m : Move) (h : rules.WorkInHand) (old new : RequestEffects) (after : After) : Type 0 where
  pub told : Adds m old new
  pub hand : hand_after h after ≡ m.hand
