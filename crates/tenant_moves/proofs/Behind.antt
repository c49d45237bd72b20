-- Moves behind what was told before, and behind the last form.
use Rattle.std.proofs.Common.{◌≡◌, List, [], ◌∷◌, ◌++◌, true, false, Option, None, Some, refl, sym}
use Rattle.std.proofs.Common.{ap, subst, ◌∙◌, map, append_assoc, true≢false, length, ◌==◌}
use Rattle.std.proofs.Math.Dec.{eqb-suc-zero}
use Rattle.std.proofs.lemmas.List.{map-append}
use Rattle.value_data.specs.Datum.{Items, no_items, item}
use Rattle.value_data.specs.Inside.View.{items_view}
use Rattle.value_data.specs.declared.value.Value.{Value}
use Rattle.repl_values.specs.Failure.{Failure}
use Rattle.repl_replies.specs.Replies.{OriginData, ReplyData, bytes_of}
use Rattle.repl_sessions.specs.State.{StateData}
use Rattle.server_rules.specs.Request.{WorkInHand, Manner, each_form, each_form_elsewhere, last_form}
use Rattle.server_rules.specs.Request.{of_action}
use Rattle.server_rules.specs.Moves.{Move, preceded_by, closing_move, going_on, in_hand}
use Rattle.tenant_moves.specs.declared.effects.RequestEffects.{RequestEffects}
use Rattle.tenant_moves.specs.declared.ending.After.{After}
use Rattle.tenant_moves.specs.Told.{told_bytes, told_state, Adds, TellsMove}
use Rattle.tenant_moves.specs.Endings.{are_none, EndsFormBy}

pub ends-behind : (r : List ReplyData) (f : StateData → Move) (s : StateData) (h : WorkInHand)
    (old mid new : RequestEffects) (after : After)
    → told_bytes mid ≡ told_bytes old ++ map bytes_of r → told_state mid ≡ s
    → EndsFormBy (f (told_state mid)) h mid new after → EndsFormBy (preceded_by r (f s)) h old new after
ends-behind r f s h old mid new after told same e =
    let there = subst (λ x. EndsFormBy (f x) h mid new after) same e in
    let more = map bytes_of (f s).replies in
    record {
      told = record {
        replies = there.told.replies ∙ ap (λ front. front ++ more) told
            ∙ append_assoc (told_bytes old) (map bytes_of r) more
            ∙ ap (λ all. told_bytes old ++ all) (sym (map-append bytes_of r (f s).replies));
        state = there.told.state;
      };
      hand = there.hand;
    }

-- no form is left
pub over-behind : (h : WorkInHand) (forms : Items) (s : StateData) → are_none forms ≡ true
    → going_on h forms s ≡ closing_move h.origin h.manner h.fault s
over-behind h no_items s none = refl
over-behind h (item d ds) s none = absurd (true≢false (sym none))

-- forms are left
pub next-behind : (h : WorkInHand) (forms : Items) (s : StateData) → are_none forms ≡ false
    → going_on h forms s ≡ in_hand (record h { running = None; forms = forms }) s
next-behind h no_items s some = absurd (true≢false some)
next-behind h (item d ds) s some = refl

-- a request that is done is in hand no longer
pub closing_move-hand : (origin : OriginData) (manner : Manner) (fault : Option Failure) (s : StateData)
    → (closing_move origin manner fault s).hand ≡ None
closing_move-hand origin manner (Some f) s = refl
closing_move-hand origin each_form None s = refl
closing_move-hand origin each_form_elsewhere None s = refl
closing_move-hand origin (last_form d) None s = refl
closing_move-hand origin (of_action session) None s = refl

-- the request is done behind its last form
pub ends-over : (h k : WorkInHand) (s : StateData) (old new : RequestEffects) → are_none h.forms ≡ true
    → Adds (closing_move h.origin h.manner h.fault s) old new
    → EndsFormBy (going_on h h.forms s) k old new After.Over
ends-over h k s old new none told =
    subst (λ m. EndsFormBy m k old new After.Over) (sym (over-behind h h.forms s none))
    (record { told = told; hand = sym (closing_move-hand h.origin h.manner h.fault s) })

-- the first that is told of a move
pub tells-first : (m : Move) (old new : RequestEffects) → told_bytes old ≡ [] → Adds m old new → TellsMove m new
tells-first m old new none adds = record {
  replies = adds.replies ∙ ap (λ front. front ++ map bytes_of m.replies) none;
  state = adds.state;
}

pub none-counted : (vs : List Value) → (length vs == 0) ≡ are_none (items_view vs)
none-counted [] = refl
none-counted (v ∷ vs) = eqb-suc-zero (length vs)
