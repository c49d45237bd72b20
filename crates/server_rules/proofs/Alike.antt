-- Where two servers look alike to a tenant, its own step is answered alike and leaves them so.
use Rattle.std.proofs.Common.{◌≡◌, ℕ, Option, Some, refl, sym, ap, ap₂, ◌∙◌}
use Rattle.std.specs.Prelude.{Result, Ok, Err}
use Rattle.server_rules.specs.Ground.{Ground}
use Rattle.server_rules.specs.Plan.{StepAnswer}
use Rattle.server_rules.specs.Machine.World.{World, Step, Stepped, accepted, refused, step}
use Rattle.server_rules.specs.Machine.Turns.{whose_step}
use Rattle.server_rules.specs.Isolation.View.{View, view_for}
use Rattle.server_rules.specs.Isolation.Privacy.{IsPrivateFor}
use Rattle.server_rules.specs.Isolation.Laws.{answer_in, SameStep}
use Rattle.server_rules.specs.declared.refusal.Refusal.{Refusal}
use Rattle.server_rules.proofs.Steps.{SeenStepped, not_done, done_so, seen_step, SoundWorld}
use Rattle.server_rules.proofs.Alone.{own-step, view_after, view_for-after}

answer_seen : SeenStepped → Result StepAnswer Refusal
answer_seen (not_done why) = Err why
answer_seen (done_so v answer) = Ok answer

answer-seen : (t : ℕ) (s : Stepped) → answer_in s ≡ answer_seen (seen_step t s)
unfolding answer_seen
answer-seen t (refused why) = refl
answer-seen t (accepted w answer) = refl

pub alike
    : (g : Ground) (s : Step) (v : Option View) (w x : World) → SoundWorld w → SoundWorld x
    → IsPrivateFor (whose_step s) s → view_for (whose_step s) w ≡ Some v
    → view_for (whose_step s) x ≡ Some v → SameStep g (whose_step s) s w x
alike g s v w x sound_w sound_x private in_w in_x =
    let t = whose_step s in
    let steps : seen_step t (step g w s) ≡ seen_step t (step g x s) =
    own-step g w s v sound_w in_w private ∙ sym (own-step g x s v sound_x in_x private) in
    record {
      answer = answer-seen t (step g w s) ∙ ap answer_seen steps ∙ sym (answer-seen t (step g x s));
      view = view_for-after t w (step g w s) ∙ ap₂ view_after (in_w ∙ sym in_x) steps
          ∙ sym (view_for-after t x (step g x s));
    }
