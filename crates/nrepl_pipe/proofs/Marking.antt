-- Failed calls, one after another.
use Rattle.std.proofs.Common.{◌≡◌, Bool, true, false, ◌||◌, Option, None, Some, refl, ap, ◌∙◌}
use Rattle.nrepl_pipe.specs.Failing.{MarksFailure}

or-false : (b : Bool) → b ≡ (b || false)
or-false true = refl
or-false false = refl

or-more : (b since : Bool) → ((b || false) || since) ≡ (b || since)
or-more true since = refl
or-more false since = refl

pub marks-none : (before : Option Bool) → MarksFailure before before false
marks-none None = tt
marks-none (Some b) = or-false b

-- nothing failed, and then what failed since
pub marks-behind : (before between now : Option Bool) (since : Bool) → MarksFailure before between false
    → MarksFailure between now since → MarksFailure before now since
marks-behind None between now since p q = tt
marks-behind (Some b) None now since p q = absurd p
marks-behind (Some b) (Some m) None since p q = absurd q
marks-behind (Some b) (Some m) (Some n) since p q =
    q ∙ ap (λ (v : Bool). v || since) p ∙ or-more b since
