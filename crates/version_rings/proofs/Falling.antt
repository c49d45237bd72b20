-- Stamps that fall go on to fall.
use Rattle.std.proofs.Common.{◌≡◌, ℕ, zero, suc, List, [], ◌∷◌, Bool, true, false, take, length}
use Rattle.std.proofs.Common.{subst, sym}
use Rattle.version_rings.specs.Versions.{Version, IsAbove, IsFalling, pushed}

first-above : (n stamp : ℕ) (vs : List Version) → IsAbove stamp vs → IsAbove stamp (take n vs)
first-above zero stamp vs above = tt
first-above (suc n) stamp [] above = tt
first-above (suc n) stamp (v ∷ vs) above = above

first-falling : (n : ℕ) (vs : List Version) → IsFalling vs → IsFalling (take n vs)
first-falling zero vs falls = tt
first-falling (suc n) [] falls = tt
first-falling (suc n) (v ∷ vs) falls =
    (first-above n v.stamp vs falls.0, first-falling n vs falls.1)

pub falling-pushed : (grow : Bool) (v : Version) (vs : List Version) → IsAbove v.stamp vs
    → IsFalling vs → IsFalling (pushed grow v vs)
falling-pushed grow v [] above falls = tt
falling-pushed true v (w ∷ ws) above falls = (above, falls)
falling-pushed false v (w ∷ ws) above falls = (
  first-above (length ws) v.stamp (w ∷ ws) above,
  first-falling (length ws) (w ∷ ws) falls,
)

pub falls-on : (grow : Bool) (v : Version) (old new : List Version) → new ≡ pushed grow v old
    → IsAbove v.stamp old → IsFalling old → IsFalling new
falls-on grow v old new is above falls =
    subst (λ (vs : List Version). IsFalling vs) (sym is) (falling-pushed grow v old above falls)
