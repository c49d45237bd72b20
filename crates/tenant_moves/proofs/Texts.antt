-- Bytes that are text, and bytes that are none.
use Rattle.std.proofs.Common.{◌≡◌, ℕ, List, Bool, true, false, Some, None, refl, ap}
use Rattle.std.proofs.Common.{if◌then◌else◌}
use Rattle.std.proofs.lemmas.Str.{is_utf8-from_IsUtf8, IsUtf8-from_is_utf8}
use Rattle.std.specs.Str.{IsUtf8, is_utf8}
use Rattle.tenant_moves.specs.Opening.{text_in}

pub is-text : (bytes : List ℕ) → IsUtf8 bytes → text_in bytes ≡ Some bytes
is-text bytes so =
    ap (λ (b : Bool). if b then Some bytes else None) (is_utf8-from_IsUtf8 bytes so)

pub no-text : (bytes : List ℕ) → (IsUtf8 bytes → ⊥) → text_in bytes ≡ None
no-text bytes no_text = by (is_utf8 bytes) (λ yes. no_text (IsUtf8-from_is_utf8 bytes yes))
  where
    by : (b : Bool) → (b ≡ true → ⊥) → (if b then Some bytes else None) ≡ None
    by true never = absurd (never refl)
    by false never = refl
