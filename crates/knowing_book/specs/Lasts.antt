-- Where the last entry under a key stands.
use Rattle.std.specs.Prelude.{◌≡◌, ◌≢◌, ◌⊎◌, ◌+◌, ◌==◌, ℕ, suc, Bool, false, List, [], ◌∷◌}
use Rattle.std.specs.Prelude.{Option, None, Some, if◌then◌else◌}
use Rattle.std.specs.BTreeMap.{get}
use Rattle.std.specs.Ordering.{nat_cmp}
use Rattle.knowing_book.specs.declared.lasts.Lasts.{Lasts}

-- whether an entry stands under this key, from the key under which it stands if it does
abbrev pub is_key : ℕ → Option ℕ → Bool
is_key k None = false
is_key k (Some j) = j == k

-- how many entries there are up to the last one of these, or 0 if there is none
abbrev pub last_from : {E : Type 0} → (E → Bool) → ℕ → ℕ → List E → ℕ
last_from is at last [] = last
last_from is at last (e ∷ es) = last_from is (suc at) (if is e then suc at else last) es

abbrev pub last_of : {E : Type 0} → (E → Bool) → List E → ℕ
last_of is = last_from is 0 0

-- the number that is kept for a key
abbrev pub last_at : Lasts → ℕ → Option ℕ
last_at lasts k = get nat_cmp lasts.places k

-- what is kept is true of this history, whose entries stand under these keys
abbrev pub AreLasts : {E : Type 0} → (E → Option ℕ) → List E → Lasts → Type 0
AreLasts key_of es lasts =
    (k n : ℕ) → last_at lasts k ≡ Some n → n ≡ last_of (λ e. is_key k (key_of e)) es

-- behind an entry under the key, which stands behind so many others, no more is kept than this
abbrev pub IsNotedIn : Lasts → Lasts → ℕ → ℕ → Type 0
IsNotedIn old new key place = (k n : ℕ) → last_at new k ≡ Some n
    → ((k ≡ key) × (n ≡ place + 1)) ⊎ ((k ≢ key) × (last_at old k ≡ Some n))

-- nothing is kept of the key, and no more of others than before
abbrev pub IsForgottenIn : Lasts → Lasts → ℕ → Type 0
IsForgottenIn old new key =
    (k n : ℕ) → last_at new k ≡ Some n → (k ≢ key) × (last_at old k ≡ Some n)
