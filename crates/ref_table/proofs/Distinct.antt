-- Keys that come one after the other, each of them new.
use Rattle.std.proofs.Common.{◌≡◌, List, [], ◌∷◌, ◌++◌, Bool, true, false, not, ◌&&◌, ◌||◌, cond}
use Rattle.std.proofs.Common.{ℕ, zero, suc, ◌+◌, ◌<◌, length, drop, get_or, refl, sym, ap, ap₂, ◌∙◌}
use Rattle.std.proofs.Common.{arith}
use Rattle.std.specs.List.{list_any}
use Rattle.std.specs.Ordering.{eq_by_cmp}
use Rattle.std.specs.declared.cmp.Ordering.{Ordering}
use Rattle.std.specs.BTreeMap.{is_at}
use Rattle.std.specs.BTreeSet as set
use Rattle.std.specs.BTreeSet.{BTreeSet}
use Rattle.ref_table.specs.Placing.{all_distinct}

-- none was seen, neither before nor among those before it
abbrev pub all_new : {K : Type 0} → (K → K → Bool) → (K → Bool) → List K → Bool
all_new same seen [] = true
all_new same seen (k ∷ ks) = not (seen k) && all_new same (λ q. same k q || seen q) ks

all_new-same : {K : Type 0} (same : K → K → Bool) (seen known : K → Bool) (ks : List K)
    → ((q : K) → seen q ≡ known q) → all_new same seen ks ≡ all_new same known ks
all_new-same same seen known [] alike = refl
all_new-same same seen known (k ∷ ks) alike =
    ap₂ (λ a b. not a && b) (alike k)
    (all_new-same same (λ q. same k q || seen q) (λ q. same k q || known q) ks
    (λ q. ap (λ b. same k q || b) (alike q)))

any-or : {K : Type 0} (f g : K → Bool) (ks : List K)
    → list_any (λ k. f k || g k) ks ≡ (list_any f ks || list_any g ks)
any-or f g [] = refl
any-or f g (k ∷ ks) = ap (λ b. (f k || g k) || b) (any-or f g ks)
    ∙ four (f k) (g k) (list_any f ks) (list_any g ks) where
      four : (a b x y : Bool) → ((a || b) || (x || y)) ≡ ((a || x) || (b || y))
      four true b x y = refl
      four false true true y = refl
      four false true false y = refl
      four false false x y = refl

all_new-distinct : {K : Type 0} (same : K → K → Bool) (seen : K → Bool) (ks : List K)
    → all_new same seen ks ≡ (not (list_any seen ks) && all_distinct same ks)
all_new-distinct same seen [] = refl
all_new-distinct same seen (k ∷ ks) =
    ap (λ b. not (seen k) && b) (all_new-distinct same (λ q. same k q || seen q) ks
    ∙ ap (λ b. not b && all_distinct same ks) (any-or (same k) seen ks))
    ∙ four (seen k) (list_any (same k) ks) (list_any seen ks) (all_distinct same ks) where
      four : (a b x y : Bool) → (not a && (not (b || x) && y)) ≡ (not (a || x) && (not b && y))
      four true b x y = refl
      four false true true y = refl
      four false true false y = refl
      four false false true y = refl
      four false false false y = refl

-- one of two lists
pub any-append : {K : Type 0} (f : K → Bool) (xs ys : List K)
    → list_any f (xs ++ ys) ≡ (list_any f xs || list_any f ys)
any-append f [] ys = refl
any-append f (x ∷ xs) ys = ap (λ b. f x || b) (any-append f xs ys)
    ∙ groups (f x) (list_any f xs) (list_any f ys) where
      groups : (a b c : Bool) → (a || (b || c)) ≡ ((a || b) || c)
      groups true b c = refl
      groups false b c = refl

none-seen : {K : Type 0} (ks : List K) → list_any (λ (k : K). false) ks ≡ false
none-seen [] = refl
none-seen (k ∷ ks) = none-seen ks

-- where nothing was seen
pub all_new-start : {K : Type 0} (cmp : K → K → Ordering) (s : BTreeSet K) (ks : List K)
    → s.keys ≡ []
    → all_new (eq_by_cmp cmp) (set.contains cmp s) ks ≡ all_distinct (eq_by_cmp cmp) ks
all_new-start {K} cmp s ks empty =
    all_new-same (eq_by_cmp cmp) (set.contains cmp s) (λ q. false) ks
    (λ q. ap (λ keys. list_any (is_at (cmp q)) keys) empty)
    ∙ all_new-distinct (eq_by_cmp cmp) (λ q. false) ks
    ∙ ap (λ b. not b && all_distinct (eq_by_cmp cmp) ks) (none-seen ks)

-- a key that is new is seen from now on
pub all_new-more : {K : Type 0} (cmp : K → K → Ordering) (s more : BTreeSet K) (k : K)
    (ks : List K) (added : Bool) → added ≡ true → added ≡ not (set.contains cmp s k)
    → ((q : K) → set.contains cmp more q ≡ cond (is_at (cmp k) q) true (set.contains cmp s q))
    → all_new (eq_by_cmp cmp) (set.contains cmp s) (k ∷ ks)
    ≡ all_new (eq_by_cmp cmp) (set.contains cmp more) ks
all_new-more {K} cmp s more k ks added is_added new updates =
    ap (λ b. b && all_new (eq_by_cmp cmp) (λ q. eq_by_cmp cmp k q || set.contains cmp s q) ks)
    (sym new ∙ is_added)
    ∙ all_new-same (eq_by_cmp cmp) (λ q. eq_by_cmp cmp k q || set.contains cmp s q)
    (set.contains cmp more) ks
    (λ q. sym (updates q ∙ or-cond (is_at (cmp k) q) (set.contains cmp s q))) where
      or-cond : (a b : Bool) → cond a true b ≡ (a || b)
      or-cond true b = refl
      or-cond false b = refl

pub all_new-repeat : {K : Type 0} (cmp : K → K → Ordering) (s : BTreeSet K) (k : K)
    (ks : List K) (added : Bool) → added ≡ false → added ≡ not (set.contains cmp s k)
    → all_new (eq_by_cmp cmp) (set.contains cmp s) (k ∷ ks) ≡ false
all_new-repeat cmp s k ks added is_not new =
    ap (λ b. b && all_new (eq_by_cmp cmp) (λ q. eq_by_cmp cmp k q || set.contains cmp s q) ks)
    (sym new ∙ is_not)

-- the first of those that are left
pub drop-got : {A : Type 0} (xs : List A) (i : ℕ) (x : A) → i < length xs
    → drop i xs ≡ get_or xs i x ∷ drop (i + 1) xs
drop-got [] i x below = absurd (omega arith)
drop-got (y ∷ xs) zero x below = refl
drop-got (y ∷ xs) (suc i) x below =
    let next : suc (i + 1) ≡ suc i + 1 = omega arith in
    drop-got xs i x (omega arith) ∙ ap (λ n. get_or xs i x ∷ drop n (y ∷ xs)) next

pub drop-item : {A : Type 0} (xs : List A) (i : ℕ) (x : A) → i < length xs → x ≡ get_or xs i x
    → drop i xs ≡ x ∷ drop (i + 1) xs
drop-item xs i x below e =
    drop-got xs i x below ∙ ap (λ y. y ∷ drop (i + 1) xs) (sym e)
