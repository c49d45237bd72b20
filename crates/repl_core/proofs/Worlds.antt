-- The tenants of a server, through its steps.
use Rattle.std.proofs.Common.{◌≡◌, ℕ, ◌+◌, ◌-◌, ◌==◌, List, [], ◌∷◌, Bool, true, false, ◌||◌}
use Rattle.std.proofs.Common.{nat_le, Option, Some, None, option_and_then, refl, sym, ap, ◌∙◌}
use Rattle.std.proofs.Common.{true≢false, arith}
use Rattle.std.proofs.lemmas.Bool.{eqb-true}
use Rattle.std.proofs.lemmas.Bool.Decides.{nat_tests}
use Rattle.server_rules.specs.Ground.{Ground}
use Rattle.ref_table.specs.Numbered.{Entry, entry, part_under, with_part}
use Rattle.server_rules.specs.Plan.{Deed}
use Rattle.server_rules.specs.Deeds.{plan}
use Rattle.ref_table.specs.Store.{Store}
use Rattle.server_rules.specs.Tenant.{TenantState}
use Rattle.server_rules.specs.Machine.World.{TenantData, World, is_used, open_count, accepted, refused}
use Rattle.server_rules.specs.Machine.World.{step, does, closes, deed_step, close_step, ended_as}
use Rattle.server_rules.specs.Machine.World.{with_tenant}
use Rattle.server_rules.specs.Plan.{tenant_gone}
use Rattle.server_rules.specs.declared.refusal.Refusal.{Refusal}
use Rattle.tenant_parts.proofs.EntryLaws.{found_first, replaced_first}
use Rattle.server_rules.specs.DeedResult.{DeedResult, carried_out, deed_result}
use Rattle.repl_core.specs.Standing.{open_in, store_in, is_reached}

-- Numbers that were used

pub used-with_part : (u t : ℕ) (x : Option TenantData) (es : List (Entry (Option TenantData)))
    → is_used u (with_part t x es) ≡ is_used u es
used-with_part u t x [] = refl
used-with_part u t x (e ∷ es) = by (used-with_part u t x es) (t == e.number) refl
  where
    by : is_used u (with_part t x es) ≡ is_used u es → (b : Bool) → (t == e.number) ≡ b
        → is_used u (replaced_first b t x e es) ≡ (nat_le u e.number || is_used u es)
    by behind true same = ap (λ k. nat_le u k || is_used u es) (eqb-true t e.number same)
    by behind false apart = ap (λ (b : Bool). nat_le u e.number || b) behind

or-false : (a b : Bool) → (a || b) ≡ false → (a ≡ false) × (b ≡ false)
or-false true b e = absurd (true≢false e)
or-false false b e = (refl, e)

le-same : (n m : ℕ) → n ≡ m → nat_le n m ≡ true
le-same n m e = grind (arith, nat_tests)

pub used-none : (t : ℕ) (es : List (Entry (Option TenantData))) → is_used t es ≡ false
    → part_under t es ≡ None
used-none t [] unused = refl
used-none t (e ∷ es) unused = by (λ h. used-none t es h) (t == e.number) refl
  where
    parts : (nat_le t e.number ≡ false) × (is_used t es ≡ false)
    parts = or-false (nat_le t e.number) (is_used t es) unused

    by : (is_used t es ≡ false → part_under t es ≡ None) → (b : Bool) → (t == e.number) ≡ b
        → found_first b e.part (part_under t es) ≡ None
    by behind true same = absurd (true≢false
        (sym (le-same t e.number (eqb-true t e.number same)) ∙ parts.0))
    by behind false apart = behind parts.1

le-less : (u t n : ℕ) → nat_le t n ≡ false → nat_le u t ≡ false → nat_le u n ≡ false
le-less u t n above apart = grind (arith, nat_tests)

-- behind the newest number
pub reached-more : (newest : Option ℕ) (t u : ℕ) → is_reached newest t ≡ false
    → (nat_le u t || is_reached newest u) ≡ nat_le u t
reached-more newest t u above = by newest above (nat_le u t) refl
  where
    by : (o : Option ℕ) → is_reached o t ≡ false → (b : Bool) → nat_le u t ≡ b
        → (b || is_reached o u) ≡ b
    by o h true is = refl
    by None h false is = refl
    by (Some n) h false is = le-less u t n h is

-- Places that are taken

pub count-with_part : (t : ℕ) (x y : TenantData) (es : List (Entry (Option TenantData)))
    → part_under t es ≡ Some (Some y) → open_count (with_part t (Some x) es) ≡ open_count es
count-with_part t x y [] never = absurd (cc)
count-with_part t x y (e ∷ es) there =
    by (λ h. count-with_part t x y es h) (t == e.number) e.part there
  where
    by : (part_under t es ≡ Some (Some y) → open_count (with_part t (Some x) es) ≡ open_count es)
        → (b : Bool) (part : Option TenantData) → found_first b part (part_under t es) ≡ Some (Some y)
        → open_count (replaced_first b t (Some x) (entry e.number part) es)
        ≡ open_count (entry e.number part ∷ es)
    by behind true None never = absurd (cc)
    by behind true (Some z) h = refl
    by behind false None h = behind h
    by behind false (Some z) h = ap (λ n. n + 1) (behind h)

count-gone : (t : ℕ) (y : TenantData) (es : List (Entry (Option TenantData)))
    → part_under t es ≡ Some (Some y) → open_count (with_part t None es) + 1 ≡ open_count es
count-gone t y [] never = absurd (cc)
count-gone t y (e ∷ es) there = by (λ h. count-gone t y es h) (t == e.number) e.part there
  where
    by : (part_under t es ≡ Some (Some y) → open_count (with_part t None es) + 1 ≡ open_count es)
        → (b : Bool) (part : Option TenantData) → found_first b part (part_under t es) ≡ Some (Some y)
        → open_count (replaced_first b t None (entry e.number part) es) + 1
        ≡ open_count (entry e.number part ∷ es)
    by behind true None never = absurd (cc)
    by behind true (Some z) h = refl
    by behind false None h = behind h
    by behind false (Some z) h = ap (λ n. n + 1) (behind h)

less-one : (a b : ℕ) → a + 1 ≡ b → a ≡ b - 1
less-one a b h = omega arith

pub count-less : (t : ℕ) (y : TenantData) (es : List (Entry (Option TenantData)))
    → part_under t es ≡ Some (Some y) → open_count (with_part t None es) ≡ open_count es - 1
count-less t y es there = less-one _ _ (count-gone t y es there)

-- Steps

pub found-open : (o : Option (Option TenantData)) (y : TenantData)
    → option_and_then (λ part. part) o ≡ Some y → o ≡ Some (Some y)
found-open None y never = absurd (cc)
found-open (Some None) y never = absurd (cc)
found-open (Some (Some x)) y same = ap (λ it. Some it) same

-- what a deed of a tenant comes to
abbrev pub deed_of : Ground → World → ℕ → TenantData → Deed → DeedResult
deed_of g w t kept d = deed_result g (store_in w.around t kept.mine) kept.state d

deed_result-by : (g : Ground) (s : Store) (q : TenantState) (d : Deed)
    → deed_result g s q d ≡ carried_out s (plan g s.tenant q d)
unfolding deed_result
deed_result-by g s q d = refl

step-by : (g : Ground) (w : World) (t : ℕ) (d : Deed) → step g w (does t d)
    ≡ deed_step g w t d (part_under t w.tenants)
unfolding step
step-by g w t d = refl

pub step-deed : (g : Ground) (w : World) (t : ℕ) (d : Deed) (kept : TenantData)
    → open_in t w ≡ Some kept → step g w (does t d)
    ≡ ended_as w t (deed_of g w t kept d).store (deed_of g w t kept d).outcome
step-deed g w t d kept there =
    step-by g w t d
    ∙ ap (deed_step g w t d) (found-open (part_under t w.tenants) kept there)
    ∙ ap (λ (e : DeedResult). ended_as w t e.store e.outcome)
    (sym (deed_result-by g (store_in w.around t kept.mine) kept.state d))

pub step-none : (g : Ground) (w : World) (t : ℕ) (d : Deed) → open_in t w ≡ None
    → step g w (does t d) ≡ refused Refusal.NoSuchTenant
step-none g w t d none = step-by g w t d ∙ by (part_under t w.tenants) none
  where
    by : (o : Option (Option TenantData)) → option_and_then (λ part. part) o ≡ None
        → deed_step g w t d o ≡ refused Refusal.NoSuchTenant
    by None e = refl
    by (Some None) e = refl
    by (Some (Some x)) e = absurd (cc)

close-by : (g : Ground) (w : World) (t : ℕ) → step g w (closes t)
    ≡ close_step w t (part_under t w.tenants)
unfolding step
close-by g w t = refl

pub close-none : (g : Ground) (w : World) (t : ℕ) → open_in t w ≡ None
    → step g w (closes t) ≡ refused Refusal.NoSuchTenant
close-none g w t none = close-by g w t ∙ by (part_under t w.tenants) none
  where
    by : (o : Option (Option TenantData)) → option_and_then (λ part. part) o ≡ None
        → close_step w t o ≡ refused Refusal.NoSuchTenant
    by None e = refl
    by (Some None) e = refl
    by (Some (Some x)) e = absurd (cc)

pub close-some : (g : Ground) (w : World) (t : ℕ) (kept : TenantData) → open_in t w ≡ Some kept
    → step g w (closes t) ≡ accepted (with_tenant t None w.around w) tenant_gone
close-some g w t kept there =
    close-by g w t ∙ ap (close_step w t) (found-open (part_under t w.tenants) kept there)
