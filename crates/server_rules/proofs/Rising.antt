-- Finite maps whose numbers rise, so that each part is found under its own number.
use Rattle.std.proofs.Common.{◌≡◌, ℕ, suc, ◌==◌, ◌≤◌, List, [], ◌∷◌, ◌++◌, Bool, true, false}
use Rattle.std.proofs.Common.{if◌then◌else◌, Some, refl, sym, ap, ◌∙◌, subst, arith}
use Rattle.std.specs.Prelude.{find}
use Rattle.std.proofs.lemmas.Bool.{eqb-true, eq-eqb, ne_eqb}
use Rattle.ref_table.specs.Numbered.{Entry, entry, part_under, with_part, without}
use Rattle.server_rules.proofs.Numbered.{none-some, some-same}

-- the numbers rise, from one on, and stay below another
abbrev pub Rising : {A : Type 0} → ℕ → ℕ → List (Entry A) → Type 0
Rising low high [] = low ≤ high
Rising low high (e ∷ es) = (low ≤ e.number) × Rising (suc e.number) high es

rising-lower : {A : Type 0} (a b high : ℕ) (es : List (Entry A)) → a ≤ b → Rising b high es
    → Rising a high es
rising-lower a b high [] below r = omega (arith, r)
rising-lower a b high (e ∷ es) below r = (omega (arith, r.0), r.1)

pub rising-behind : {A : Type 0} (low high : ℕ) (part : A) (es : List (Entry A))
    → Rising low high es → Rising low (suc high) (es ++ entry high part ∷ [])
rising-behind low high part [] r = (r, omega arith)
rising-behind low high part (e ∷ es) r = (r.0, rising-behind (suc e.number) high part es r.1)

pub rising-with : {A : Type 0} (n low high : ℕ) (part : A) (es : List (Entry A))
    → Rising low high es → Rising low high (with_part n part es)
rising-with n low high part [] r = r
rising-with n low high part (e ∷ es) r =
    by (rising-with n (suc e.number) high part es r.1) (n == e.number) refl where
      by : Rising (suc e.number) high (with_part n part es) → (b : Bool) → (n == e.number) ≡ b
          → Rising low high (if b then entry n part ∷ es else e ∷ with_part n part es)
      by behind true same =
          subst (λ k. Rising low high (entry k part ∷ es)) (sym (eqb-true n e.number same))
          (r.0, r.1)
      by behind false apart = (r.0, behind)

pub rising-without : {A : Type 0} (n low high : ℕ) (es : List (Entry A)) → Rising low high es
    → Rising low high (without n es)
rising-without n low high [] r = r
rising-without n low high (e ∷ es) r =
    by (rising-without n (suc e.number) high es r.1) (n == e.number) where
      by : Rising (suc e.number) high (without n es) → (b : Bool)
          → Rising low high (if b then without n es else e ∷ without n es)
      by behind true =
          rising-lower low (suc e.number) high (without n es) (omega (arith, r.0)) behind
      by behind false = (r.0, behind)

-- what is found by a test is found under its number
pub record Found {A : Type 0} (test : Entry A → Bool) (low : ℕ) (es : List (Entry A)) (e : Entry A)
    : Type 0 where
  pub above : low ≤ e.number
  pub passes : test e ≡ true
  pub under : part_under e.number es ≡ Some e.part

pub found : {A : Type 0} (test : Entry A → Bool) (low high : ℕ) (es : List (Entry A)) (e : Entry A)
    → Rising low high es → find test es ≡ Some e → Found test low es e
found test low high [] e r here = absurd (none-some here)
found test low high (x ∷ es) e r here =
    by (λ h. found test (suc x.number) high es e r.1 h) (test x) refl here where
      by : (find test es ≡ Some e → Found test (suc x.number) es e) → (b : Bool) → test x ≡ b
          → (if b then Some x else find test es) ≡ Some e → Found test low (x ∷ es) e
      by behind true passes h =
          subst (λ y. Found test low (x ∷ es) y) (some-same x e h) (record {
            above = r.0;
            passes = passes;
            under = ap (λ b. if b then Some x.part else part_under x.number es)
                (eq-eqb x.number x.number refl);
          })
      by behind false fails h =
          let there = behind h in
          let apart : e.number ≡ x.number → ⊥ =
          λ same. absurd (omega (arith, there.above, same)) in
          record {
            above = omega (arith, r.0, there.above);
            passes = there.passes;
            under = ap (λ b. if b then Some x.part else part_under e.number es)
                (ne_eqb e.number x.number apart) ∙ there.under;
          }
