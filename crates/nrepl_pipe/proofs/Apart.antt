-- What is found under one number where the part under another is taken out.
use Rattle.std.proofs.Common.{◌≡◌, ◌≢◌, ℕ, ◌==◌, List, [], ◌∷◌, Bool, true, false, refl, sym, ap, ◌∙◌}
use Rattle.std.proofs.Common.{Some, if◌then◌else◌}
use Rattle.std.proofs.lemmas.Bool.{eqb-true, ne_eqb}
use Rattle.ref_table.specs.Numbered.{Entry, part_under, without}

pub part_under-without : {A : Type 0} (n m : ℕ) (es : List (Entry A)) → n ≢ m
    → part_under n (without m es) ≡ part_under n es
part_under-without n m [] other = refl
part_under-without n m (e ∷ es) other =
    by (part_under-without n m es other) (m == e.number) refl where
      After : Bool → Type 0
      After b = part_under n (if b then without m es else e ∷ without m es) ≡ part_under n (e ∷ es)

      apart : (m == e.number) ≡ true → n ≢ e.number
      apart same q = other (q ∙ sym (eqb-true m e.number same))

      by : part_under n (without m es) ≡ part_under n es → (b : Bool) → (m == e.number) ≡ b → After b
      by behind true same =
          behind
          ∙ sym (ap (λ b. if b then Some e.part else part_under n es) (ne_eqb n e.number (apart same)))
      by behind false differs = ap (λ rest. if n == e.number then Some e.part else rest) behind
