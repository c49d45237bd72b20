-- The index of the ids stays right through each change.
use Rattle.std.proofs.Common.{◌≡◌, ℕ, ◌+◌, ◌<◌, Bool, true, false, cond, ◌&&◌, eqb, List, Option, Some, is_some, refl, sym, ap, subst, ◌∙◌, ⊎_elim, arith}
use Rattle.std.specs.Str.{bytes_eq}
use Rattle.std.specs.Ordering.{nat_cmp, is_eq, ordering_then}
use Rattle.std.specs.declared.cmp.Ordering.{Ordering}
use Rattle.std.specs.declared.cmp.Ordering.TheVariants.{Less, Equal, Greater}
use Rattle.std.specs.Cmp.{unsigned_tied}
use Rattle.std.specs.Cmp.Lexicographic.{slice_cmp}
use Rattle.std.specs.BTreeMap as tree
use Rattle.std.specs.BTreeMap.{IsOrdered, is_at}
use Rattle.std.specs.BTreeSet as set
use Rattle.std.specs.BTreeSet.{contains}
use Rattle.std.specs.Map.{lookup}
use Rattle.std.specs.List.{list_any}
use Rattle.std.specs.List.Sorted.{IsStrictlySortedBy}
use Rattle.std.proofs.lemmas.Bool.{eq-eqb, ne_eqb, cases_eq, false_from_ne_true, and_right}
use Rattle.std.proofs.lemmas.Map.Text.{is_eq-slice_cmp}
use Rattle.repl_sessions.specs.Ids.{IdsData, id_text}
use Rattle.repl_sessions.specs.Inside.Keeps.{Live, Index, Keeps, has, by_text}
use Rattle.repl_sessions.specs.declared.state.SessionState.{SessionState}
use Rattle.repl_sessions.proofs.Numbers.{among-same}

-- when two keys of the index tie
pub tied : (a b : List ℕ × ℕ) → is_at (by_text a) b ≡ (bytes_eq a.0 b.0 && eqb a.1 b.1)
tied a b =
    by (slice_cmp nat_cmp a.0 b.0) (nat_cmp a.1 b.1)
    ∙ ap (λ (t : Bool). t && is_eq (nat_cmp a.1 b.1)) (is_eq-slice_cmp a.0 b.0)
    ∙ ap (λ (t : Bool). bytes_eq a.0 b.0 && t) (unsigned_tied a.1 b.1)
  where
    by : (o p : Ordering) → is_eq (ordering_then o p) ≡ (is_eq o && is_eq p)
    by Less p = refl
    by Equal p = refl
    by Greater p = refl

tied-here : (t u : List ℕ) (n : ℕ) → is_at (by_text (t, n)) (u, n) ≡ bytes_eq t u
tied-here t u n = tied (t, n) (u, n) ∙ ap (λ (b : Bool). bytes_eq t u && b) (eq-eqb n n refl) ∙ by (bytes_eq t u)
  where
    by : (b : Bool) → (b && true) ≡ b
    by true = refl
    by false = refl

tied-there : (t u : List ℕ) (n k : ℕ) → (n ≡ k → ⊥) → is_at (by_text (t, n)) (u, k) ≡ false
tied-there t u n k ne = tied (t, n) (u, k) ∙ ap (λ (b : Bool). bytes_eq t u && b) (ne_eqb n k ne) ∙ and_right (bytes_eq t u) false refl

-- the next number is no session's
pub no-next : (ids : IdsData) (n : ℕ) (live : Live) (index : Index) → Keeps ids n live index → has live n ≡ false
no-next ids n live index kept = false_from_ne_true (has live n) (λ is. let h : n < n = kept.below n is in omega (arith, h))

-- what the map has after a change at n
has-here : (live live' : Live) (n : ℕ) (v : Option SessionState) → tree.Updates nat_cmp live live' n v → has live' n ≡ is_some v
has-here live live' n v h =
    ap is_some (h.0 n) ∙ ap (λ (b : Bool). is_some (cond b v (tree.get nat_cmp live n))) (unsigned_tied n n ∙ eq-eqb n n refl)

has-there : (live live' : Live) (n k : ℕ) (v : Option SessionState) → tree.Updates nat_cmp live live' n v → (n ≡ k → ⊥) → has live' k ≡ has live k
has-there live live' n k v h ne =
    ap is_some (h.0 k) ∙ ap (λ (b : Bool). is_some (cond b v (tree.get nat_cmp live k))) (unsigned_tied n k ∙ ne_eqb n k ne)

pub opened-keeps : (ids : IdsData) (n n' : ℕ) (live live' : Live) (index index' : Index) (t : List ℕ) (v : SessionState)
    → Keeps ids n live index → n' ≡ n + 1 → t ≡ id_text ids n → IsOrdered nat_cmp live' → tree.Updates nat_cmp live live' n (Some v)
    → set.Updates by_text index index' (t, n) true → Keeps ids n' live' index'
opened-keeps ids n n' live live' index index' t v kept next is ordered put noted = record {
  ordered = ordered;
  below = λ k h. ⊎_elim (λ e. omega (arith, next, e))
      (λ ne. let was : k < n = kept.below k (sym (has-there live live' n k (Some v) put ne) ∙ h) in omega (arith, next, was)) (cases_eq n k);
  indexed = λ q. ⊎_elim
      (λ e. subst (λ (k : ℕ). contains by_text index' (q.0, k) ≡ (has live' k && bytes_eq (id_text ids k) q.0)) e (here q.0))
      (λ ne. noted.0 q ∙ ap (λ (b : Bool). cond b true (contains by_text index q)) (tied-there t q.0 n q.1 ne) ∙ kept.indexed q
      ∙ ap (λ (b : Bool). b && bytes_eq (id_text ids q.1) q.0) (sym (has-there live live' n q.1 (Some v) put ne)))
      (cases_eq n q.1);
}
  where
    absent : (u : List ℕ) → contains by_text index (u, n) ≡ false
    absent u = kept.indexed (u, n) ∙ ap (λ (b : Bool). b && bytes_eq (id_text ids n) u) (no-next ids n live index kept)

    by : (b : Bool) → cond b true false ≡ b
    by true = refl
    by false = refl

    here : (u : List ℕ) → contains by_text index' (u, n) ≡ (has live' n && bytes_eq (id_text ids n) u)
    here u =
        noted.0 (u, n) ∙ ap (λ (b : Bool). cond b true (contains by_text index (u, n))) (tied-here t u n)
        ∙ ap (λ (b : Bool). cond (bytes_eq t u) true b) (absent u) ∙ by (bytes_eq t u)
        ∙ ap (λ (x : List ℕ). bytes_eq x u) is
        ∙ ap (λ (b : Bool). b && bytes_eq (id_text ids n) u) (sym (has-here live live' n (Some v) put))

-- a session that could not be kept leaves no trace
pub refused-keeps : (ids : IdsData) (n : ℕ) (live live' : Live) (index index' index'' : Index) (t : List ℕ)
    → Keeps ids n live index → IsOrdered nat_cmp live' → live'.entries ≡ live.entries → set.Updates by_text index index' (t, n) true
    → set.Updates by_text index' index'' (t, n) false → Keeps ids n live' index''
refused-keeps ids n live live' index index' index'' t kept ordered same noted forgotten = record {
  ordered = ordered;
  below = λ k h. kept.below k (sym (stays k) ∙ h);
  indexed = λ q. contained q ∙ kept.indexed q ∙ ap (λ (b : Bool). b && bytes_eq (id_text ids q.1) q.0) (sym (stays q.1));
}
  where
    stays : (k : ℕ) → has live' k ≡ has live k
    stays k = ap (λ (es : List (ℕ × SessionState)). is_some (lookup (is_at (nat_cmp k)) es)) same

    absent : (u : List ℕ) → contains by_text index (u, n) ≡ false
    absent u = kept.indexed (u, n) ∙ ap (λ (b : Bool). b && bytes_eq (id_text ids n) u) (no-next ids n live index kept)

    by : (b c : Bool) → c ≡ false → cond b false (cond b true c) ≡ c
    by true c e = sym e
    by false c e = refl

    there : (q : List ℕ × ℕ) (b : Bool) → b ≡ false → cond b false (cond b true (contains by_text index q)) ≡ contains by_text index q
    there q true e = absurd (cc)
    there q false e = refl

    contained : (q : List ℕ × ℕ) → contains by_text index'' q ≡ contains by_text index q
    contained q =
        forgotten.0 q ∙ ap (λ (b : Bool). cond (is_at (by_text (t, n)) q) false b) (noted.0 q)
        ∙ ⊎_elim
        (λ e. subst (λ (k : ℕ). cond (is_at (by_text (t, n)) (q.0, k)) false (cond (is_at (by_text (t, n)) (q.0, k)) true (contains by_text index (q.0, k)))
        ≡ contains by_text index (q.0, k)) e (by (is_at (by_text (t, n)) (q.0, n)) (contains by_text index (q.0, n)) (absent q.0)))
        (λ ne. there q (is_at (by_text (t, n)) q) (tied-there t q.0 n q.1 ne))
        (cases_eq n q.1)

-- a copy
pub copied-keeps : (ids : IdsData) (n : ℕ) (live live' : Live) (index index' : Index)
    → Keeps ids n live index → tree.keys live' ≡ tree.keys live → index'.keys ≡ index.keys → Keeps ids n live' index'
copied-keeps ids n live live' index index' kept numbers names = record {
  ordered = subst (λ (ks : List ℕ). IsStrictlySortedBy nat_cmp ks) (sym numbers) kept.ordered;
  below = λ k h. kept.below k (sym (stays k) ∙ h);
  indexed = λ q. ap (λ (ks : List (List ℕ × ℕ)). list_any (is_at (by_text q)) ks) names ∙ kept.indexed q
      ∙ ap (λ (b : Bool). b && bytes_eq (id_text ids q.1) q.0) (sym (stays q.1));
}
  where
    stays : (k : ℕ) → has live' k ≡ has live k
    stays k = among-same live'.entries live.entries k numbers
