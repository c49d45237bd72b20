-- The sessions but for those that are leaving, found in the index.
use Rattle.std.proofs.Common.{◌≡◌, ℕ, ◌<◌, ◌==◌, Bool, true, false, cond, not, ◌&&◌, ◌||◌, List, [], ◌∷◌, ◌++◌, map, filter, find, Option, Some, None, option_map, refl, sym, ap, ◌∙◌, ◌⊎◌, inl, inr, ⊎_elim, true≢false, arith}
use Rattle.std.specs.Str.{bytes_eq}
use Rattle.std.specs.Cmp.{unsigned_tied}
use Rattle.std.specs.Cmp.Lexicographic.{slice_cmp}
use Rattle.std.specs.Ordering.{nat_cmp, is_gt, is_le, ordering_then}
use Rattle.std.specs.declared.cmp.Ordering.{Ordering}
use Rattle.std.specs.declared.cmp.Ordering.TheVariants.{Less, Equal, Greater}
use Rattle.std.specs.declared.ops.Bound.TheVariants.{Included, Excluded}
use Rattle.std.specs.BTreeMap.{is_at}
use Rattle.std.specs.BTreeMap.Range.{range_contains}
use Rattle.std.specs.BTreeSet.{contains}
use Rattle.std.specs.List.{list_any}
use Rattle.std.specs.List.Sorted.{IsStrictlySortedBy}
use Rattle.std.specs.List.{AllByRecursion}
use Rattle.std.specs.Map.{keys_of}
use Rattle.std.proofs.lemmas.Bool.{eqb-true, eq-eqb, and_parts, and_from, false_from_ne_true}
use Rattle.std.proofs.lemmas.Bool.Decides.{nat_tests}
use Rattle.std.proofs.lemmas.Cmp.{nat_list_cmp_total, tied_itself}
use Rattle.std.proofs.lemmas.Map.Keys.{sorted_head, sorted_tail}
use Rattle.std.proofs.lemmas.Map.Lookups.{exact_bytes}
use Rattle.std.proofs.lemmas.Slice.Eq.{bytes_eq-Decides}
use Rattle.repl_sessions.specs.Ids.{IdsData, id_text}
use Rattle.repl_sessions.specs.Sessions.{SessionData}
use Rattle.repl_sessions.specs.Named.{is_named}
use Rattle.repl_sessions.specs.Inside.Leaving.{is_leaving, without_leaving}
use Rattle.repl_sessions.specs.Inside.View.{session_view, live_view}
use Rattle.repl_sessions.specs.Inside.Keeps.{Live, Index, Keeps, has, by_text}
use Rattle.repl_sessions.proofs.Numbers.{Entries, rise}
use Rattle.repl_sessions.proofs.Keeping.{tied}
use Rattle.repl_sessions.proofs.Naming.{has_text, first_numbered, numbered-none, numbered-first, not-above}

pub contains-leaving : (ks : List ℕ) (n : ℕ) → list_any (is_at (nat_cmp n)) ks ≡ is_leaving ks n
contains-leaving [] n = refl
contains-leaving (k ∷ ks) n =
    ap (λ (b : Bool). b || list_any (is_at (nat_cmp n)) ks) (unsigned_tied n k)
    ∙ ap (λ (b : Bool). (n == k) || b) (contains-leaving ks n)

find-filter : {X : Type 0} (p q : X → Bool) (xs : List X) → find p (filter q xs) ≡ find (λ x. q x && p x) xs
find-filter p q [] = refl
find-filter {X} p q (x ∷ xs) = by (q x) (find-filter p q xs)
  where
    by : (b : Bool) → find p (filter q xs) ≡ find (λ x. q x && p x) xs
        → find p (cond b (x ∷ filter q xs) (filter q xs)) ≡ cond (b && p x) (Some x) (find (λ x. q x && p x) xs)
    by true ih = ap (cond (p x) (Some x)) ih
    by false ih = ih

-- what is found, and what comes first of it
module _ {K : Type 0} (P : K → Bool) where
  found-is : (xs : List K) (k : K) → find P xs ≡ Some k → P k ≡ true
  found-is [] k h = absurd (cc)
  found-is (x ∷ xs) k h = by (P x) refl h (λ e. found-is xs k e)
    where
      by : (b : Bool) → P x ≡ b → cond b (Some x) (find P xs) ≡ Some k → (find P xs ≡ Some k → P k ≡ true) → P k ≡ true
      by true is e ih = let same : x ≡ k = cc in ap P (sym same) ∙ is
      by false is e ih = ih e

  found-among : (Q : K → Bool) (xs : List K) (k : K) → find P xs ≡ Some k → Q k ≡ true → list_any Q xs ≡ true
  found-among Q [] k h is = absurd (cc)
  found-among Q (x ∷ xs) k h is = by (P x) h (λ e. found-among Q xs k e is)
    where
      or-true : (b : Bool) → (b || true) ≡ true
      or-true true = refl
      or-true false = refl

      by : (b : Bool) → cond b (Some x) (find P xs) ≡ Some k → (find P xs ≡ Some k → list_any Q xs ≡ true) → (Q x || list_any Q xs) ≡ true
      by true e ih = let same : x ≡ k = cc in ap (λ (b : Bool). b || list_any Q xs) (ap Q same ∙ is)
      by false e ih = ap (λ (b : Bool). Q x || b) (ih e) ∙ or-true (Q x)

  -- a key that has it and is there is found
  missing : (Q : K → Bool) (q : K) (xs : List K) → find P xs ≡ None → ((x : K) → Q x ≡ true → x ≡ q) → P q ≡ true → list_any Q xs ≡ false
  missing Q q [] h one is = refl
  missing Q q (x ∷ xs) h one is = by (P x) (Q x) refl refl h (λ e. missing Q q xs e one is)
    where
      by : (b c : Bool) → P x ≡ b → Q x ≡ c → cond b (Some x) (find P xs) ≡ None → (find P xs ≡ None → list_any Q xs ≡ false) → (c || list_any Q xs) ≡ false
      by true c e f g ih = absurd (cc)
      by false true e f g ih = let yes : P x ≡ true = ap P (one x f) ∙ is in absurd (cc)
      by false false e f g ih = ih g

  -- a key below all others
  below-all : (cmp : K → K → Ordering) (Q : K → Bool) (x q : K) (ys : List K) → AllByRecursion (λ y. cmp x y ≡ Less) ys → list_any Q ys ≡ true
      → ((y : K) → Q y ≡ true → y ≡ q) → cmp x q ≡ Less
  below-all cmp Q x q [] above is one = absurd (cc)
  below-all cmp Q x q (y ∷ ys) above is one = by (Q y) refl is (λ i. below-all cmp Q x q ys above.1 i one)
    where
      by : (b : Bool) → Q y ≡ b → (b || list_any Q ys) ≡ true → (list_any Q ys ≡ true → cmp x q ≡ Less) → cmp x q ≡ Less
      by true e g ih = ap (cmp x) (sym (one y e)) ∙ above.0
      by false e g ih = ih g

  least-found : (cmp : K → K → Ordering) (Q : K → Bool) (q : K) (xs : List K) (k : K) → IsStrictlySortedBy cmp xs → find P xs ≡ Some k
      → list_any Q xs ≡ true → ((x : K) → Q x ≡ true → x ≡ q) → P q ≡ true → (k ≡ q) ⊎ (cmp k q ≡ Less)
  least-found cmp Q q [] k up h is one has_it = absurd (cc)
  least-found cmp Q q (x ∷ xs) k up h is one has_it =
      by (P x) (Q x) refl refl h is (λ e i. least-found cmp Q q xs k (sorted_tail cmp x xs up) e i one has_it)
    where
      by : (b c : Bool) → P x ≡ b → Q x ≡ c → cond b (Some x) (find P xs) ≡ Some k → (c || list_any Q xs) ≡ true
          → (find P xs ≡ Some k → list_any Q xs ≡ true → (k ≡ q) ⊎ (cmp k q ≡ Less)) → (k ≡ q) ⊎ (cmp k q ≡ Less)
      by true true e f g i ih = let same : x ≡ k = cc in inl (sym same ∙ one x f)
      by true false e f g i ih =
          let same : x ≡ k = cc in
          inr (ap (λ (y : K). cmp y q) (sym same) ∙ below-all cmp Q x q xs (sorted_head cmp x xs up) i one)
      by false true e f g i ih = let yes : P x ≡ true = ap P (one x f) ∙ has_it in absurd (cc)
      by false false e f g i ih = ih g i

-- the keys of one text whose numbers were given
abbrev pub of_text : ℕ → List ℕ → List ℕ × ℕ → Bool
of_text opened text key = range_contains by_text (Included (text, 0)) (Excluded (text, opened)) key

text-within : (opened : ℕ) (text : List ℕ) (k : ℕ) → k < opened → of_text opened text (text, k) ≡ true
text-within opened text k low =
    let same = tied_itself nat_list_cmp_total text in
    ap (λ (o : Ordering). is_le (ordering_then o (nat_cmp 0 k)) && not (is_le (ordering_then o (nat_cmp opened k)))) same
    ∙ and_from _ _ (from k) (to opened k low)
  where
    from : (k : ℕ) → is_le (nat_cmp 0 k) ≡ true
    from k = grind (arith, nat_tests)

    to : (n k : ℕ) → k < n → not (is_le (nat_cmp n k)) ≡ true
    to n k low = grind (arith, nat_tests, low)

text-same : (opened : ℕ) (text : List ℕ) (key : List ℕ × ℕ) → of_text opened text key ≡ true → key.0 ≡ text
text-same opened text key h = by (slice_cmp nat_cmp text key.0) refl h
  where
    by : (o : Ordering) → slice_cmp nat_cmp text key.0 ≡ o
        → (is_le (ordering_then o (nat_cmp 0 key.1)) && not (is_le (ordering_then o (nat_cmp opened key.1)))) ≡ true → key.0 ≡ text
    by Less e g = absurd (cc)
    by Equal e g = sym (exact_bytes text key.0 e)
    by Greater e g = absurd (cc)

one-key : (q x : List ℕ × ℕ) → is_at (by_text q) x ≡ true → x ≡ q
one-key q x h =
    let both = and_parts _ _ (sym (tied q x) ∙ h) in
    let text = (bytes_eq-Decides q.0 x.0).0 both.0 in
    let number = eqb-true q.1 x.1 both.1 in
    ap (λ (t : List ℕ). (t, x.1)) (sym text) ∙ ap (λ (n : ℕ). (q.0, n)) (sym number)

at-itself : (q : List ℕ × ℕ) → is_at (by_text q) q ≡ true
at-itself q = tied q q ∙ and_from _ _ ((bytes_eq-Decides q.0 q.0).1 refl) (eq-eqb q.1 q.1 refl)

-- the keys of a text whose sessions stay
abbrev pub staying : ℕ → List ℕ → List ℕ → List ℕ × ℕ → Bool
staying opened leaving text key = of_text opened text key && not (is_leaving leaving key.1)

-- the numbers of the sessions of a text that stay
abbrev staying_number : IdsData → List ℕ → List ℕ → ℕ → Bool
staying_number ids leaving text n = not (is_leaving leaving n) && has_text ids text n

module _ (ids : IdsData) (opened : ℕ) (live : Live) (index : Index) (kept : Keeps ids opened live index)
    (sorted : IsStrictlySortedBy by_text index.keys) (leaving text : List ℕ) where
  indexed-text : (k : ℕ) → has live k ≡ true → has_text ids text k ≡ true → contains by_text index (text, k) ≡ true
  indexed-text k h t = kept.indexed (text, k) ∙ and_from _ _ h t

  stays : (k : ℕ) → has live k ≡ true → staying_number ids leaving text k ≡ true → staying opened leaving text (text, k) ≡ true
  stays k h p =
      and_from _ _ (text-within opened text k (kept.below k h)) (and_parts _ _ p).0

  pub first-staying : (o : Option (List ℕ × ℕ)) → o ≡ find (staying opened leaving text) index.keys
      → option_map (λ k. k.1) o ≡ first_numbered (staying_number ids leaving text) live.entries
  first-staying None is =
      sym (numbered-none (staying_number ids leaving text) live.entries (λ k h. false_from_ne_true _ (λ p.
      let no : contains by_text index (text, k) ≡ false = missing (staying opened leaving text) (is_at (by_text (text, k))) (text, k) index.keys (sym is) (one-key (text, k)) (stays k h p) in
      let yes : contains by_text index (text, k) ≡ true = indexed-text k h (and_parts _ _ p).1 in
      true≢false (sym yes ∙ no))))
  first-staying (Some key) is =
      let it = found-is (staying opened leaving text) index.keys key (sym is) in
      let same = text-same opened text key (and_parts _ _ it).0 in
      let here = and_parts _ _ (sym (kept.indexed key) ∙ found-among (staying opened leaving text) (is_at (by_text key)) index.keys key (sym is) (at-itself key)) in
      sym (numbered-first (staying_number ids leaving text) live.entries key.1 (rise live.entries kept.ordered) here.0
      (and_from _ _ (and_parts _ _ it).1 (ap (λ (t : List ℕ). bytes_eq (id_text ids key.1) t) (sym same) ∙ here.1))
      (λ k h p. ⊎_elim (λ e. let n : key.1 ≡ k = ap (λ (q : List ℕ × ℕ). q.1) e in omega (arith, n))
      (λ less. not-above key.1 k text (ap (λ (u : List ℕ). is_gt (by_text (u, key.1) (text, k))) (sym same) ∙ ap is_gt less))
      (least-found (staying opened leaving text) by_text (is_at (by_text (text, k))) (text, k) index.keys key sorted (sym is)
      (indexed-text k h (and_parts _ _ p).1) (one-key (text, k)) (stays k h p))))

  -- the session of this text, of those that remain
  pub named-remaining : (o : Option (List ℕ × ℕ)) → o ≡ find (staying opened leaving text) index.keys
      → option_map (λ k. k.1) o ≡ option_map (λ x. x.number) (find (is_named ids text) (filter (λ x. not (is_leaving leaving x.number)) (live_view live.entries)))
  named-remaining o is =
      first-staying o is
      ∙ sym (ap (option_map (λ x. x.number)) (find-filter (is_named ids text) (λ (x : SessionData). not (is_leaving leaving x.number)) (live_view live.entries)))

-- the ids that remain, by their numbers
pub texts-remaining : (ids : IdsData) (leaving : List ℕ) (es : Entries)
    → map (id_text ids) (without_leaving leaving (keys_of es)) ≡ map (λ x. id_text ids x.number) (filter (λ x. not (is_leaving leaving x.number)) (live_view es))
texts-remaining ids leaving [] = refl
texts-remaining ids leaving (e ∷ es) = by (is_leaving leaving e.0) (texts-remaining ids leaving es)
  where
    by : (b : Bool) → map (id_text ids) (without_leaving leaving (keys_of es)) ≡ map (λ x. id_text ids x.number) (filter (λ x. not (is_leaving leaving x.number)) (live_view es))
        → map (id_text ids) (cond (not b) (e.0 ∷ without_leaving leaving (keys_of es)) (without_leaving leaving (keys_of es)))
        ≡ map (λ x. id_text ids x.number) (cond (not b) (session_view e ∷ filter (λ x. not (is_leaving leaving x.number)) (live_view es)) (filter (λ x. not (is_leaving leaving x.number)) (live_view es)))
    by true ih = ih
    by false ih = ap (λ (l : List (List ℕ)). id_text ids e.0 ∷ l) ih

find-same : {X : Type 0} (p q : X → Bool) (xs : List X) → ((x : X) → p x ≡ q x) → find p xs ≡ find q xs
find-same p q [] same = refl
find-same p q (x ∷ xs) same = ap (λ (b : Bool). cond b (Some x) (find p xs)) (same x) ∙ ap (cond (q x) (Some x)) (find-same p q xs same)

-- the code's test
abbrev pub not_among : List ℕ → List ℕ × ℕ → Bool
not_among leaving key = not (list_any (is_at (nat_cmp key.1)) leaving)

pub found-staying : (opened : ℕ) (leaving text : List ℕ) (keys : List (List ℕ × ℕ))
    → find (not_among leaving) (filter (of_text opened text) keys) ≡ find (staying opened leaving text) keys
found-staying opened leaving text keys =
    find-filter (not_among leaving) (of_text opened text) keys
    ∙ find-same _ (staying opened leaving text) keys (λ key. ap (λ (b : Bool). of_text opened text key && not b) (contains-leaving leaving key.1))

-- one number more is listed, or is leaving
pub one-listed : (ids : IdsData) (leaving ns : List ℕ) (n : ℕ) (b : Bool) → is_leaving leaving n ≡ b
    → map (id_text ids) (without_leaving leaving (ns ++ n ∷ [])) ≡ map (id_text ids) (without_leaving leaving ns) ++ cond b [] (id_text ids n ∷ [])
one-listed ids leaving [] n true is = ap (λ (b : Bool). map (id_text ids) (cond (not b) (n ∷ []) [])) is
one-listed ids leaving [] n false is = ap (λ (b : Bool). map (id_text ids) (cond (not b) (n ∷ []) [])) is
one-listed ids leaving (m ∷ ns) n b is = by (is_leaving leaving m) (one-listed ids leaving ns n b is)
  where
    by : (c : Bool) → map (id_text ids) (without_leaving leaving (ns ++ n ∷ [])) ≡ map (id_text ids) (without_leaving leaving ns) ++ cond b [] (id_text ids n ∷ [])
        → map (id_text ids) (cond (not c) (m ∷ without_leaving leaving (ns ++ n ∷ [])) (without_leaving leaving (ns ++ n ∷ [])))
        ≡ map (id_text ids) (cond (not c) (m ∷ without_leaving leaving ns) (without_leaving leaving ns)) ++ cond b [] (id_text ids n ∷ [])
    by true ih = ih
    by false ih = ap (λ (l : List (List ℕ)). id_text ids m ∷ l) ih
