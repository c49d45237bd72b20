-- The first key of the index from a text on is the oldest session's with that text.
use Rattle.std.proofs.Common.{◌≡◌, ℕ, ◌<◌, ◌≤◌, Bool, true, false, cond, eqb, List, [], ◌∷◌, find, Option, Some, None, option_map, is_some, IsTrue, refl, sym, ap, subst, ◌∙◌, ◌⊎◌, inl, inr, ⊎_elim, true≢false, slice_get, length, map, arith}
use Rattle.std.specs.Bool.{then_some}
use Rattle.std.specs.Option.{IfSome}
use Rattle.std.specs.Str.{bytes_eq}
use Rattle.std.specs.Cmp.{unsigned_tied}
use Rattle.std.specs.Cmp.Lexicographic.{slice_cmp}
use Rattle.std.specs.Ordering.{nat_cmp, is_gt, ordering_then, ordering_reverse}
use Rattle.std.specs.declared.cmp.Ordering.{Ordering}
use Rattle.std.specs.declared.cmp.Ordering.TheVariants.{Less, Equal, Greater}
use Rattle.std.specs.declared.ops.Bound.TheVariants.{Included, Unbounded}
use Rattle.std.specs.BTreeMap.Range.{IsLeBy}
use Rattle.std.specs.BTreeSet.{contains, IsKeyInRange, IsKeyRangeOf}
use Rattle.std.specs.Map.{keys_of, lookup}
use Rattle.std.proofs.lemmas.Bool.{eqb-true, eq-eqb, and_parts, and_from, false_from_ne_true}
use Rattle.std.proofs.lemmas.Bool.Decides.{nat_tests}
use Rattle.std.proofs.lemmas.Cmp.{nat_list_cmp_total, tied_itself}
use Rattle.std.proofs.lemmas.Map.Keys.{le_from_not_gt}
use Rattle.std.proofs.lemmas.Map.Lookups.{exact_bytes}
use Rattle.std.proofs.lemmas.Slice.Eq.{bytes_eq-Decides}
use Rattle.uuid.proofs.TextLemmas.{by_index_length}
use Rattle.repl_sessions.specs.Ids.{IdsData, id_text}
use Rattle.repl_sessions.specs.Sessions.{SessionData, is_numbered, is_open}
use Rattle.repl_sessions.specs.Named.{NamedSessions, is_named, number_named}
use Rattle.repl_sessions.specs.Inside.View.{session_view, live_view}
use Rattle.repl_sessions.specs.Inside.Keeps.{Live, Index, Keeps, has, by_text}
use Rattle.repl_sessions.specs.declared.state.SessionState.{SessionState}
use Rattle.repl_sessions.proofs.Numbers.{Entries, at, among, AllAbove, Rise, rise, among-behind, among-first}

-- whether the session of this number has this text
abbrev pub has_text : IdsData → List ℕ → ℕ → Bool
has_text ids text n = bytes_eq (id_text ids n) text

abbrev pub first_named : IdsData → List ℕ → Entries → Option ℕ
first_named ids text es = option_map (λ x. x.number) (find (is_named ids text) (live_view es))

among-cases : (e : ℕ × SessionState) (es : Entries) (n : ℕ) → among (e ∷ es) n ≡ true → (n ≡ e.0) ⊎ (among es n ≡ true)
among-cases e es n h =
    by (eqb n e.0) (λ same. eqb-true n e.0 same) (ap (λ (b : Bool). is_some (cond b (Some e.1) (lookup (at n) es))) (sym (unsigned_tied n e.0)) ∙ h)
  where
    by : (b : Bool) → (b ≡ true → n ≡ e.0) → is_some (cond b (Some e.1) (lookup (at n) es)) ≡ true → (n ≡ e.0) ⊎ (among es n ≡ true)
    by true same is = inl (same refl)
    by false same is = inr is

above-among : (m : ℕ) (es : Entries) (n : ℕ) → AllAbove m es → among es n ≡ true → m < n
above-among m [] n h is = absurd (cc)
above-among m (e ∷ es) n h is =
    ⊎_elim (λ same. omega (arith, same, h.0)) (λ later. above-among m es n h.1 later) (among-cases e es n is)

-- the first session with a number of a kind
abbrev pub first_numbered : (ℕ → Bool) → Entries → Option ℕ
first_numbered p es = option_map (λ x. x.number) (find (λ x. p x.number) (live_view es))

pub numbered-none : (p : ℕ → Bool) (es : Entries) → ((k : ℕ) → among es k ≡ true → p k ≡ false) → first_numbered p es ≡ None
numbered-none p [] h = refl
numbered-none p (e ∷ es) h =
    ap (λ (b : Bool). option_map (λ x. x.number) (cond b (Some (session_view e)) (find (λ x. p x.number) (live_view es))))
    (h e.0 (among-first e es))
    ∙ numbered-none p es (λ k is. h k (among-behind e es k is))

pub numbered-first : (p : ℕ → Bool) (es : Entries) (n : ℕ) → Rise es → among es n ≡ true → p n ≡ true
    → ((k : ℕ) → among es k ≡ true → p k ≡ true → n ≤ k) → first_numbered p es ≡ Some n
numbered-first p [] n up is has_it least = absurd (cc)
numbered-first p (e ∷ es) n up is has_it least =
    by (p e.0) refl (among-cases e es n is)
    (λ later. numbered-first p es n up.1 later has_it (λ k h. least k (among-behind e es k h)))
  where
    by : (b : Bool) → p e.0 ≡ b → (n ≡ e.0) ⊎ (among es n ≡ true) → (among es n ≡ true → first_numbered p es ≡ Some n)
        → option_map (λ x. x.number) (cond b (Some (session_view e)) (find (λ x. p x.number) (live_view es))) ≡ Some n
    by true first (inl same) ih = ap (λ (k : ℕ). Some k) (sym same)
    by true first (inr later) ih =
        let low : n ≤ e.0 = least e.0 (among-first e es) first in
        absurd (omega (arith, low, above-among e.0 es n up.0 later))
    by false first (inl same) ih =
        let no : p n ≡ false = ap p same ∙ first in
        absurd (cc)
    by false first (inr later) ih = ih later

named-none : (ids : IdsData) (text : List ℕ) (es : Entries) → ((k : ℕ) → among es k ≡ true → has_text ids text k ≡ false) → first_named ids text es ≡ None
named-none ids text es h = numbered-none (has_text ids text) es h

named-first : (ids : IdsData) (text : List ℕ) (es : Entries) (n : ℕ) → Rise es → among es n ≡ true → has_text ids text n ≡ true
    → ((k : ℕ) → among es k ≡ true → has_text ids text k ≡ true → n ≤ k) → first_named ids text es ≡ Some n
named-first ids text es n up is has_it least = numbered-first (has_text ids text) es n up is has_it least

-- the order of the index
then-not-gt : (o p : Ordering) → is_gt (ordering_then o p) ≡ false → is_gt o ≡ false
then-not-gt Less p h = refl
then-not-gt Equal p h = refl
then-not-gt Greater p h = h

both-not-gt : (x y : List ℕ) → is_gt (slice_cmp nat_cmp x y) ≡ false → is_gt (slice_cmp nat_cmp y x) ≡ false → x ≡ y
both-not-gt x y h k =
    by (slice_cmp nat_cmp x y) refl h
  where
    by : (o : Ordering) → slice_cmp nat_cmp x y ≡ o → is_gt o ≡ false → x ≡ y
    by Less e g =
        let back : is_gt (slice_cmp nat_cmp y x) ≡ true = ap is_gt (nat_list_cmp_total.antisymm y x) ∙ ap (λ (o : Ordering). is_gt (ordering_reverse o)) e in
        absurd (cc)
    by Equal e g = exact_bytes x y e
    by Greater e g = absurd (cc)

-- a key of this text is in the range that begins at it
pub from-text : (text : List ℕ) (k : ℕ) → is_gt (by_text (text, 0) (text, k)) ≡ false
from-text text k =
    ap (λ (o : Ordering). is_gt (ordering_then o (nat_cmp 0 k))) (tied_itself nat_list_cmp_total text) ∙ by k
  where
    by : (j : ℕ) → is_gt (nat_cmp 0 j) ≡ false
    by j = grind (arith, nat_tests)

pub not-above : (n k : ℕ) (text : List ℕ) → is_gt (by_text (text, n) (text, k)) ≡ false → n ≤ k
not-above n k text h =
    le_from_not_gt n k (ap (λ (o : Ordering). is_gt (ordering_then o (nat_cmp n k))) (sym (tied_itself nat_list_cmp_total text)) ∙ h)

abbrev pub Range : Index → List ℕ → List (List ℕ × ℕ) → Type 0
Range index text r = IsKeyRangeOf by_text (Included (text, 0)) Unbounded index r

module _ (ids : IdsData) (opened : ℕ) (live : Live) (index : Index) (kept : Keeps ids opened live index) (text : List ℕ) where
  -- a session with this text is in the index
  indexed-text : (k : ℕ) → has live k ≡ true → has_text ids text k ≡ true → IsTrue (contains by_text index (text, k))
  indexed-text k h t = kept.indexed (text, k) ∙ and_from _ _ h t

  pub range-none : (r : List (List ℕ × ℕ)) → r ≡ [] → Range index text r → first_named ids text live.entries ≡ None
  range-none r empty range =
      named-none ids text live.entries (λ k h. false_from_ne_true _ (λ t.
      let no : contains by_text index (text, k) ≡ false = range.5 empty (text, k) (from-text text k, tt) in
      let is : contains by_text index (text, k) ≡ true = kept.indexed (text, k) ∙ and_from _ _ h t in
      cc))

  pub range-first : (r rest : List (List ℕ × ℕ)) (key : List ℕ × ℕ) → r ≡ key ∷ rest → Range index text r
      → then_some (bytes_eq key.0 text) key.1 ≡ first_named ids text live.entries
  range-first r rest key is range =
      by (bytes_eq key.0 text) refl
    where
      first : IsTrue (contains by_text index key) × (is_gt (by_text (text, 0) key) ≡ false)
      first =
          let at_first : IfSome (slice_get (key ∷ rest) 0) (IsKeyInRange by_text (Included (text, 0)) Unbounded index) =
          subst (λ (l : List (List ℕ × ℕ)). IfSome (slice_get l 0) (IsKeyInRange by_text (Included (text, 0)) Unbounded index)) is range.1 in
          (at_first.1, at_first.0.0)

      least : (k : ℕ) → has live k ≡ true → has_text ids text k ≡ true → is_gt (by_text key (text, k)) ≡ false
      least k h t =
          subst (λ (l : List (List ℕ × ℕ)). IfSome (slice_get l 0) (λ x. IsLeBy by_text x (text, k))) is
          (range.2 (text, k) (from-text text k, tt) (indexed-text k h t))

      here : (has live key.1 ≡ true) × (bytes_eq (id_text ids key.1) key.0 ≡ true)
      here = and_parts _ _ (sym (kept.indexed key) ∙ first.0)

      same : bytes_eq key.0 text ≡ true → key.0 ≡ text
      same e = (bytes_eq-Decides key.0 text).0 e

      by : (b : Bool) → bytes_eq key.0 text ≡ b → then_some b key.1 ≡ first_named ids text live.entries
      by true e =
          sym (named-first ids text live.entries key.1 (rise live.entries kept.ordered) here.0
          (ap (λ (t : List ℕ). bytes_eq (id_text ids key.1) t) (sym (same e)) ∙ here.1)
          (λ k h t. not-above key.1 k text (ap (λ (u : List ℕ). is_gt (by_text (u, key.1) (text, k))) (sym (same e)) ∙ least k h t)))
      by false e =
          sym (named-none ids text live.entries (λ k h. false_from_ne_true _ (λ t.
          let met : key.0 ≡ text = both-not-gt key.0 text (then-not-gt _ _ (least k h t)) (then-not-gt _ _ first.1) in
          let yes : bytes_eq key.0 text ≡ true = (bytes_eq-Decides key.0 text).1 met in
          cc)))

-- the number that a text is seen to name is that of an open session
numbered : (n : ℕ) (p : SessionData → Bool) (xs : List SessionData) → option_map (λ x. x.number) (find p xs) ≡ Some n
    → is_some (option_map (λ x. x.state) (find (is_numbered n) xs)) ≡ true
numbered n p [] h = absurd (cc)
numbered n p (x ∷ xs) h = by (p x) (eqb n x.number) (λ same. eq-eqb n x.number same) h (numbered n p xs)
  where
    by : (b c : Bool) → (n ≡ x.number → c ≡ true) → option_map (λ x. x.number) (cond b (Some x) (find p xs)) ≡ Some n
        → (option_map (λ x. x.number) (find p xs) ≡ Some n → is_some (option_map (λ x. x.state) (find (is_numbered n) xs)) ≡ true)
        → is_some (option_map (λ x. x.state) (cond c (Some x) (find (is_numbered n) xs))) ≡ true
    by b true same is ih = refl
    by true false same is ih = let e : n ≡ x.number = cc in absurd (true≢false (sym (same e)))
    by false false same is ih = ih is

pub named-open : (s : NamedSessions) (text : List ℕ) → IfSome (number_named s text) (λ n. IsTrue (is_open s.sessions n))
named-open s text = by (number_named s text) refl
  where
    by : (o : Option ℕ) → number_named s text ≡ o → IfSome o (λ n. IsTrue (is_open s.sessions n))
    by (Some n) e = numbered n (is_named s.ids text) s.sessions.live e
    by None e = tt

-- no id has a text of another length
text-length : (ids : IdsData) (n : ℕ) → length (id_text ids n) ≡ 36
unfolding id_text
text-length ids n = by_index_length 36 _

find-none : (p : SessionData → Bool) (xs : List SessionData) → ((x : SessionData) → p x ≡ false) → find p xs ≡ None
find-none p [] h = refl
find-none p (x ∷ xs) h = ap (λ (b : Bool). cond b (Some x) (find p xs)) (h x) ∙ find-none p xs h

pub named-short : (s : NamedSessions) (text : List ℕ) → (length text ≡ 36 → ⊥) → number_named s text ≡ None
named-short s text long =
    ap (option_map (λ x. x.number)) (find-none (is_named s.ids text) s.sessions.live (λ x.
    false_from_ne_true _ (λ same. long (ap length (sym ((bytes_eq-Decides _ _).0 same)) ∙ text-length s.ids x.number))))

-- the texts of the sessions, by their numbers
pub texts-listed : (ids : IdsData) (es : Entries) → map (id_text ids) (keys_of es) ≡ map (λ x. id_text ids x.number) (live_view es)
texts-listed ids [] = refl
texts-listed ids (e ∷ es) = ap (λ (l : List (List ℕ)). id_text ids e.0 ∷ l) (texts-listed ids es)
