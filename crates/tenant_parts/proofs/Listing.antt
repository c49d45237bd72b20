-- The list of the names of those that have something to do, through changes.
use Rattle.std.proofs.Common.{◌≡◌, ℕ, ◌<◌, zero, suc, Bool, true, false, not, ◌&&◌, ◌||◌, ◌==◌, cond}
use Rattle.std.proofs.Common.{List, [], ◌∷◌, ◌++◌, Option, Some, None, refl, sym, ap, ◌∙◌, subst}
use Rattle.std.proofs.Common.{true≢false, arith, ◌-◌, length, take, is_some, Result, Ok, Err, OnOk}
use Rattle.std.proofs.Common.{OnErr}
use Rattle.std.specs.List.{list_any}
use Rattle.std.specs.BTreeSet.{BTreeSet, contains, Updates}
use Rattle.std.proofs.lemmas.Bool.{eqb-true, ne_eqb}
use Rattle.ref_table.specs.Numbered.{Entry, entry, part_under, with_part, without}
use Rattle.server_rules.specs.Machine.Ready.{has_waiting}
use Rattle.server_rules.specs.Request.{Waiting, WorkInHand}
use Rattle.server_rules.specs.Tenant.{ActorData, actor_at, seat_of}
use Rattle.server_rules.specs.declared.actor.Actor.{Actor}
use Rattle.tenant_parts.specs.Busy.{is_busy, passes}
use Rattle.tenant_parts.specs.Lent.{AreAbove, ActorsAscend, IsBusyIfThere, MayBeLent}
use Rattle.tenant_parts.specs.Listed.{lists, lists_agents, is_listed, are_listed, AgreeApart}
use Rattle.tenant_parts.specs.Queues.{without_newest}
use Rattle.tenant_parts.proofs.EntryLaws.{found_first, replaced_first, without_first}
use Rattle.tenant_parts.proofs.EntryLaws.{with_part-nothing}
use Rattle.tenant_parts.proofs.Seats.{at, at-seats, by_name, seat-back}

abbrev pub Names : Type 0
Names = BTreeSet Actor

abbrev pub Entries : Type 0
Entries = List (Entry ActorData)

-- each name that the one has the other has
abbrev pub Keeps : Names → Names → Type 0
Keeps s t = (n : ℕ) → lists s n ≡ true → lists t n ≡ true

-- Tests

first-true : (b c : Bool) → (b && c) ≡ true → b ≡ true
first-true true c e = refl
first-true false c e = absurd (true≢false (sym e))

second-true : (b c : Bool) → (b && c) ≡ true → c ≡ true
second-true true c e = e
second-true false c e = absurd (true≢false (sym e))

both-true : (b c : Bool) → b ≡ true → c ≡ true → (b && c) ≡ true
both-true true c e f = f
both-true false c e f = absurd (true≢false (sym e))

when : (b c : Bool) → (b ≡ true → c ≡ true) → (not b || c) ≡ true
when true c h = h refl
when false c h = refl

holds : (b c : Bool) → (not b || c) ≡ true → b ≡ true → c ≡ true
holds true c h is = h
holds false c h is = absurd (true≢false (sym is))

-- One entry

listed-then : (s : Names) (e : Entry ActorData) → is_listed s e ≡ true → is_busy e.part ≡ true
    → lists s e.number ≡ true
listed-then s e h busy = holds (is_busy e.part) (lists s e.number) h busy

listed-when : (s : Names) (e : Entry ActorData) → (is_busy e.part ≡ true → lists s e.number ≡ true)
    → is_listed s e ≡ true
listed-when s e h = when (is_busy e.part) (lists s e.number) h

-- All entries

pub listed-first : (s : Names) (e : Entry ActorData) (es : Entries)
    → are_listed s (e ∷ es) ≡ true → is_busy e.part ≡ true → lists s e.number ≡ true
listed-first s e es h busy =
    listed-then s e (first-true (is_listed s e) (are_listed s es) h) busy

pub listed-others : (s : Names) (e : Entry ActorData) (es : Entries)
    → are_listed s (e ∷ es) ≡ true → are_listed s es ≡ true
listed-others s e es h = second-true (is_listed s e) (are_listed s es) h

pub listed-more : (s t : Names) (es : Entries) → Keeps s t → are_listed s es ≡ true
    → are_listed t es ≡ true
listed-more s t [] keeps h = refl
listed-more s t (e ∷ es) keeps h =
    both-true (is_listed t e) (are_listed t es)
    (listed-when t e (λ busy. keeps e.number
    (listed-then s e (first-true (is_listed s e) (are_listed s es) h) busy)))
    (listed-more s t es keeps (second-true (is_listed s e) (are_listed s es) h))

-- an actor that is listed changes
pub listed-put : (s t : Names) (n : ℕ) (x : ActorData) (es : Entries) → lists t n ≡ true → Keeps s t
    → are_listed s es ≡ true → are_listed t (with_part n x es) ≡ true
listed-put s t n x [] is keeps h = refl
listed-put s t n x (e ∷ es) is keeps h =
    by (listed-put s t n x es is keeps more) (n == e.number)
  where
    more : are_listed s es ≡ true
    more = second-true (is_listed s e) (are_listed s es) h

    by : are_listed t (with_part n x es) ≡ true → (b : Bool)
        → are_listed t (replaced_first b n x e es) ≡ true
    by behind true =
        both-true (is_listed t (entry n x)) (are_listed t es)
        (listed-when t (entry n x) (λ busy. is)) (listed-more s t es keeps more)
    by behind false =
        both-true (is_listed t e) (are_listed t (with_part n x es))
        (listed-when t e (λ busy. keeps e.number
        (listed-then s e (first-true (is_listed s e) (are_listed s es) h) busy)))
        behind

-- an actor changes, which had something to do if it has something to do now
pub listed-less : (s : Names) (n : ℕ) (x y : ActorData) (es : Entries)
    → part_under n es ≡ Some y → (is_busy x ≡ true → is_busy y ≡ true)
    → are_listed s es ≡ true → are_listed s (with_part n x es) ≡ true
listed-less s n x y [] there less h = refl
listed-less s n x y (e ∷ es) there less h =
    by (λ found. listed-less s n x y es found less more) (n == e.number)
    (λ same. eqb-true n e.number same) there
  where
    first : is_listed s e ≡ true
    first = first-true (is_listed s e) (are_listed s es) h

    more : are_listed s es ≡ true
    more = second-true (is_listed s e) (are_listed s es) h

    by : (part_under n es ≡ Some y → are_listed s (with_part n x es) ≡ true)
        → (b : Bool) → (b ≡ true → n ≡ e.number)
        → found_first b e.part (part_under n es) ≡ Some y
        → are_listed s (replaced_first b n x e es) ≡ true
    by behind true same found =
        let here : e.part ≡ y = cc in
        both-true (is_listed s (entry n x)) (are_listed s es)
        (listed-when s (entry n x) (λ busy. ap (lists s) (same refl)
        ∙ listed-then s e first (ap is_busy here ∙ less busy)))
        more
    by behind false same found =
        both-true (is_listed s e) (are_listed s (with_part n x es)) first (behind found)

-- an actor that has something to do is listed
pub listed-has : (s : Names) (n : ℕ) (y : ActorData) (es : Entries) → part_under n es ≡ Some y
    → is_busy y ≡ true → are_listed s es ≡ true → lists s n ≡ true
listed-has s n y [] there busy h = absurd (cc)
listed-has s n y (e ∷ es) there busy h =
    by (λ found. listed-has s n y es found busy
    (second-true (is_listed s e) (are_listed s es) h)) (n == e.number)
    (λ same. eqb-true n e.number same) there
  where
    by : (part_under n es ≡ Some y → lists s n ≡ true) → (b : Bool) → (b ≡ true → n ≡ e.number)
        → found_first b e.part (part_under n es) ≡ Some y → lists s n ≡ true
    by behind true same found =
        let here : e.part ≡ y = cc in
        ap (lists s) (same refl)
        ∙ listed-then s e (first-true (is_listed s e) (are_listed s es) h) (ap is_busy here ∙ busy)
    by behind false same found = behind found

-- an actor that is lent is listed, whatever becomes of it
pub listed-lent : (s : Names) (n : ℕ) (x : ActorData) (es : Entries)
    → IsBusyIfThere (part_under n es) → are_listed s es ≡ true
    → are_listed s (with_part n x es) ≡ true
listed-lent s n x es busy h = by (part_under n es) refl busy
  where
    by : (o : Option ActorData) → part_under n es ≡ o → IsBusyIfThere o
        → are_listed s (with_part n x es) ≡ true
    by None absent busy = ap (are_listed s) (with_part-nothing n x es absent) ∙ h
    by (Some y) there busy =
        listed-put s s n x es (listed-has s n y es there busy h) (λ m k. k) h

-- that of agents is always listed
pub listed-lent_of : (s : Names) (a : Actor) (x : ActorData) (es : Entries)
    → MayBeLent a (part_under (seat_of a) es) → lists_agents s ≡ true → are_listed s es ≡ true
    → are_listed s (with_part (seat_of a) x es) ≡ true
listed-lent_of s Actor.Agents x es may agents h = listed-put s s 0 x es agents (λ m k. k) h
listed-lent_of s Actor.Bare x es may agents h = listed-lent s 1 x es may h
listed-lent_of s (Actor.Session n) x es may agents h = listed-lent s (suc (suc n)) x es may h

-- an actor goes, and its name
pub listed-gone : (s t : Names) (n : ℕ) (es : Entries) → AgreeApart n s t
    → are_listed s es ≡ true → are_listed t (without n es) ≡ true
listed-gone s t n [] agree h = refl
listed-gone s t n (e ∷ es) agree h =
    by (listed-gone s t n es agree (second-true (is_listed s e) (are_listed s es) h))
    (n == e.number) refl
  where
    by : are_listed t (without n es) ≡ true → (b : Bool) → (n == e.number) ≡ b
        → are_listed t (without_first b e (without n es)) ≡ true
    by behind true same = behind
    by behind false apart =
        both-true (is_listed t e) (are_listed t (without n es))
        (listed-when t e (λ busy. agree e.number apart
        ∙ listed-then s e (first-true (is_listed s e) (are_listed s es) h) busy))
        behind

listed-above : (s t : Names) (n : ℕ) (es : Entries) → AgreeApart n s t → AreAbove n es
    → are_listed s es ≡ true → are_listed t es ≡ true
listed-above s t n [] agree above h = refl
listed-above s t n (e ∷ es) agree above h =
    both-true (is_listed t e) (are_listed t es)
    (listed-when t e (λ busy. agree e.number (ne_eqb n e.number (apart above.0))
    ∙ listed-then s e (first-true (is_listed s e) (are_listed s es) h) busy))
    (listed-above s t n es agree above.1 (second-true (is_listed s e) (are_listed s es) h))
  where
    apart : n < e.number → n ≡ e.number → ⊥
    apart below same = let never : n < n = subst (λ k. n < k) (sym same) below in omega (arith, never)

-- the name of an actor that has nothing to do goes
pub listed-rest : (s t : Names) (n : ℕ) (es : Entries) → AgreeApart n s t → ActorsAscend es
    → passes is_busy (part_under n es) ≡ false → are_listed s es ≡ true → are_listed t es ≡ true
listed-rest s t n [] agree up idle h = refl
listed-rest s t n (e ∷ es) agree up idle h =
    by (λ rest. listed-rest s t n es agree up.1 rest more) (n == e.number) refl idle
  where
    more : are_listed s es ≡ true
    more = second-true (is_listed s e) (are_listed s es) h

    by : (passes is_busy (part_under n es) ≡ false → are_listed t es ≡ true)
        → (b : Bool) → (n == e.number) ≡ b
        → passes is_busy (found_first b e.part (part_under n es)) ≡ false
        → are_listed t (e ∷ es) ≡ true
    by behind true same idle =
        both-true (is_listed t e) (are_listed t es)
        (listed-when t e (λ busy. absurd (true≢false (sym busy ∙ idle))))
        (listed-above s t n es agree
        (subst (λ k. AreAbove k es) (sym (eqb-true n e.number same)) up.0) more)
    by behind false apart idle =
        both-true (is_listed t e) (are_listed t es)
        (listed-when t e (λ busy. agree e.number apart
        ∙ listed-then s e (first-true (is_listed s e) (are_listed s es) h) busy))
        (behind idle)

-- an actor comes behind all others
pub listed-behind : (s : Names) (e : Entry ActorData) (es : Entries) → is_busy e.part ≡ false
    → are_listed s es ≡ true → are_listed s (es ++ e ∷ []) ≡ true
listed-behind s e [] idle h =
    both-true (is_listed s e) true
    (listed-when s e (λ busy. absurd (true≢false (sym busy ∙ idle)))) refl
listed-behind s e (f ∷ es) idle h =
    both-true (is_listed s f) (are_listed s (es ++ e ∷ []))
    (first-true (is_listed s f) (are_listed s es) h)
    (listed-behind s e es idle (second-true (is_listed s f) (are_listed s es) h))

-- The list of names

pub number-back : (n : ℕ) → seat_of (actor_at n) ≡ n
number-back zero = refl
number-back (suc zero) = refl
number-back (suc (suc n)) = refl

pub keeps-inserted : (a : Actor) (s t : Names) → Updates by_name s t a true → Keeps s t
keeps-inserted a s t updates n h =
    updates.0 (actor_at n) ∙ by (at a (actor_at n))
  where
    by : (b : Bool) → cond b true (lists s n) ≡ true
    by true = refl
    by false = h

pub has-inserted : (a : Actor) (s t : Names) → Updates by_name s t a true
    → lists t (seat_of a) ≡ true
has-inserted a s t updates =
    ap (contains by_name t) (seat-back a) ∙ updates.1

pub agree-removed : (a : Actor) (s t : Names) → Updates by_name s t a false
    → AgreeApart (seat_of a) s t
agree-removed a s t updates m apart =
    updates.0 (actor_at m)
    ∙ ap (λ (b : Bool). cond b false (lists s m))
    (at-seats a (actor_at m) ∙ ap (λ k. seat_of a == k) (number-back m) ∙ apart)

-- another name goes than that of agents
pub agents-stay : (a : Actor) (s t : Names) → (a ≡ Actor.Agents → ⊥) → Updates by_name s t a false
    → lists_agents t ≡ lists_agents s
agents-stay Actor.Agents s t other updates = absurd (other refl)
agents-stay Actor.Bare s t other updates = updates.0 Actor.Agents
agents-stay (Actor.Session n) s t other updates = updates.0 Actor.Agents

-- a list of the same names
pub keeps-same : (s t : Names) → t.keys ≡ s.keys → Keeps s t
keeps-same s t same n h = ap (list_any (at (actor_at n))) same ∙ h

-- a call that fails or not
pub either-way : {X E : Type 0} {A B C : Type 0} (r : Result X E) → OnOk r A → OnErr r B → (A → C)
    → (B → C) → C
either-way (Ok x) a b done failed = done a
either-way (Err e) a b done failed = failed b

pub on-err : {X E : Type 0} {A : Type 0} (r : Result X E) → A → OnErr r A
on-err (Ok x) a = tt
on-err (Err e) a = a

-- the newest request is taken back
busy-back : (ws : List Waiting) (h : Option WorkInHand)
    → (is_some h || has_waiting (take (length ws - 1) ws)) ≡ true
    → (is_some h || has_waiting ws) ≡ true
busy-back ws (Some h) busy = refl
busy-back [] None busy = absurd (true≢false (sym busy))
busy-back (w ∷ ws) None busy = refl

pub newest-busy : (a : ActorData) → is_busy (without_newest a) ≡ true → is_busy a ≡ true
newest-busy a busy = busy-back a.waiting a.hand busy
