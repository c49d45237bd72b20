-- The actors by their seats: the entries of the map, seen as data.
use Rattle.std.proofs.Common.{◌≡◌, ℕ, ◌<◌, suc, Bool, true, false, cond, ◌==◌, List, [], ◌∷◌, ◌++◌}
use Rattle.std.proofs.Common.{map, Option, Some, None, option_map, refl, sym, ap, ◌∙◌, arith}
use denote.Ref.{Bor, MutBor}
use Rattle.std.specs.Option.{option_copied, option_copied_mut}
use Rattle.std.specs.Ordering.{nat_cmp, is_eq, match_ordering, MatchOrdering}
use Rattle.std.specs.declared.cmp.Ordering.{Ordering}
use Rattle.std.specs.declared.cmp.Ordering.TheVariants.{Less, Equal, Greater}
use Rattle.std.specs.Cmp.{unsigned_tied, nat_cmp_is}
use Rattle.std.specs.BTreeMap.{insert_entry, is_at}
use Rattle.std.specs.Map.{lookup, remove_entry, set_value}
use Rattle.std.proofs.lemmas.Bool.{eqb-true}
use Rattle.std.proofs.lemmas.Cmp.{ranked}
use Rattle.std.proofs.lemmas.List.{map-append}
use Rattle.ref_table.specs.Numbered.{Entry, entry, part_under, with_part, without}
use Rattle.server_rules.specs.Tenant.{ActorData, actor_at, seat_of}
use Rattle.server_rules.specs.declared.actor.Actor.{Actor}
use Rattle.server_rules.specs.contracts.actor.ActorOrd.TheImpl as ord
use Rattle.tenant_parts.specs.View.{actor_view, actor_entry_view, AreBelow}
use Rattle.tenant_parts.specs.declared.actor.ActorState.{ActorState}
use Rattle.tenant_parts.proofs.EntryLaws.{found_first, replaced_first, without_first}
use Rattle.tenant_parts.proofs.EntryLaws.{with_part-nothing, without-nothing}

abbrev pub Entries : Type 0
Entries = List (Actor × ActorState)

abbrev pub seen : Entries → List (Entry ActorData)
seen es = map actor_entry_view es

-- the derived order of names
abbrev pub by_name : Actor → Actor → Ordering
by_name = (ord.ghosts).cmp

abbrev pub at : Actor → Actor → Bool
at a = is_at (by_name a)

-- it is that of the seats
pub by-seats : (a b : Actor) → by_name a b ≡ nat_cmp (seat_of a) (seat_of b)
by-seats Actor.Agents Actor.Agents = nat_cmp_is 0 0 Equal refl
by-seats Actor.Agents Actor.Bare = nat_cmp_is 0 1 Less (omega (arith))
by-seats Actor.Agents (Actor.Session n) = nat_cmp_is 0 (suc (suc n)) Less (omega (arith))
by-seats Actor.Bare Actor.Agents = nat_cmp_is 1 0 Greater (omega (arith))
by-seats Actor.Bare Actor.Bare = nat_cmp_is 1 1 Equal refl
by-seats Actor.Bare (Actor.Session n) = nat_cmp_is 1 (suc (suc n)) Less (omega (arith))
by-seats (Actor.Session m) Actor.Agents = nat_cmp_is (suc (suc m)) 0 Greater (omega (arith))
by-seats (Actor.Session m) Actor.Bare = nat_cmp_is (suc (suc m)) 1 Greater (omega (arith))
by-seats (Actor.Session m) (Actor.Session n) =
    let order = nat_cmp m n in
    nat_cmp_is (suc (suc m)) (suc (suc n)) order (by order (ranked m n order refl))
  where
    by : (o : Ordering) → MatchOrdering o (m < n) (m ≡ n) (n < m)
        → MatchOrdering o (suc (suc m) < suc (suc n)) (suc (suc m) ≡ suc (suc n))
        (suc (suc n) < suc (suc m))
    by Less h = omega (arith, h)
    by Equal h = ap (λ k. suc (suc k)) h
    by Greater h = omega (arith, h)

pub at-seats : (a b : Actor) → at a b ≡ (seat_of a == seat_of b)
at-seats a b = ap is_eq (by-seats a b) ∙ unsigned_tied (seat_of a) (seat_of b)

pub seat-back : (a : Actor) → actor_at (seat_of a) ≡ a
seat-back Actor.Agents = refl
seat-back Actor.Bare = refl
seat-back (Actor.Session n) = refl

pub part_under-seen : (a : Actor) (es : Entries)
    → option_map actor_view (lookup (at a) es) ≡ part_under (seat_of a) (seen es)
part_under-seen a [] = refl
part_under-seen a (e ∷ es) =
    ap (λ (b : Bool). option_map actor_view (cond b (Some e.1) (lookup (at a) es))) (at-seats a e.0)
    ∙ by (part_under-seen a es) (seat_of a == seat_of e.0)
  where
    by : option_map actor_view (lookup (at a) es) ≡ part_under (seat_of a) (seen es) → (b : Bool)
        → option_map actor_view (cond b (Some e.1) (lookup (at a) es))
        ≡ found_first b (actor_view e.1) (part_under (seat_of a) (seen es))
    by behind true = refl
    by behind false = behind

pub absent-seen : (a : Actor) (es : Entries)
    → lookup (at a) es ≡ None → part_under (seat_of a) (seen es) ≡ None
absent-seen a es absent = sym (part_under-seen a es) ∙ ap (option_map actor_view) absent

-- an actor behind a reference
pub behind-reference : (o : Option (Bor ActorState))
    → option_map (λ it. actor_view it.now) o ≡ option_map actor_view (option_copied o)
behind-reference (Some x) = refl
behind-reference None = refl

pub behind-lent : (o : Option (MutBor ActorState))
    → option_map (λ it. actor_view it.now) o ≡ option_map actor_view (option_copied_mut o)
behind-lent (Some x) = refl
behind-lent None = refl

pub with_part-seen : (a : Actor) (w : ActorState) (es : Entries)
    → seen (set_value (at a) es w) ≡ with_part (seat_of a) (actor_view w) (seen es)
with_part-seen a w [] = refl
with_part-seen a w (e ∷ es) =
    ap (λ (b : Bool). seen (put_first b)) (at-seats a e.0)
    ∙ by (with_part-seen a w es) (seat_of a == seat_of e.0)
    (λ is. eqb-true (seat_of a) (seat_of e.0) is)
  where
    put_first : Bool → Entries
    put_first b = cond b ((e.0, w) ∷ es) (e ∷ set_value (at a) es w)

    by : seen (set_value (at a) es w) ≡ with_part (seat_of a) (actor_view w) (seen es)
        → (b : Bool) → (b ≡ true → seat_of a ≡ seat_of e.0)
        → seen (put_first b) ≡ replaced_first b (seat_of a) (actor_view w) (actor_entry_view e) (seen es)
    by behind true same = ap (λ (n : ℕ). entry n (actor_view w) ∷ seen es) (sym (same refl))
    by behind false same = ap (λ (l : List (Entry ActorData)). actor_entry_view e ∷ l) behind

pub stays-seen : (a : Actor) (w : ActorState) (es : Entries) → lookup (at a) es ≡ None
    → seen es ≡ with_part (seat_of a) (actor_view w) (seen es)
stays-seen a w es absent =
    sym (with_part-nothing (seat_of a) (actor_view w) (seen es) (absent-seen a es absent))

taken-seen : (a : Actor) (es : Entries)
    → without (seat_of a) (seen (remove_entry (at a) es)) ≡ without (seat_of a) (seen es)
taken-seen a [] = refl
taken-seen a (e ∷ es) =
    ap (λ (b : Bool). without (seat_of a) (seen (left_first b))) (at-seats a e.0)
    ∙ by (taken-seen a es) (seat_of a == seat_of e.0) refl
  where
    left_first : Bool → Entries
    left_first b = cond b es (e ∷ remove_entry (at a) es)

    by : without (seat_of a) (seen (remove_entry (at a) es)) ≡ without (seat_of a) (seen es)
        → (b : Bool) → (seat_of a == seat_of e.0) ≡ b
        → without (seat_of a) (seen (left_first b))
        ≡ without_first b (actor_entry_view e) (without (seat_of a) (seen es))
    by behind true is = refl
    by behind false is =
        let left = without (seat_of a) (seen (remove_entry (at a) es)) in
        ap (λ (b : Bool). without_first b (actor_entry_view e) left) is
        ∙ ap (λ (l : List (Entry ActorData)). actor_entry_view e ∷ l) behind

-- the first entry of a name is taken out, and there is no further one
pub removed-seen : (a : Actor) (es fs : Entries) → fs ≡ remove_entry (at a) es
    → lookup (at a) fs ≡ None → seen fs ≡ without (seat_of a) (seen es)
removed-seen a es fs taken absent =
    sym (without-nothing (seat_of a) (seen fs) (absent-seen a fs absent))
    ∙ ap (λ (l : Entries). without (seat_of a) (seen l)) taken ∙ taken-seen a es

-- a name above all goes behind them
put-behind : (a : Actor) (v : ActorState) (es : Entries) → AreBelow (seat_of a) (seen es)
    → insert_entry by_name es a v ≡ es ++ (a, v) ∷ []
put-behind a v [] below = refl
put-behind a v (e ∷ es) below =
    ap (λ (o : Ordering). match_ordering o ((a, v) ∷ e ∷ es) ((e.0, v) ∷ es)
    (e ∷ insert_entry by_name es a v))
    (by-seats a e.0 ∙ sym (nat_cmp_is (seat_of a) (seat_of e.0) Greater below.0))
    ∙ ap (λ (l : Entries). e ∷ l) (put-behind a v es below.1)

pub added-seen : (a : Actor) (v : ActorState) (es : Entries) → AreBelow (seat_of a) (seen es)
    → seen (insert_entry by_name es a v) ≡ seen es ++ actor_entry_view (a, v) ∷ []
added-seen a v es below =
    ap seen (put-behind a v es below) ∙ map-append actor_entry_view es ((a, v) ∷ [])
