-- A request is queued and taken back, and a seat is vacated: the entries of the map, seen as data.
use Rattle.std.proofs.Common.{◌≡◌, ℕ, ◌-◌, ◌==◌, Bool, true, false, List, [], ◌∷◌, ◌++◌, map, take}
use Rattle.std.proofs.Common.{length, Option, Some, None, is_some, option_map, refl, sym, ap, ◌∙◌}
use Rattle.std.proofs.Common.{arith, length-append}
use Rattle.std.specs.Map.{keys_of, lookup, set_value}
use Rattle.std.proofs.lemmas.Bool.{eqb-true}
use Rattle.std.proofs.lemmas.List.{take_at}
use Rattle.std.proofs.lemmas.Map.Steps.{set_value_same}
use Rattle.ref_table.specs.Numbered.{Entry, entry, part_under, with_part}
use Rattle.server_rules.specs.Operating.{with_vacated_seat}
use Rattle.server_rules.specs.Tenant.{actor_at}
use Rattle.server_rules.specs.Request.{Waiting, WorkInHand}
use Rattle.server_rules.specs.Tenant.{ActorData, seat_of}
use Rattle.server_rules.specs.declared.actor.Actor.{Actor}
use Rattle.tenant_parts.specs.Queues.{changed_found, with_changed_actor, with_request}
use Rattle.tenant_parts.specs.Queues.{without_newest}
use Rattle.tenant_parts.specs.Queues.{vacated_found, vacated_at}
use Rattle.tenant_parts.specs.View.{hand_view, actor_view}
use Rattle.tenant_parts.specs.declared.request.WorkInHand as code
use Rattle.tenant_parts.specs.declared.actor.ActorState.{ActorState}
use Rattle.tenant_parts.proofs.EntryLaws.{found_first, replaced_first, part_under-with_part}
use Rattle.tenant_parts.proofs.EntryLaws.{with_part-twice}
use Rattle.tenant_parts.proofs.Seats.{Entries, seen, at, part_under-seen, absent-seen, seat-back}
use Rattle.tenant_parts.proofs.Seats.{with_part-seen}

-- what is put back changes nothing
pub with_part-same : {A : Type 0} (n : ℕ) (x : A) (es : List (Entry A))
    → part_under n es ≡ Some x → with_part n x es ≡ es
with_part-same n x [] h = refl
with_part-same {A} n x (e ∷ es) h =
    by (n == e.number) (λ is. eqb-true n e.number is) h (λ g. with_part-same n x es g)
  where
    by : (b : Bool) → (b ≡ true → n ≡ e.number) → found_first b e.part (part_under n es) ≡ Some x
        → (part_under n es ≡ Some x → with_part n x es ≡ es) → replaced_first b n x e es ≡ e ∷ es
    by true same g ih =
        let part : e.part ≡ x = cc in
        ap (λ (k : ℕ). entry k x ∷ es) (same refl) ∙ ap (λ (y : A). entry e.number y ∷ es) (sym part)
    by false same g ih = ap (λ (l : List (Entry A)). e ∷ l) (ih g)

pub state-part_under : (a : Actor) (v : ActorState) (es : Entries)
    → lookup (at a) es ≡ Some v → part_under (seat_of a) (seen es) ≡ Some (actor_view v)
state-part_under a v es is = sym (part_under-seen a es) ∙ ap (option_map actor_view) is

-- a change of the actor of a name, and none where it is not there
pub changed-seen : (a : Actor) (f : ActorData → ActorData) (v w : ActorState) (es : Entries)
    → lookup (at a) es ≡ Some v → actor_view w ≡ f (actor_view v)
    → seen (set_value (at a) es w) ≡ with_changed_actor (seat_of a) f (seen es)
changed-seen a f v w es is step =
    with_part-seen a w es
    ∙ ap (λ (x : ActorData). with_part (seat_of a) x (seen es)) step
    ∙ sym (ap (changed_found (seat_of a) f (seen es)) (state-part_under a v es is))

pub kept-seen : (a : Actor) (v w : ActorState) (es : Entries)
    → lookup (at a) es ≡ Some v → actor_view w ≡ actor_view v
    → seen (set_value (at a) es w) ≡ seen es
kept-seen a v w es is same =
    with_part-seen a w es
    ∙ with_part-same (seat_of a) (actor_view w) (seen es)
    (state-part_under a v es is ∙ ap (λ (x : ActorData). Some x) (sym same))

pub absent-changed : (a : Actor) (f : ActorData → ActorData) (es : Entries)
    → lookup (at a) es ≡ None → seen es ≡ with_changed_actor (seat_of a) f (seen es)
absent-changed a f es absent =
    sym (ap (changed_found (seat_of a) f (seen es)) (absent-seen a es absent))

-- the newest request is taken back
newest-back : (w : Waiting) (actor : ActorData) → without_newest (with_request w actor) ≡ actor
newest-back w actor =
    let long : length (actor.waiting ++ w ∷ []) - 1 ≡ length actor.waiting =
    let n = length-append actor.waiting (w ∷ []) in omega arith in
    ap (λ (ws : List Waiting). record actor { waiting = ws })
    (ap (λ (n : ℕ). take n (actor.waiting ++ w ∷ [])) long
    ∙ take_at actor.waiting (w ∷ []) (length actor.waiting) refl)

pub queued-back : (n : ℕ) (w : Waiting) (es : List (Entry ActorData))
    → with_changed_actor n without_newest (with_changed_actor n (with_request w) es) ≡ es
queued-back n w es = by (part_under n es) refl
  where
    by : (o : Option ActorData) → part_under n es ≡ o
        → with_changed_actor n without_newest (changed_found n (with_request w) es o) ≡ es
    by None is = ap (changed_found n without_newest es) is
    by (Some actor) is =
        let more = with_request w actor in
        let now : part_under n (with_part n more es) ≡ Some more =
        part_under-with_part n more es ∙ ap (option_map (λ _. more)) is in
        ap (changed_found n without_newest (with_part n more es)) now
        ∙ with_part-twice n (without_newest more) more es
        ∙ ap (λ (x : ActorData). with_part n x es) (newest-back w actor)
        ∙ with_part-same n actor es is

-- a seat is vacated
pub absent-vacated : (a : Actor) (es : Entries)
    → lookup (at a) es ≡ None → seen es ≡ vacated_at (seat_of a) (seen es)
absent-vacated a es absent =
    sym (ap (vacated_found (seat_of a) (seen es)) (absent-seen a es absent))

pub with_vacated_seat-seen : (a : Actor) (v : ActorState) (es : Entries) → lookup (at a) es ≡ Some v
    → vacated_at (seat_of a) (seen es) ≡ with_vacated_seat (seat_of a) (actor_view v).hand (seen es)
with_vacated_seat-seen a v es is = ap (vacated_found (seat_of a) (seen es)) (state-part_under a v es is)

pub with_vacated_seat-closed : (n : ℕ) (o : Option WorkInHand) (es : List (Entry ActorData)) → is_some o ≡ true
    → with_vacated_seat n o es ≡ with_part n (record { waiting = []; hand = o; is_closed = true }) es
with_vacated_seat-closed n (Some h) es is = refl
with_vacated_seat-closed n None es is = absurd (cc)

pub with_vacated_seat-gone : (n : ℕ) (o : Option WorkInHand) (es : List (Entry ActorData)) → o ≡ None
    → with_vacated_seat n o es ≡ with_vacated_seat n None es
with_vacated_seat-gone n o es none = ap (λ o. with_vacated_seat n o es) none

pub still-some : (o : Option code.WorkInHand) → is_some o ≡ true → is_some (option_map hand_view o) ≡ true
still-some (Some h) is = refl
still-some None is = absurd (cc)

pub still-none : (o : Option code.WorkInHand) → is_some o ≡ false → option_map hand_view o ≡ None
still-none (Some h) is = absurd (cc)
still-none None is = refl

-- what is read through a reference and not written stays
pub unwritten : (a : Actor) (v : ActorState) (es : Entries) {fs : Entries} → fs ≡ set_value (at a) es v
    → lookup (at a) es ≡ Some v → fs ≡ es
unwritten a v es is part_under = is ∙ set_value_same (at a) es v part_under

-- the names, in order
pub names-seen : (es : Entries) → keys_of es ≡ map (λ e. actor_at e.number) (seen es)
names-seen [] = refl
names-seen (e ∷ es) =
    ap (λ (a : Actor). a ∷ keys_of es) (sym (seat-back e.0))
    ∙ ap (λ (l : List Actor). actor_at (seat_of e.0) ∷ l) (names-seen es)
