-- A tenant that names no shared ref is served as if it were alone: induction over the turns.
use Rattle.std.proofs.Common.{◌≡◌, ◌≢◌, ℕ, List, [], ◌∷◌, ◌++◌, Bool, true, false, if◌then◌else◌}
use Rattle.std.proofs.Common.{Option, Some, None, refl, sym, ap, ap₂, ◌∙◌, subst, ◌==◌, nat_le}
use Rattle.std.proofs.Common.{arith, ◌⊎◌, inl, inr, ◌||◌}
use Rattle.std.specs.Prelude.{option_map}
use Rattle.std.proofs.lemmas.Bool.{eqb-true, eqb-false, eq-eqb, cases_Bool, le-leb, lt-leb}
use Rattle.std.proofs.lemmas.Bool.{leb-false, or_left, or_right, MatchBool-at_true}
use Rattle.std.proofs.lemmas.Bool.{MatchBool-at_false}
use Rattle.ref_table.specs.Numbered.{Entry, entry, part_under}
use Rattle.server_rules.specs.Ground.{Ground}
use Rattle.server_rules.specs.Tenant.{TenantState}
use Rattle.server_rules.specs.Plan.{Deed, tenant_opened, tenant_gone, Outcome, refuses}
use Rattle.server_rules.specs.Plan.{leaves}
use Rattle.server_rules.specs.Machine.World.{TenantData, World, Step, opens, does, closes, Stepped}
use Rattle.server_rules.specs.Machine.World.{accepted, refused, is_used, open_count, opened_tenant}
use Rattle.server_rules.specs.Machine.World.{deed_step, close_step, step, world_or, run}
use Rattle.server_rules.specs.Honest.{honest_deed}
use Rattle.server_rules.specs.Machine.Turns.{whose_step, Turn, given, goes, whose, tenant_state_of}
use Rattle.server_rules.specs.Machine.Turns.{step_of, turn_step, world_after, bytes_given, serve}
use Rattle.server_rules.specs.Plan.{bytes_in}
use Rattle.server_rules.specs.Machine.Turns.{turns_of_tenant}
use Rattle.server_rules.specs.Isolation.View.{Seen, View, tenant_view, part_view, view_for}
use Rattle.server_rules.specs.Isolation.Privacy.{NamesNoShared, IsPrivateFor, Private, IsAccepted, FirstOpen}
use Rattle.server_rules.specs.declared.refusal.Refusal.{Refusal}
use Rattle.server_rules.proofs.Numbered.{none-some, some-same, part_under-new}
use Rattle.server_rules.proofs.Steps.{SeenStepped, not_done, done_so, ended_seen, step_seen}
use Rattle.server_rules.proofs.Steps.{seen_step, SoundWorld, room, step-seen, step-other}
use Rattle.server_rules.proofs.Steps.{step-sound}

abbrev comes : ℕ → Turn
comes t = given (opens t)

-- What a step of a tenant that was opened comes to, as far as it is seen by that tenant

abbrev pub closed_seen : Option View → SeenStepped
closed_seen None = not_done Refusal.NoSuchTenant
closed_seen (Some v) = done_so (Some None) tenant_gone

abbrev pub by_step_seen : Ground → ℕ → Option View → Step → SeenStepped
by_step_seen g t v (opens u) = not_done Refusal.NumberUsed
by_step_seen g t v (does u d) = step_seen g t (Some v) d
by_step_seen g t v (closes u) = closed_seen v

used-found : (t : ℕ) (part : Option TenantData) (es : List (Entry (Option TenantData)))
    → part_under t es ≡ Some part → is_used t es ≡ true
used-found t part [] here = absurd (none-some here)
used-found t part (e ∷ es) here = elim (cases_Bool (t == e.number)) [
  | inl same ↦ or_left (nat_le t e.number) (is_used t es)
      (le-leb t e.number (omega (arith, eqb-true t e.number same)))
  | inr apart ↦ or_right (nat_le t e.number) (is_used t es) (used-found t part es
      (ap (λ b. if b then Some e.part else part_under t es) (sym apart) ∙ here))
]

found-some
    : (part : Option (Option TenantData)) (v : Option View) → option_map part_view part ≡ Some v
    → (p : Option TenantData) × (part ≡ Some p)
found-some None v e = absurd (none-some e)
found-some (Some p) v e = (p, refl)

close-seen
    : (w : World) (t : ℕ) (part : Option (Option TenantData)) (v : Option View)
    → part_under t w.tenants ≡ part → option_map part_view part ≡ Some v
    → seen_step t (close_step w t part) ≡ closed_seen v
close-seen w t None v here e = absurd (none-some e)
close-seen w t (Some None) v here e = ap closed_seen (some-same None v e)
close-seen w t (Some (Some tenant)) v here e =
    ap (λ part. done_so (option_map part_view part) tenant_gone)
    (part_under-new t None (Some tenant) w.tenants here)
    ∙ ap closed_seen (some-same (Some (tenant_view tenant)) v e)

none-asked : (t : ℕ) (d : Deed) → IsPrivateFor t (does t d) → NamesNoShared d
none-asked t d h = MatchBool-at_true (NamesNoShared d) _ (eq-eqb t t refl) h

pub own-step
    : (g : Ground) (w : World) (s : Step) (v : Option View) → SoundWorld w
    → view_for (whose_step s) w ≡ Some v → IsPrivateFor (whose_step s) s
    → seen_step (whose_step s) (step g w s) ≡ by_step_seen g (whose_step s) v s
unfolding step
own-step g w (opens u) v sound e private =
    let there = found-some (part_under u w.tenants) v e in
    ap (λ b. seen_step u (if b then refused Refusal.NumberUsed
    else room g w u (nat_le g.places (open_count w.tenants))))
    (used-found u there.0 w.tenants there.1)
own-step g w (does u d) v sound e private =
    step-seen g w u d sound (none-asked u d private) ∙ ap (λ v. step_seen g u v d) e
own-step g w (closes u) v sound e private = close-seen w u (part_under u w.tenants) v refl e

-- What is given, and what is seen then

bytes_seen : SeenStepped → List ℕ
bytes_seen (not_done why) = []
bytes_seen (done_so v answer) = bytes_in answer

bytes-seen : (t : ℕ) (s : Stepped) → bytes_given s ≡ bytes_seen (seen_step t s)
unfolding bytes_seen
bytes-seen t (refused why) = refl
bytes-seen t (accepted w answer) = refl

pub view_after : Option (Option View) → SeenStepped → Option (Option View)
view_after old (not_done why) = old
view_after old (done_so new answer) = new

pub view_for-after : (t : ℕ) (w : World) (s : Stepped)
    → view_for t (world_or w s) ≡ view_after (view_for t w) (seen_step t s)
unfolding view_after
view_for-after t w (refused why) = refl
view_for-after t w (accepted new answer) = refl

-- a tenant that was opened stays so
Opened : Option (Option View) → Type 0
Opened v = (part : Option View) × (v ≡ Some part)

outcome-opened : (v : Option View) (s : Seen) (o : Outcome)
    → Opened (view_after (Some v) (ended_seen s o))
unfolding Opened view_after
outcome-opened v s (refuses why) = (v, refl)
outcome-opened v s (leaves q answer) = (_, refl)

step_seen-opened : (g : Ground) (t : ℕ) (v : Option View) (d : Deed)
    → Opened (view_after (Some v) (step_seen g t (Some v) d))
unfolding Opened view_after
step_seen-opened g t None d = (None, refl)
step_seen-opened g t (Some v) d = outcome-opened (Some v) _ _

closed-opened : (v : Option View) → Opened (view_after (Some v) (closed_seen v))
unfolding Opened view_after
closed-opened None = (None, refl)
closed-opened (Some v) = (None, refl)

turn-opened : (g : Ground) (t : ℕ) (v : Option View) (s : Step)
    → Opened (view_after (Some v) (by_step_seen g t v s))
unfolding Opened view_after
turn-opened g t v (opens u) = (v, refl)
turn-opened g t v (does u d) = step_seen-opened g t v d
turn-opened g t v (closes u) = closed-opened v

-- Two servers in which a tenant that was opened sees the same

record SeenBy (g : Ground) (t : ℕ) (w : World) (s : Step) (v : Option View) : Type 0 where
  bytes : bytes_given (step g w s) ≡ bytes_seen (by_step_seen g t v s)
  after : view_for t (world_or w (step g w s)) ≡ view_after (Some v) (by_step_seen g t v s)

opened-view_for
    : (t : ℕ) (g : Ground) (w : World) (s : Step) (v : Option View) → SoundWorld w
    → t ≡ whose_step s → view_for t w ≡ Some v → IsPrivateFor t s → SeenBy g t w s v
opened-view_for t g w s v sound mine e private = subst P (sym mine) here e private where
  P : ℕ → Type 0
  P t = view_for t w ≡ Some v → IsPrivateFor t s → SeenBy g t w s v

  here : P (whose_step s)
  here e private =
      let same = own-step g w s v sound e private in
      record {
        bytes = bytes-seen (whose_step s) (step g w s) ∙ ap bytes_seen same;
        after = view_for-after (whose_step s) w (step g w s) ∙ ap₂ view_after e same;
      }

world_after-sound : (g : Ground) (w : World) (turn : Turn) → SoundWorld w → SoundWorld (world_after g w turn)
world_after-sound g w turn sound = step-sound g w (step_of g w turn) sound

whose-step : (g : Ground) (w : World) (turn : Turn) → whose_step (step_of g w turn) ≡ whose turn
whose-step g w (given s) = refl
whose-step g w (goes u a) = refl

world_after-other : (g : Ground) (w : World) (turn : Turn) (t : ℕ) → t ≢ whose turn
    → part_under t (world_after g w turn).tenants ≡ part_under t w.tenants
world_after-other g w turn t other =
    step-other g w (step_of g w turn) t (λ e. other (e ∙ whose-step g w turn))

serve-own
    : (g : Ground) (w : World) (turn : Turn) (turns : List Turn) (t : ℕ)
    → (t == whose turn) ≡ true
    → serve g w (turn ∷ turns) t
    ≡ bytes_given (turn_step g w turn) ++ serve g (world_after g w turn) turns t
serve-own g w turn turns t e =
    ap (λ b. (if b then bytes_given (turn_step g w turn) else []) ++ serve g (world_after g w turn) turns t) e

serve-other
    : (g : Ground) (w : World) (turn : Turn) (turns : List Turn) (t : ℕ)
    → (t == whose turn) ≡ false → serve g w (turn ∷ turns) t ≡ serve g (world_after g w turn) turns t
serve-other g w turn turns t e =
    ap (λ b. (if b then bytes_given (turn_step g w turn) else []) ++ serve g (world_after g w turn) turns t) e

turns_of_tenant-own : (t : ℕ) (turn : Turn) (turns : List Turn) → (t == whose turn) ≡ true
    → turns_of_tenant t (turn ∷ turns) ≡ turn ∷ turns_of_tenant t turns
turns_of_tenant-own t turn turns e = ap (λ b. if b then turn ∷ turns_of_tenant t turns else turns_of_tenant t turns) e

turns_of_tenant-other : (t : ℕ) (turn : Turn) (turns : List Turn) → (t == whose turn) ≡ false
    → turns_of_tenant t (turn ∷ turns) ≡ turns_of_tenant t turns
turns_of_tenant-other t turn turns e = ap (λ b. if b then turn ∷ turns_of_tenant t turns else turns_of_tenant t turns) e

-- the steps are the same where the views are

view_state : Option View → Option TenantState
view_state = option_map (λ v. v.state)

quiet-seen : (part : Option (Option TenantData))
    → option_map tenant_state_of part ≡ option_map view_state (option_map part_view part)
unfolding view_state
quiet-seen None = refl
quiet-seen (Some None) = refl
quiet-seen (Some (Some tenant)) = refl

same-step
    : (g : Ground) (t : ℕ) (w x : World) (turn : Turn) → t ≡ whose turn → view_for t w ≡ view_for t x
    → step_of g w turn ≡ step_of g x turn
same-step g t w x (given s) mine e = refl
same-step g t w x (goes u a) mine e =
    let same : view_for u w ≡ view_for u x = subst (λ n. view_for n w ≡ view_for n x) mine e in
    ap (λ q. does u (honest_deed g a q))
    (quiet-seen (part_under u w.tenants) ∙ ap (option_map view_state) same
    ∙ sym (quiet-seen (part_under u x.tenants)))

opened-alone
    : (g : Ground) (t : ℕ) (turns : List Turn) (w x : World) → SoundWorld w → SoundWorld x
    → Opened (view_for t w) → view_for t w ≡ view_for t x → Private g w turns t
    → serve g w turns t ≡ serve g x (turns_of_tenant t turns) t
unfolding Opened
opened-alone g t [] w x sound_w sound_x opened same private = refl
opened-alone g t (turn ∷ turns) w x sound_w sound_x opened same private =
    elim (cases_Bool (t == whose turn)) [
      | inl mine ↦
          let own = eqb-true t (whose turn) mine in
          let v : Option View = opened.0 in
          let here : view_for t w ≡ Some v = opened.1 in
          let there : view_for t x ≡ Some v = sym same ∙ opened.1 in
          let by = own ∙ sym (whose-step g w turn) in
          let in_w = opened-view_for t g w (step_of g w turn) v sound_w by here private.0 in
          let alike = same-step g t w x turn own same in
          let in_x = opened-view_for t g x (step_of g x turn) v sound_x
          (own ∙ sym (whose-step g x turn)) there
          (subst (IsPrivateFor t) alike private.0) in
          serve-own g w turn turns t mine
          ∙ ap₂ ◌++◌
          (in_w.bytes ∙ ap (λ s. bytes_seen (by_step_seen g t v s)) alike ∙ sym in_x.bytes)
          (opened-alone g t turns (world_after g w turn) (world_after g x turn)
          (world_after-sound g w turn sound_w) (world_after-sound g x turn sound_x)
          (subst Opened (sym in_w.after) (turn-opened g t v (step_of g w turn)))
          (in_w.after ∙ ap (λ s. view_after (Some v) (by_step_seen g t v s)) alike
          ∙ sym in_x.after) private.1)
          ∙ sym (serve-own g x turn (turns_of_tenant t turns) t mine)
          ∙ sym (ap (λ ts. serve g x ts t) (turns_of_tenant-own t turn turns mine))
      | inr apart ↦
          let kept : view_for t (world_after g w turn) ≡ view_for t w =
          ap (option_map part_view) (world_after-other g w turn t (eqb-false t (whose turn) apart)) in
          serve-other g w turn turns t apart
          ∙ opened-alone g t turns (world_after g w turn) x (world_after-sound g w turn sound_w) sound_x
          (subst Opened (sym kept) opened) (kept ∙ same) private.1
          ∙ sym (ap (λ ts. serve g x ts t) (turns_of_tenant-other t turn turns apart))
    ]

-- Before the tenant is opened

-- a turn of a tenant that was never opened is refused, but for its Open
abbrev IsOpen : Turn → Type 0
IsOpen (given (opens u)) = Unit {0}
IsOpen (given (does u d)) = ⊥
IsOpen (given (closes u)) = ⊥
IsOpen (goes u a) = ⊥

absent-turn : (g : Ground) (w : World) (turn : Turn) → (IsOpen turn → ⊥)
    → part_under (whose turn) w.tenants ≡ None → turn_step g w turn ≡ refused Refusal.NoSuchTenant
unfolding step
absent-turn g w (given (opens u)) closed e = absurd (closed tt)
absent-turn g w (given (does u d)) closed e = ap (deed_step g w u d) e
absent-turn g w (given (closes u)) closed e = ap (close_step w u) e
absent-turn g w (goes u a) closed e =
    ap (deed_step g w u (honest_deed g a (option_map tenant_state_of (part_under u w.tenants)))) e

open-or-not : (turn : Turn) → IsOpen turn ⊎ (IsOpen turn → ⊥)
open-or-not (given (opens u)) = inl tt
open-or-not (given (does u d)) = inr (λ h. h)
open-or-not (given (closes u)) = inr (λ h. h)
open-or-not (goes u a) = inr (λ h. h)

open-turn : (turn : Turn) → IsOpen turn → turn ≡ comes (whose turn)
open-turn (given (opens u)) h = refl
open-turn (given (does u d)) h = absurd h
open-turn (given (closes u)) h = absurd h
open-turn (goes u a) h = absurd h

first-later
    : (g : Ground) (w : World) (turn : Turn) (turns : List Turn) (t : ℕ)
    → (IsOpen turn → (t == whose turn) ≡ false) → FirstOpen g w (turn ∷ turns) t
    → FirstOpen g (world_after g w turn) turns t
first-later g w (given (opens u)) turns t other h =
    MatchBool-at_false _ (FirstOpen g (world_after g w (comes u)) turns t) (other tt) h
first-later g w (given (does u d)) turns t other h = h
first-later g w (given (closes u)) turns t other h = h
first-later g w (goes u a) turns t other h = h

-- what an accepted Open leaves
after_open : Ground → World → ℕ → World
after_open g w t = record w { tenants = entry t (Some (opened_tenant g)) ∷ w.tenants }

accepted-room
    : (g : Ground) (w : World) (t : ℕ) (full : Bool) → IsAccepted (room g w t full)
    → (full ≡ false) × (room g w t full ≡ accepted (after_open g w t) tenant_opened)
unfolding after_open
accepted-room g w t true h = absurd h
accepted-room g w t false h = (refl, refl)

accepted-open
    : (g : Ground) (w : World) (t : ℕ) (used : Bool)
    → let full = nat_le g.places (open_count w.tenants) in
    let s = (if used then refused Refusal.NumberUsed else room g w t full) in
    IsAccepted s → (full ≡ false) × (s ≡ accepted (after_open g w t) tenant_opened)
accepted-open g w t true h = absurd h
accepted-open g w t false h = accepted-room g w t (nat_le g.places (open_count w.tenants)) h

accepted-step
    : (g : Ground) (w : World) (t : ℕ) → IsAccepted (step g w (opens t))
    → (nat_le g.places (open_count w.tenants) ≡ false)
    × (step g w (opens t) ≡ accepted (after_open g w t) tenant_opened)
unfolding step
accepted-step g w t h = accepted-open g w t (is_used t w.tenants) h

opened-sees : (g : Ground) (w : World) (t : ℕ)
    → view_for t (after_open g w t) ≡ Some (Some (tenant_view (opened_tenant g)))
unfolding after_open
opened-sees g w t =
    ap (λ b. option_map part_view (if b then Some (Some (opened_tenant g)) else part_under t w.tenants))
    (eq-eqb t t refl)

empty-opens
    : (g : Ground) (x : World) (t : ℕ) → x.tenants ≡ [] → nat_le g.places 0 ≡ false
    → step g x (opens t) ≡ accepted (after_open g x t) tenant_opened
unfolding after_open step
empty-opens g x t none roomy =
    ap (λ es. if is_used t es then refused Refusal.NumberUsed
    else room g x t (nat_le g.places (open_count es))) none
    ∙ ap (room g x t) roomy

open-alone
    : (g : Ground) (t : ℕ) (turns : List Turn) (w x : World) → SoundWorld w → SoundWorld x
    → x.tenants ≡ [] → FirstOpen g w (comes t ∷ turns) t → Private g w (comes t ∷ turns) t
    → serve g w (comes t ∷ turns) t ≡ serve g x (comes t ∷ turns_of_tenant t turns) t
unfolding Opened
open-alone g t turns w x sound_w sound_x none first private =
    let here : (t == t) ≡ true = eq-eqb t t refl in
    let in_w = accepted-step g w t
    (MatchBool-at_true _ (FirstOpen g (world_after g w (comes t)) turns t) here first) in
    let places : nat_le g.places 0 ≡ false =
    lt-leb g.places 0 (omega (arith, leb-false g.places (open_count w.tenants) in_w.0)) in
    let in_x = empty-opens g x t none places in
    let new : Option (Option View) = Some (Some (tenant_view (opened_tenant g))) in
    let view_w : view_for t (world_after g w (comes t)) ≡ new =
    ap (λ s. view_for t (world_or w s)) in_w.1 ∙ opened-sees g w t in
    let view_x : view_for t (world_after g x (comes t)) ≡ new =
    ap (λ s. view_for t (world_or x s)) in_x ∙ opened-sees g x t in
    serve-own g w (comes t) turns t here
    ∙ ap₂ ◌++◌ (ap bytes_given in_w.1 ∙ sym (ap bytes_given in_x))
    (opened-alone g t turns (world_after g w (comes t)) (world_after g x (comes t))
    (world_after-sound g w (comes t) sound_w) (world_after-sound g x (comes t) sound_x)
    (Some (tenant_view (opened_tenant g)), view_w) (view_w ∙ sym view_x) private.1)
    ∙ sym (serve-own g x (comes t) (turns_of_tenant t turns) t here)

pub before-alone
    : (g : Ground) (t : ℕ) (turns : List Turn) (w x : World) → SoundWorld w → SoundWorld x
    → part_under t w.tenants ≡ None → x.tenants ≡ [] → FirstOpen g w turns t → Private g w turns t
    → serve g w turns t ≡ serve g x (turns_of_tenant t turns) t
before-alone g t [] w x sound_w sound_x absent none first private = refl
before-alone g t (turn ∷ turns) w x sound_w sound_x absent none first private =
    elim (cases_Bool (t == whose turn)) [
      | inl mine ↦
          let own = eqb-true t (whose turn) mine in
          (elim (open-or-not turn)
          as (λ o. serve g w (turn ∷ turns) t ≡ serve g x (turn ∷ turns_of_tenant t turns) t) [
            | inl is_open ↦
                let is : turn ≡ comes t = open-turn turn is_open ∙ ap comes (sym own) in
                let P : Turn → Type 0 = λ turn.
                FirstOpen g w (turn ∷ turns) t → Private g w (turn ∷ turns) t
                → serve g w (turn ∷ turns) t ≡ serve g x (turn ∷ turns_of_tenant t turns) t in
                let here : P (comes t) = open-alone g t turns w x sound_w sound_x none in
                subst P (sym is) here first private
            | inr closed ↦
                let out_w = absent-turn g w turn closed
                (subst (λ n. part_under n w.tenants ≡ None) own absent) in
                let out_x = absent-turn g x turn closed (ap (part_under (whose turn)) none) in
                serve-own g w turn turns t mine
                ∙ ap (λ s. bytes_given s ++ serve g (world_after g w turn) turns t) out_w
                ∙ before-alone g t turns (world_after g w turn) x (world_after-sound g w turn sound_w) sound_x
                (ap (λ s. part_under t (world_or w s).tenants) out_w ∙ absent) none
                (first-later g w turn turns t (λ o. absurd (closed o)) first) private.1
                ∙ sym (ap (λ s. bytes_given s ++ serve g (world_or x s) (turns_of_tenant t turns) t) out_x)
                ∙ sym (serve-own g x turn (turns_of_tenant t turns) t mine)
          ])
          ∙ sym (ap (λ ts. serve g x ts t) (turns_of_tenant-own t turn turns mine))
      | inr apart ↦
          serve-other g w turn turns t apart
          ∙ before-alone g t turns (world_after g w turn) x (world_after-sound g w turn sound_w) sound_x
          (world_after-other g w turn t (eqb-false t (whose turn) apart) ∙ absent) none
          (first-later g w turn turns t (λ o. apart) first) private.1
          ∙ sym (ap (λ ts. serve g x ts t) (turns_of_tenant-other t turn turns apart))
    ]

pub run-sound : (g : Ground) (w : World) (steps : List Step) → SoundWorld w
    → SoundWorld (run g w steps)
run-sound g w [] sound = sound
run-sound g w (s ∷ ss) sound =
    run-sound g (world_or w (step g w s)) ss (step-sound g w s sound)
