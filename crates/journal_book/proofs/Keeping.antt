-- A machine that keeps a journal keeps it with one entry more, and answers as the journal leads.
use Rattle.std.proofs.Common.{◌≡◌, ◌≢◌, ◌∙◌, List, [], ◌∷◌, ◌++◌, refl, sym, ap, subst}
use Rattle.std.proofs.Common.{Result, Ok, Err, IfErr, ℕ, Option, None, Some, option_map}
use Rattle.std.specs.Result.{IsErrAnd}
use Rattle.server_rules.specs.Ground.{Ground}
use Rattle.server_rules.specs.Plan.{StepAnswer}
use Rattle.ref_table.specs.Store.{Store}
use Rattle.server_rules.specs.Tenant.{TenantState}
use Rattle.server_rules.specs.Machine.World.{TenantData, World, Step, opened_world, accepted}
use Rattle.server_rules.specs.Machine.World.{refused, step}
use Rattle.server_rules.specs.declared.refusal.Refusal.{Refusal}
use Rattle.tenant_world.specs.Standing as world
use Rattle.tenant_world.specs.declared.tenant.Tenant.{Tenant}
use Rattle.repl_core.specs.Standing.{MachineStands, open_in, store_in}
use Rattle.repl_core.specs.Steps.{AcceptsStep, RefusesStep}
use Rattle.repl_core.specs.TenantAt.{tenant_at}
use Rattle.repl_core.proofs.Places.{kept-at, none-at}
use Rattle.repl_core.specs.declared.machine.Machine.{Machine}
use Rattle.journal_book.specs.Journal.{EntryData, IsJournal}
use Rattle.journal_book.specs.Standing.{KeepsJournal, entry_of}
use Rattle.journal_book.proofs.Journals.{join, leads-to-one}

pub keeps-on : (g : Ground) (old new : Machine) (before after : List EntryData) (s : Step)
    (given noted : StepAnswer) (k : KeepsJournal g old before) → AcceptsStep g k.world s new given
    → noted ≡ given → after ≡ before ++ entry_of s noted ∷ [] → KeepsJournal g new after
keeps-on g old new before after s given noted k made same is = record {
  world = made.after;
  leads = subst (λ js. IsJournal g (opened_world g) js made.after) (sym is)
      (join g (opened_world g) k.world made.after before (entry_of s noted ∷ []) k.leads
      (made.after, made.accepted ∙ ap (accepted made.after) (sym same), refl));
  stands = made.stands;
}

pub keeps-still : (g : Ground) (old new : Machine) (before : List EntryData) (s : Step)
    (why : Refusal) (k : KeepsJournal g old before) → RefusesStep g k.world s new why → KeepsJournal g new before
keeps-still g old new before s why k left = record {
  world = k.world;
  leads = k.leads;
  stands = left.stands;
}

pub answered-so : (g : Ground) (old new : Machine) (before : List EntryData) (s : Step)
    (given : StepAnswer) (k : KeepsJournal g old before) → AcceptsStep g k.world s new given
    → (w : World) → IsJournal g (opened_world g) before w
    → (after : World) × (step g w s ≡ accepted after given)
answered-so g old new before s given k made w leads =
    let same : k.world ≡ w = leads-to-one g (opened_world g) k.world w before k.leads leads in
    (made.after, subst (λ x. step g x s ≡ accepted made.after given) same made.accepted)

pub refused-so : (g : Ground) (old new : Machine) (before : List EntryData) (s : Step)
    (why : Refusal) (k : KeepsJournal g old before) → RefusesStep g k.world s new why
    → why ≢ Refusal.NoMemory → (w : World) → IsJournal g (opened_world g) before w
    → step g w s ≡ refused why
refused-so g old new before s why k left other w leads =
    let same : k.world ≡ w = leads-to-one g (opened_world g) k.world w before k.leads leads in
    subst (λ x. step g x s ≡ refused why) same (left.refused other)

pub err-so : {A E : Type 0} (P : E → Type 0) (r : Result A E) (e : E) → IsErrAnd r (λ x. x ≡ e)
    → P e → IfErr r P
err-so P (Ok x) e never p = tt
err-so P (Err x) e is p = subst P (sym is) p

-- what is so of the server that the machine stands for is so of the one to which the journal leads
pub told-so : (g : Ground) (m : Machine) (journal : List EntryData) (k : KeepsJournal g m journal)
    (w : World) → IsJournal g (opened_world g) journal w → (P : World → Type 0) → P k.world → P w
told-so g m journal k w leads P is =
    subst P (leads-to-one g (opened_world g) k.world w journal k.leads leads) is

-- what is so of each tenant that its code stands for is so of the one that is open
pub there-so : (g : Ground) (m : Machine) (w : World) (t : ℕ) (code : Tenant)
    (P : Option TenantData → Type 0) (s : MachineStands g m w) → tenant_at m.tenants t ≡ Some code
    → ((kept : TenantData) (st : Store) → world.StandsForState g code kept.state st → P (Some kept))
    → P (open_in t w)
there-so g m w t code P s there is =
    let at = kept-at g s.refs t code (tenant_at m.tenants t) (open_in t w) (s.tenants t) there in
    subst P (sym at.1) (is at.0 (store_in w.around t at.0.mine) (at.2.stands w.around))

pub gone-so : (g : Ground) (m : Machine) (w : World) (t : ℕ) (P : Option TenantData → Type 0)
    (s : MachineStands g m w) → tenant_at m.tenants t ≡ None → P None → P (open_in t w)
gone-so g m w t P s gone is =
    subst P (sym (none-at g s.refs t (tenant_at m.tenants t) (open_in t w) (s.tenants t) gone)) is

-- a tenant that is open shows what its code shows
pub shown-some : {X : Type 0} (g : Ground) (m : Machine) (w : World) (t : ℕ) (code : Tenant)
    (show : TenantState → X) (shown : X) (s : MachineStands g m w) → tenant_at m.tenants t ≡ Some code
    → ((q : TenantState) (st : Store) → world.StandsForState g code q st → shown ≡ show q)
    → Some shown ≡ option_map (λ it. show it.state) (open_in t w)
shown-some g m w t code show shown s there is =
    there-so g m w t code (λ o. Some shown ≡ option_map (λ it. show it.state) o) s there
    (λ kept st stands. ap Some (is kept.state st stands))

-- and one that is not open shows nothing
pub shown-none : {X : Type 0} (g : Ground) (m : Machine) (w : World) (t : ℕ) (show : TenantState → X)
    (s : MachineStands g m w) → tenant_at m.tenants t ≡ None
    → None ≡ option_map (λ it. show it.state) (open_in t w)
shown-none g m w t show s gone =
    gone-so g m w t (λ o. None ≡ option_map (λ it. show it.state) o) s gone refl
