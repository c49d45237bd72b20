-- The machine as it begins stands for the server to which nobody came.
use Rattle.std.proofs.Common.{◌≡◌, ◌∙◌, ◌⊎◌, inl, inr, ℕ, [], refl, sym, ap, subst, List, None, Ok, Err}
use Rattle.std.proofs.Common.{Result}
use Rattle.std.specs.List.{AllByRecursion}
use Rattle.value_data.specs.Datum.{shared, tenant}
use Rattle.repl_values.specs.Failure.{Failure}
use Rattle.name_spaces.specs.Inside.Seen.{shared_bindings}
use Rattle.server_rules.specs.Ground.{Ground}
use Rattle.server_rules.specs.Shared.{SharedData, shared_by_text}
use Rattle.ref_history.specs.Versioned.{Ref}
use Rattle.server_rules.specs.Machine.World.{opened_world}
use Rattle.tenant_parts.specs.Serving.{RingRefTable}
use Rattle.tenant_parts.specs.Sound.{IsSoundRef, AreSound}
use Rattle.shared_space.specs.Holding.{HoldsRefs}
use Rattle.shared_space.specs.Loaded.{IsLoaded}
use Rattle.shared_space.specs.declared.space.SharedSpace.{SharedSpace}
use Rattle.evaluation_rules.specs.Evaluation.{evaluation}
use Rattle.server_rules.specs.Readings.{Readings, AreRight}
use Rattle.repl_core.specs.Configured.{IsConfigured, shared_text}
use Rattle.repl_core.specs.Starting.{HasFault}
use Rattle.repl_core.specs.Standing.{MachineStands, around_in, is_reached}
use Rattle.repl_core.specs.TenantAt.{tenant_at}
use Rattle.repl_core.specs.declared.machine.Config.{Config}
use Rattle.repl_core.specs.declared.machine.Machine.{Machine}
use Rattle.repl_core.specs.declared.machine.TheConstants.{PLACES}
use Rattle.repl_core.proofs.Places.{place-none}

ok-same : (x y : SharedData) (r : Result SharedData Failure) → r ≡ Ok x → r ≡ Ok y → x ≡ y
ok-same x y r one other = cc

held-sound : (table : RingRefTable) (rs : List Ref) (h : HoldsRefs table rs) → AreSound h.all
held-sound table rs h shared = subst (AllByRecursion IsSoundRef) (sym h.common) h.sound
held-sound table rs h (tenant t) = subst (AllByRecursion IsSoundRef) (sym (h.none t)) tt

held-around : (table : RingRefTable) (rs : List Ref) (h : HoldsRefs table rs)
    → around_in h.all ≡ record { counter = 0; refs = rs }
held-around table rs h =
    ap (λ n. record { counter = n; refs = h.all.owned shared }) h.counter
    ∙ ap (λ refs. record { counter = 0; refs = refs }) h.common

-- the fields of a machine that was just made
pub record IsFirst (m : Machine) (config : Config) (space : SharedSpace) : Type 0 where
  pub names : m.names ≡ space.names
  pub refs : m.refs ≡ space.refs
  pub seed : m.seed ≡ config.seed
  pub steps : m.steps ≡ config.steps
  pub retries : m.retries ≡ config.retries
  pub places : m.places ≡ PLACES
  pub tenants : (t : ℕ) → tenant_at m.tenants t ≡ None
  pub newest : m.newest ≡ None
  pub places_taken : m.places_taken ≡ 0

pub stands-first : (g : Ground) (config : Config) (m : Machine) (space : SharedSpace)
    → IsConfigured g config → IsFirst m config space
    → IsLoaded (shared_by_text g.readings g.evaluation (shared_text config.shared)) space
    → MachineStands g m (opened_world g)
stands-first g config m space it first loaded =
    let s = loaded.0 in
    let same : s ≡ g.shared = ok-same s g.shared _ loaded.1 it.shared in
    let held : HoldsRefs m.refs g.shared.refs =
    subst (λ t. HoldsRefs t g.shared.refs) (sym first.refs)
    (subst (λ d. HoldsRefs space.refs d.refs) same loaded.2.refs) in
    record {
      names = ap (λ d. d.names) (sym same) ∙ sym loaded.2.names
          ∙ ap shared_bindings (sym first.names);
      seed = it.seed ∙ sym first.seed;
      steps = it.steps ∙ sym first.steps;
      retries = it.retries ∙ sym first.retries;
      places = it.places ∙ sym first.places;
      refs = held.all;
      table = held.stands;
      sound = held-sound m.refs g.shared.refs held;
      around = sym (held-around m.refs g.shared.refs held);
      tenants = λ t. place-none g held.all t _ _ (first.tenants t) refl (held.none t);
      newest = λ u. ap (λ n. is_reached n u) (sym first.newest);
      places_taken = sym first.places_taken;
    }

not-both : {X : Type 0} (s : SharedData) (f : Failure) (r : Result SharedData Failure)
    → r ≡ Ok s → r ≡ Err f → X
not-both s f r one other = absurd (cc)

-- a text that came to something has no fault
pub there-is : (config : Config) (space : SharedSpace)
    → ((g : Ground) × IsConfigured g config) ⊎ HasFault config
    → ((r : Readings) → AreRight r
    → IsLoaded (shared_by_text r evaluation (shared_text config.shared)) space)
    → (g : Ground) × IsConfigured g config
there-is config space (inl it) loaded = it
there-is config space (inr h) loaded =
    let so = loaded h.readings h.right in
    not-both so.0 h.failure (shared_by_text h.readings evaluation (shared_text config.shared)) so.1 h.faults
