-- An ending with the job and the trace that are kept in the server is so for its tenant.
use Rattle.std.proofs.Common.{◌≡◌, ◌∙◌, ℕ, Some, option_and_then, refl, sym, ap}
use Rattle.repl_asks.specs.Job.{EndingData}
use Rattle.server_rules.specs.Ground.{Ground}
use Rattle.ref_table.specs.Numbered.{part_under}
use Rattle.server_rules.specs.Plan.{ends}
use Rattle.ref_table.specs.Store.{Store}
use Rattle.server_rules.specs.Tenant.{TenantState, seat_of}
use Rattle.server_rules.specs.Machine.World.{World, does}
use Rattle.server_rules.specs.declared.actor.Actor.{Actor}
use Rattle.tenant_world.specs.Running.{IsEndOfForm, running_of, running_in}
use Rattle.tenant_world.specs.Standing as world
use Rattle.tenant_world.specs.declared.tenant.Tenant.{Tenant}
use Rattle.repl_core.specs.AttemptsUnderWay.{form_in}
use Rattle.repl_core.specs.Kept.{EndsAsKept}
use Rattle.repl_core.specs.Standing.{MachineStands, open_in}
use Rattle.repl_core.specs.TenantAt.{tenant_at}
use Rattle.repl_core.specs.declared.machine.Machine.{Machine}
use Rattle.repl_core.proofs.Places.{kept-at}

pub end-of-kept : (g : Ground) (w : World) (t : ℕ) (a : Actor) (m : Machine) (was : Tenant)
    (e : EndingData) (s : MachineStands g m w) → tenant_at m.tenants t ≡ Some was
    → EndsAsKept w (does t (ends a e)) → (q : TenantState) (st : Store) → world.StandsForState g was q st
    → IsEndOfForm (running_in a q) e.end e
end-of-kept g w t a m was e s there known q st stands =
    let found = kept-at g s.refs t was (tenant_at m.tenants t) (open_in t w) (s.tenants t) there in
    let same : running_in a q ≡ form_in t a w =
    ap (λ actors. running_of (part_under (seat_of a) actors))
    (sym stands.actors ∙ (found.2.stands w.around).actors)
    ∙ sym (ap (option_and_then (λ kept. running_in a kept.state)) found.1) in
    record {
      end = refl;
      job = λ run is. (known run (sym same ∙ is)).0;
      trace = λ run is. (known run (sym same ∙ is)).1;
    }
