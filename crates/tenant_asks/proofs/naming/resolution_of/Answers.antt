use Rattle.std.proofs.Common.{◌∙◌, sym, ap}
use Rattle.repl_asks.specs.Exchange.{names_value}
use Rattle.name_spaces.specs.Inside.Seen.{found_view}
use Rattle.server_rules.specs.Tenant.{actor_state}
use Rattle.server_rules.specs.Asking.{resolution_of}
use Rattle.tenant_asks.proofs.naming.resolution_of.Goals as goal

pub returns-in_ok-latest_value-in-Latest : goal.returns-in_ok-latest_value-in-Latest
returns-in_ok-latest_value-in-Latest c = λ g t q r.
    let state = actor_state c.args.actor q in
    ap names_value (c.in_ok-latest_value-in-Latest.ensures g t q r)
    ∙ ap (λ x. resolution_of state (found_view x)) (sym c.in-Latest.is)
