use Rattle.std.proofs.Common.{◌∙◌, sym, ap}
use Rattle.std.specs.Arc.{arc_str_bytes}
use Rattle.repl_asks.specs.Exchange.{resolution, done}
use Rattle.repl_asks.specs.Inside.View.{ask_view}
use Rattle.name_spaces.specs.Inside.Seen.{namespaces_of, shared_in}
use Rattle.name_spaces.specs.Resolving as names
use Rattle.server_rules.specs.Tenant.{actor_state}
use Rattle.server_rules.specs.Asking.{resolution_of, answer_to}
use Rattle.tenant_asks.proofs.naming.answer_of.Goals as goal

pub returns-in_ok-resolution_of-in-Resolve : goal.returns-in_ok-resolution_of-in-Resolve
returns-in_ok-resolution_of-in-Resolve c = λ g t q r.
    let a = c.args.actor in
    let state = actor_state a q in
    let spaces = namespaces_of c.args.memory.now.spaces in
    let shared = shared_in c.args.memory.now.spaces in
    let namespace = arc_str_bytes c.in-Resolve.namespace in
    let symbol = arc_str_bytes c.in-Resolve.symbol in
    let found = c.in_ok-found-in-Resolve.ensures
    ∙ ap (λ x. names.resolved shared spaces x c.as_str-in-Resolve.result.now)
    c.as_str.ensures.value
    ∙ ap (λ x. names.resolved shared spaces namespace x) c.as_str-in-Resolve.ensures.value
    ∙ ap (λ x. names.resolved x spaces namespace symbol) (sym r.names)
    ∙ ap (λ x. names.resolved g.shared.names x namespace symbol) r.spaces in
    ap resolution (c.in_ok-resolution_of-in-Resolve.ensures g t q r ∙ ap (resolution_of state) found)
    ∙ ap (λ x. answer_to g a q (ask_view x) done) (sym c.in-Resolve.is)
