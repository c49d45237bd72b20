use Rattle.std.proofs.Common.{rules, ap, sym, ◌∙◌, option_and_then, Some}
use Rattle.std.specs.Box.{with_value}
use Rattle.std.proofs.lemmas.Bool.{ne_eqb}
use Rattle.server_rules.specs.Tenant.{seat_of}
use Rattle.tenant_parts.proofs.Seats.{at-seats}
use Rattle.repl_core.proofs.walks.Walks.put.Goals as goal

pub returns-in-Some-clause-others : goal.returns-in-Some-clause-others
returns-in-Some-clause-others c = λ b apart.
    let a = c.args.actor in
    let written = c.get_mut.follows.holds (with_value c.in-Some.place.now (Some c.args.reached)) in
    let other = at-seats a b ∙ ne_eqb (seat_of a) (seat_of b) (λ e. apart (sym e)) in
    ap (option_and_then (λ place. place.value)) ((written.3 (search (rules))).2 b other)
