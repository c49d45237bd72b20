use Rattle.std.proofs.Common.{rules, refl, sym, ap, ◌∙◌, option_map}
use Rattle.std.specs.Cmp.{unsigned_tied}
use Rattle.std.specs.Box.{with_value}
use Rattle.std.proofs.lemmas.Bool.{ne_eqb}
use Rattle.repl_core.specs.TenantAt.{tenant_at}
use Rattle.repl_core.proofs.tenants.Tenants.get_mut.Goals as goal

pub returns-in-Some : goal.returns-in-Some
returns-in-Some c = (
  (
    refl,
    λ w.
        let t = c.args.number in
        let written = c.get_mut.follows.holds (with_value c.in-Some.place.now w) in
        let updates = written.3 (search (rules)) in
        record {
          put = ap (option_map (λ p. p.value)) updates.1;
          others = λ u apart. ap (option_map (λ p. p.value)) (updates.2 u (unsigned_tied t u ∙ ne_eqb t u (λ e. apart (sym e))));
        },
    λ u. refl,
  ),
  record { writes_back = tt; value = search (rules) },
)

pub returns-in-None : goal.returns-in-None
returns-in-None c = (
  (refl, λ w. tt, λ u. ap (λ m. tenant_at (record { alloc = c.args.self.now.alloc; live = m }) u) c.get_mut.follows.holds-at-none),
  record { writes_back = tt; value = search (rules) },
)
