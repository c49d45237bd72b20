use Rattle.std.proofs.Common.{refl, subst}
use Rattle.server_rules.specs.Shared.{shared_by_text}
use Rattle.shared_space.specs.Loaded.{IsLoaded}
use Rattle.evaluation_rules.specs.Evaluation.{evaluation}
use Rattle.repl_core.proofs.Starting.{stands-first, there-is}
use Rattle.repl_core.proofs.machine.Machine.new.Goals as goal

pub returns-clause-stands : goal.returns-clause-stands
returns-clause-stands c = λ g it.
    stands-first g c.args.config.now _ c.in_ok-shared.shared it
    (record {
      names = refl;
      refs = refl;
      seed = refl;
      steps = refl;
      retries = refl;
      places = refl;
      tenants = c.new.ensures;
      newest = refl;
      places_taken = refl;
    })
    (subst (λ t. IsLoaded (shared_by_text g.readings g.evaluation t) c.in_ok-shared.shared)
    c.as_str.ensures
    (c.in_ok-shared.ensures.loaded g.readings g.evaluation it.right.readings
    it.evaluates.evaluation))

pub returns-clause-grounded : goal.returns-clause-grounded
returns-clause-grounded c =
    there-is c.args.config.now c.in_ok-shared.shared
    (c.every_configuration_has_a_ground.ensures c.args.config.now)
    (λ r right. subst (λ t. IsLoaded (shared_by_text r evaluation t) c.in_ok-shared.shared)
    c.as_str.ensures (c.in_ok-shared.ensures.loaded r evaluation right (λ job. refl)))
