use Rattle.std.proofs.Common.{◌∙◌, sym, ap, option_map}
use Rattle.tenant_parts.specs.View.{actor_view, run_view}
use Rattle.tenant_world.specs.Answers.{told_ending}
use Rattle.tenant_world.proofs.Ends.{passes-so, fails-so, passes-uncompared}
use Rattle.tenant_world.proofs.ending.compare_if_due.Goals as goal

pub returns-in-Some-clause-passed : goal.returns-in-Some-clause-passed
returns-in-Some-clause-passed c = λ g t q right r.
    passes-so g (actor_view c.args.state.now) q (told_ending c.args.ending.now) _ c.compare.result
    (sym (c.run_to_compare.ensures g t q r) ∙ ap (option_map (λ it. run_view it.now)) c.in-Some.is)
    (c.compare.ensures.told g right)

pub returns-in-Some-clause-failed : goal.returns-in-Some-clause-failed
returns-in-Some-clause-failed c = λ g t q right r.
    fails-so g (actor_view c.args.state.now) q (told_ending c.args.ending.now) _ c.compare.result
    (sym (c.run_to_compare.ensures g t q r) ∙ ap (option_map (λ it. run_view it.now)) c.in-Some.is)
    (c.compare.ensures.told g right)

pub returns-in-None-clause-passed : goal.returns-in-None-clause-passed
returns-in-None-clause-passed c = λ g t q right r.
    passes-uncompared g (actor_view c.args.state.now) q (told_ending c.args.ending.now)
    (ap (option_map (λ it. run_view it.now)) (sym c.in-None.is) ∙ c.run_to_compare.ensures g t q r)
