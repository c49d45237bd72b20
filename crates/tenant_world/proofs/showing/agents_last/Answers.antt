use Rattle.std.proofs.Common.{◌∙◌, ◌++◌, ◌∷◌, [], ap, not, rules}
use Rattle.std.proofs.lemmas.Fn.{filter_same}
use Rattle.server_rules.specs.LoneTurns.{is_of_agents}
use Rattle.server_rules.specs.declared.actor.Actor.{Actor}
use Rattle.tenant_world.proofs.showing.agents_last.Goals as goal

pub returns : goal.returns
returns c =
    c.in_ok-push.ensures.items
    ∙ ap (λ xs. xs ++ Actor.Agents ∷ []) (filter_same _ (λ a. not (is_of_agents a)) _
    (λ x b f' k. search rules) _ _ c.retain.ensures.filtered)
