use Rattle.tenant_world.proofs.starting.post_effects.Goals as goal

pub returns-clause-taken : goal.returns-clause-taken
returns-clause-taken c = λ g t q m r tells.
    c.post_with_state.ensures.taken g t q m r tells.replies tells.state
