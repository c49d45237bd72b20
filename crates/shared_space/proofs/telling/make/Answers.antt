use Rattle.std.proofs.Common.{◌≡◌, ◌∷◌, [], ◌++◌, length, subst, ap, ◌∙◌}
use Rattle.value_data.specs.Datum.{shared}
use Rattle.value_data.specs.Inside.View.{view}
use Rattle.repl_asks.specs.Inside.View.{name_view}
use Rattle.ref_history.specs.RingHistories.{RingStands}
use Rattle.ref_table.specs.Refs.{with_ref}
use Rattle.ref_table.specs.Standing.{TableStands}
use Rattle.shared_space.proofs.Holding.{first_shared, holds-made, holds-still}
use Rattle.shared_space.proofs.Results.{on-ok, on-err, if-ok}
use Rattle.shared_space.proofs.telling.make.Goals as goal

pub returns-clause-made : goal.returns-clause-made
returns-clause-made c = λ rs h.
    on-ok _ _ c.make.result
    (λ stands. holds-made rs (view c.args.value.now) c.args.refs.now c.make.new.self h
    (subst (λ d. TableStands RingStands c.make.new.self (with_ref shared (first_shared d) h.all))
    c.in_ok-copy.ensures stands))
    (c.make.ensures.made h.all h.stands)

pub returns-clause-name : goal.returns-clause-name
returns-clause-name c = λ rs h.
    if-ok _ _ c.make.result
    (λ name is. ap name_view is
    ∙ ap (λ xs. record { owner = shared; number = length xs }) h.common)
    (c.make.ensures.name h.all h.stands)

pub returns-clause-stays : goal.returns-clause-stays
returns-clause-stays c = λ rs h.
    on-err _ _ c.make.result (holds-still rs c.args.refs.now c.make.new.self h)
    (c.make.ensures.as_it_was h.all h.stands)
