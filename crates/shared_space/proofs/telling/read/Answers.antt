use Rattle.std.proofs.Common.{◌≡◌, [], refl, subst, sym, ap, ◌∙◌}
use Rattle.repl_asks.specs.Inside.View.{name_view}
use Rattle.ref_history.specs.RingHistories.{RingStands}
use Rattle.ref_table.specs.Standing.{TableStands}
use Rattle.ref_table.specs.Told.{reading_told}
use Rattle.shared_space.proofs.Holding.{holds-still, read-leaves, read-value}
use Rattle.shared_space.proofs.telling.read.Goals as goal

pub returns-in_err-read-clause-stays : goal.returns-in_err-read-clause-stays
returns-in_err-read-clause-stays c = λ rs h.
    holds-still rs c.args.refs.now c.read.new.self h (c.in_err-read.ensures.as_it_was h.all h.stands)

pub returns-in-Some-clause-read : goal.returns-in-Some-clause-read
returns-in-Some-clause-read c = λ rs h.
    ap reading_told (sym c.in-Some.is) ∙ (c.in_ok-read.ensures.read h.all [] 0 h.stands refl).told
    ∙ read-value c.args.refs.now rs h (name_view c.args.name)

pub returns-in-Some-clause-stays : goal.returns-in-Some-clause-stays
returns-in-Some-clause-stays c = λ rs h.
    holds-still rs c.args.refs.now c.read.new.self h
    (subst (TableStands RingStands c.read.new.self) (read-leaves h.all (name_view c.args.name))
    (c.in_ok-read.ensures.read h.all [] 0 h.stands refl).left)

pub returns-in-None-clause-read : goal.returns-in-None-clause-read
returns-in-None-clause-read c = λ rs h.
    ap reading_told (sym c.in-None.is) ∙ (c.in_ok-read.ensures.read h.all [] 0 h.stands refl).told
    ∙ read-value c.args.refs.now rs h (name_view c.args.name)

pub returns-in-None-clause-stays : goal.returns-in-None-clause-stays
returns-in-None-clause-stays c = λ rs h.
    holds-still rs c.args.refs.now c.read.new.self h
    (subst (TableStands RingStands c.read.new.self) (read-leaves h.all (name_view c.args.name))
    (c.in_ok-read.ensures.read h.all [] 0 h.stands refl).left)
