use Rattle.std.proofs.Common.{[], sym, ap, ◌∙◌, is_some}
use Rattle.repl_asks.specs.Inside.View.{ask_view, name_view}
use Rattle.server_rules.specs.Shared.{told_in_text}
use Rattle.shared_space.proofs.Holding.{untold-read}
use Rattle.shared_space.proofs.telling.is_told.Goals as goal

pub returns-in-Read : goal.returns-in-Read
returns-in-Read c = λ s h no.
    ap (λ a. told_in_text (ask_view a) s) c.in-Read.is
    ∙ untold-read c.args.refs.now s.refs h (name_view c.in-Read.name)
    (ap is_some (sym (c.history_count.ensures h.all [] h.stands)) ∙ sym c.is_some.ensures ∙ no)
