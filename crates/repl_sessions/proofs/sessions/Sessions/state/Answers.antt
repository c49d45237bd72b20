use Rattle.std.proofs.Common.{◌∙◌, ap, sym, option_map}
use Rattle.repl_sessions.specs.Sessions.{state_of}
use Rattle.repl_sessions.specs.Named.{NamedSessions}
use Rattle.repl_sessions.specs.Inside.StateView.{state_view}
use Rattle.repl_sessions.proofs.Numbers.{state-behind, state-found}
use Rattle.repl_sessions.proofs.sessions.Sessions.state.Goals as goal

pub returns : goal.returns
returns c =
    state-behind c.get.result ∙ ap (option_map state_view) c.get.ensures.value ∙ sym (state-found c.self.inside.live.entries c.args.number)
    ∙ ap (λ (s : NamedSessions). state_of s.sessions c.args.number) c.self.view_is
