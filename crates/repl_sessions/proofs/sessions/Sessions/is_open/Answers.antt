use Rattle.std.proofs.Common.{◌∙◌, ap, sym}
use Rattle.repl_sessions.specs.Sessions.{is_open}
use Rattle.repl_sessions.specs.Named.{NamedSessions}
use Rattle.repl_sessions.proofs.Numbers.{is_open-among}
use Rattle.repl_sessions.proofs.sessions.Sessions.is_open.Goals as goal

pub returns : goal.returns
returns c =
    c.contains_key.ensures ∙ sym (is_open-among c.self.inside.live.entries c.args.number)
    ∙ ap (λ (s : NamedSessions). is_open s.sessions c.args.number) c.self.view_is
