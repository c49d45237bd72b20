use Rattle.std.proofs.Common.{◌∙◌, ap, sym, option_map}
use Rattle.server_rules.specs.Machine.Ready as rules
use Rattle.repl_core.proofs.Places.{shown-of}
use Rattle.repl_core.proofs.machine.Machine.ready.Goals as goal

pub returns : goal.returns
returns c = λ g w s.
    shown-of g c.args.self.now w c.args.number _ rules.ready c.ready.result s
    (sym c.get.ensures ∙ ap (option_map (λ it. it.now)) c.in_ok-get.was)
    (λ q st stands. c.ready.ensures g q st stands)
