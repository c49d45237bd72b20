use Rattle.std.proofs.Common.{rules, ◌*◌, ap}
use Rattle.repl_sessions.proofs.Words.{drawn_id}
use Rattle.repl_sessions.proofs.ids.IdStream.id.Goals as goal

pub returns-clause-value : goal.returns-clause-value
returns-clause-value c =
    drawn_id c.args.self.now.seed c.args.self.now.tenant c.args.number (c.from.result * 4) c.set_word_pos.new.self c.new_v4.result _
    c.ranges.number.fits (ap (λ n. n * 4) c.from.ensures) (search rules) c.new_v4.ensures.drawn
