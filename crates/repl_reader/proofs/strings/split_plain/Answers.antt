use Rattle.repl_reader.specs.Text.{ends_plain}
use Rattle.repl_reader.proofs.Bytes.{cut_at_first, ends_plain_ascii}
use Rattle.repl_reader.proofs.Quoted.{plain_run, plain_run_ends}
use Rattle.repl_reader.proofs.strings.split_plain.Goals as goal

pub split_at-requires : goal.split_at-requires
split_at-requires c = rw c.plain_len.ensures (cut_at_first ends_plain ends_plain_ascii c.args.text.now)

pub returns-clause-same : goal.returns-clause-same
returns-clause-same c = λ s. rw (c.split_at.ensures.front, c.split_at.ensures.back, c.plain_len.ensures) (plain_run c.args.text.now s)

pub returns-clause-stops : goal.returns-clause-stops
returns-clause-stops c = rw (c.split_at.ensures.back, c.plain_len.ensures) (plain_run_ends c.args.text.now)
