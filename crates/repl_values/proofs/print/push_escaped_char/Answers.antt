use Rattle.std.proofs.Common.{arith, rules}
use Rattle.repl_values.proofs.Escapes as escapes
use Rattle.repl_values.proofs.print.push_escaped_char.Goals as goal

pub returns-in-34 : goal.returns-in-34
returns-in-34 c = rw (escapes.escaped-quote c.args.c c.in-34.is) (search rules)

pub returns-in-92 : goal.returns-in-92
returns-in-92 c = rw (escapes.escaped-backslash c.args.c c.in-92.is) (search rules)

pub returns-in-10 : goal.returns-in-10
returns-in-10 c = rw (escapes.escaped-newline c.args.c c.in-10.is) (search rules)

pub returns-in-9 : goal.returns-in-9
returns-in-9 c = rw (escapes.escaped-tab c.args.c c.in-9.is) (search rules)

pub returns-in-13 : goal.returns-in-13
returns-in-13 c = rw (escapes.escaped-return c.args.c c.in-13.is) (search rules)

pub returns-in-12 : goal.returns-in-12
returns-in-12 c = rw (escapes.escaped-formfeed c.args.c c.in-12.is) (search rules)

pub returns-in-8 : goal.returns-in-8
returns-in-8 c = rw (escapes.escaped-backspace c.args.c c.in-8.is) (search rules)

pub returns-in_default : goal.returns-in_default
returns-in_default c = rw (escapes.escaped-plain c.args.c (omega arith) (omega arith) (omega arith) (omega arith) (omega arith) (omega arith) (omega arith)) (search rules)
