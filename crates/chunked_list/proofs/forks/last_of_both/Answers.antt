use Rattle.std.proofs.Common.{sym, ◌∙◌}
use Rattle.chunked_list.proofs.Tickets.{last-some, some-there}
use Rattle.chunked_list.proofs.forks.last_of_both.Goals as goal

pub returns-else-is_empty : goal.returns-else-is_empty
returns-else-is_empty c =
    c.last-else-is_empty.ensures
    ∙ sym (last-some c.args.left.now.items c.args.right.now.items (some-there c.args.right.now.items (sym c.is_empty.ensures ∙ c.if-is_empty.false)))
