use Rattle.std.proofs.Common.{[], sym, ap, ◌∙◌, Ok}
use Rattle.bencode_wire.specs.Inside.Reader.{open_view, token_view}
use Rattle.bencode_wire.proofs.Tokens.{partial, large}
use Rattle.bencode_wire.proofs.cut.Reader.keep.Goals as goal

pub returns-then-is_large-clause-reads : goal.returns-then-is_large-clause-reads
returns-then-is_large-clause-reads c = λ j y other small.
    let fs = open_view c.args.self.now.frames in
    large c.args.limit other j fs (token_view [] c.in-Ok-Partial.token)
    (partial j fs c.args.progress c.in-Ok-Partial.token (c.in-Ok-Partial.is ∙ ap Ok c.in-Ok-Partial.field-0-is) y [])
    (sym (c.is_large.ensures []) ∙ c.if-is_large.true)
