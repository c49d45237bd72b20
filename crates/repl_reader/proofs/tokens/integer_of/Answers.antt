use Rattle.std.proofs.Common.{◌∙◌, sym}
use Rattle.repl_reader.proofs.Number.{number_is}
use Rattle.repl_reader.proofs.tokens.integer_of.Goals as goal

pub returns : goal.returns
returns c = c.ok.ensures.value ∙ number_is c.args.token.now c.parse.result c.parse.ensures.value.0
    (rw (c.without_sign.ensures, c.as_bytes.ensures.value) at (sym c.has_leading_zero.ensures ∙ c.if-has_leading_zero.false))
