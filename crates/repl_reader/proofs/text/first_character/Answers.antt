use Rattle.std.proofs.Common.{sym, ◌∙◌}
use Rattle.repl_reader.proofs.Bytes.{cut_behind_character}
use Rattle.repl_reader.proofs.text.first_character.Goals as goal

pub range-requires-clause-end_boundary : goal.range-requires-clause-end_boundary
range-requires-clause-end_boundary c = rw c.len_utf8.ensures.value
    (cut_behind_character c.args.text.now _ c.in-Some.character c.utf8.text (sym c.chars-characters.ensures.rest ∙ c.in-Some.ensures.steps.0))
